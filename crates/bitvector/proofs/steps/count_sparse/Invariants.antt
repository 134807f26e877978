-- `bitvector::steps::count_sparse` meets its contract: the bits of the groups so far. Assumes nothing.
use mathlib.Core.Path.{◌≡◌}
use Prim.Native.Nat.{◌*◌}
use Rattle.laws.specs.Counting.{rank}
use Rattle.laws.specs.Bits.{has}
use Rattle.bitvector.proofs.steps.count_sparse.Given as goal

abbrev pub invariant-loop-group : goal.invariant-loop-group
invariant-loop-group l = l.count ≡ rank (has l.words) (64 * (l.group-index * 8))
