-- `bitvector::steps::same_left` meets its contract: the words so far are the same. Assumes nothing.
use mathlib.Core.Path.{◌≡◌}
use mathlib.Core.Bool.{true}
use Prim.Native.Nat.{◌*◌}
use Rattle.laws.specs.Bits.{has}
use Rattle.bitvector.specs.Sets.{same_below}
use Rattle.bitvector.proofs.steps.same_left.Given as goal

abbrev pub invariant-loop-i : goal.invariant-loop-i
invariant-loop-i l = same_below (has l.words) (has l.other) (64 * l.i) ≡ true
