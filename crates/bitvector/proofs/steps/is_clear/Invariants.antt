-- `bitvector::steps::is_clear` meets its contract: no bit in the words so far. Assumes nothing.
use mathlib.Core.Path.{◌≡◌}
use Prim.Native.Nat.{◌*◌}
use Rattle.laws.specs.Counting.{rank}
use Rattle.laws.specs.Bits.{has}
use Rattle.bitvector.proofs.steps.is_clear.Given as goal

abbrev pub invariant-loop-word : goal.invariant-loop-word
invariant-loop-word l = rank (has l.words) (64 * l.word-index) ≡ 0
