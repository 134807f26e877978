-- `bitvector::steps::list_bits` meets its contract: the bits of the groups so far are at the front. Assumes nothing.
use Prim.Native.Nat.{◌*◌}
use Rattle.bitvector.specs.Steps.{Front}
use Rattle.bitvector.proofs.steps.list_bits.Given as goal

abbrev pub invariant-loop-g : goal.invariant-loop-g
invariant-loop-g l = Front l.words l.initial.out (l.g * 8) l.next l.out
