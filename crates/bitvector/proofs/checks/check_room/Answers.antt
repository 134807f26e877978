-- `bitvector::checks::check_room` meets its contract. Assumes nothing.
use native.Mathlib.Omega.{arith}
use Rattle.std.proofs.lemmas.Bool.Decides.{nat_tests}
use Rattle.bitvector.specs.Calls.{roomy}
use Rattle.bitvector.proofs.checks.check_room.Goals as goal

pub returns-then-capacity-gt-MAX_BITS : goal.returns-then-capacity-gt-MAX_BITS
unfolding roomy
returns-then-capacity-gt-MAX_BITS c = grind (arith, nat_tests)

pub returns : goal.returns
unfolding roomy
returns c = grind (arith, nat_tests)
