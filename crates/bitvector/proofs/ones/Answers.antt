-- `bitvector::ones` meets its contract. Assumes nothing.
use mathlib.Core.Path.{ap}
use Prim.Native.Nat.{◌%◌}
use native.Mathlib.Nat.{mod-lt}
use native.Mathlib.Omega.{arith}
use lib.Dec.{lit<}
use Rattle.laws.proofs.Digits.{one_shl}
use Rattle.refusal.specs.Answers.{answered}
use Rattle.bitvector.proofs.Fills.{filled_whole, filled_part}
use Rattle.bitvector.proofs.ones.Goals as goal

pub returns-then-part-gt0 : goal.returns-then-part-gt0
returns-then-part-gt0 c =
    let r = c.in_ok-check_room.ensures.room in
    let n = c.args.capacity in
    rw (c.in_ok-check_room.ensures.roomy, c.fill.ensures, one_shl (n % 64) (mod-lt _ (lit< tt)))
    (ap (answered 0) (filled_part n _ c.if-part-gt0.true (omega arith)))

pub returns-else-part-gt0 : goal.returns-else-part-gt0
returns-else-part-gt0 c =
    rw (c.in_ok-check_room.ensures.roomy, c.fill.ensures)
    (ap (answered 0) (filled_whole _ _ c.if-part-gt0.false))
