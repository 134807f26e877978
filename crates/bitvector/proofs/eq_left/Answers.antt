-- `bitvector::eq_left` meets its contract. Assumes nothing.
use Rattle.bitvector.proofs.Agreement.{compared}
use Rattle.bitvector.proofs.eq_left.Goals as goal

pub returns : goal.returns
returns c =
    let s = c.in_ok-check_sound.ensures.sound in
    let t = c.in_ok-check_sound-2.ensures.sound in
    rw c.same_left.ensures (compared _ _ _ _ _ s t c.if-bit-capacity.false c.if-bit-other_capacity.false)
