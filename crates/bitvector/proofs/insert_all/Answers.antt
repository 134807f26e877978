-- `bitvector::insert_all` meets its contract. Assumes nothing.
use Rattle.bitvector.proofs.Joining.{joined, joined_fronts}
use Rattle.bitvector.proofs.insert_all.Goals as goal

pub returns : goal.returns
returns c =
    let s = c.in_ok-check_sound.ensures.sound in
    let t = c.in_ok-check_sound-2.ensures.sound in
    let n = c.needed-other.ensures in
    joined _ _ _ _ s t c.if-capacity-other_capacity.false _ _ (joined_fronts _ _ _ c.in_ok-check_sound.ensures.room.1 n.front n.count c.join.ensures)
