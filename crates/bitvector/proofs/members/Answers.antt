-- `bitvector::members` meets its contract. Assumes nothing.
use mathlib.Core.Path.{sym, ◌∙◌}
use Rattle.bitvector.proofs.Fronts.{front_rank}
use Rattle.bitvector.proofs.Rising.{front_of_front, all_listed, no_room}
use Rattle.bitvector.proofs.members.Goals as goal

pub returns-then-not-has_at_most : goal.returns-then-not-has_at_most
returns-then-not-has_at_most c =
    let n = c.needed-words.ensures in
    no_room _ _ c.in_ok-check_sound.ensures.sound _
    (rw (front_rank _ _ n.front n.count) at (sym c.has_at_most.ensures ∙ c.if-not-has_at_most.true))

pub returns : goal.returns
returns c =
    let n = c.needed-words.ensures in
    all_listed _ _ c.in_ok-check_sound.ensures.sound _ _ _
    (rw (front_rank _ _ n.front n.count) at (sym c.has_at_most.ensures ∙ c.if-not-has_at_most.false))
    (front_of_front _ _ n.front n.count c.list_bits.ensures)
