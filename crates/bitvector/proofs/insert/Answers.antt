-- `bitvector::insert` meets its contract. Assumes nothing.
use borrow.Author.Rules.{rules}
use Rattle.bitvector.proofs.Stores.{inserted}
use Rattle.bitvector.proofs.insert.Goals as goal

pub returns : goal.returns
returns c =
    let s = c.in_ok-check_sound.ensures.sound in
    let step = c.add_bit.ensures in
    rw (step.old, step.words) (inserted _ _ _ s c.in_ok-check_bit.ensures.below (λ i. search rules))
