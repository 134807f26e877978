-- `bitvector::remove` meets its contract. Assumes nothing.
use borrow.Author.Rules.{rules}
use Rattle.bitvector.proofs.Stores.{removed}
use Rattle.bitvector.proofs.remove.Goals as goal

pub returns : goal.returns
returns c =
    let s = c.in_ok-check_sound.ensures.sound in
    let step = c.drop_bit.ensures in
    rw (step.old, step.words) (removed _ _ _ s c.in_ok-check_bit.ensures.below (λ i. search rules))
