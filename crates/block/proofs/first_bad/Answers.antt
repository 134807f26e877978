-- `block::first_bad` meets its contract. Assumes nothing.
use Rattle.std.proofs.Common.{rules, tests, ◌≡◌, true, false, ◌∙◌}
use Rattle.std.proofs.lemmas.Iterator.{first_from_Range}
use Rattle.block.specs.Block.{is_good}
use Rattle.block.proofs.Blocks.{bad_is}
use Rattle.block.proofs.first_bad.Goals as goal

pub returns : goal.returns
returns c =
    let bytes = c.args.image.now in
    c.unwrap_or.ensures
    ∙ bad_is bytes _ _ (first_from_Range _ _ _ _ (λ b. is_good bytes b ≡ false) (λ b. is_good bytes b ≡ true) c.find.ensures.ran
    (λ x q k. search (rules, tests))
    (λ x q k. (search rules, search (rules, tests))))
