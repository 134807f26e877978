-- `block::is_good` meets its contract. Assumes nothing.
use mathlib.Core.Path.{◌∙◌}
use borrow.Author.Tests.{ne_eqb}
use Rattle.block.proofs.Checks.{bad_number, good_number}
use Rattle.block.proofs.is_good.Goals as goal

pub returns-then-word_at-b : goal.returns-then-word_at-b
returns-then-word_at-b c = good_number _ _ _ c.word_at.ensures c.if-word_at-b.true _ _ c.word_at-then-word_at-b.ensures c.check_at.ensures

pub returns-else-word_at-b : goal.returns-else-word_at-b
returns-else-word_at-b c = ne_eqb _ _ c.if-word_at-b.false ∙ bad_number _ _ _ c.word_at.ensures c.if-word_at-b.false
