-- `level::filter_one` meets its contract. Assumes nothing.
use mathlib.Core.Path.{sym, ◌∙◌}
use Rattle.level.proofs.Filtering.{filter_on, filter_off}
use Rattle.level.proofs.filter_one.Goals as goal

pub returns-then-on : goal.returns-then-on
returns-then-on c =
    let bit = c.position-bit.ensures.is in
    let on = rw bit at c.has_bit-on.ensures in
    record { on = on; words_are = c.drop_bit.ensures.words ∙ rw bit (sym (filter_on _ _ _ _ (sym on ∙ c.if-on.true))) }

pub returns-else-on : goal.returns-else-on
returns-else-on c =
    let on = rw c.position-bit.ensures.is at c.has_bit-on.ensures in
    record { on = on; words_are = sym (filter_off _ _ _ _ (sym on ∙ c.if-on.false)) }
