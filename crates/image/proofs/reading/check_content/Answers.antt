-- `image::reading::check_content` meets its contract. Assumes nothing.
use mathlib.Core.Path.{sym, ap, ◌∙◌}
use mathlib.Core.Bool.{false≢true}
use native.Mathlib.Omega.{arith}
use Rattle.head.proofs.Fits.{few_used, unbounded_known}
use Rattle.image.specs.Image.{words_place}
use Rattle.image.proofs.ReadCalls.{not_held, sizes_left, other_blocks, past_clear}
use Rattle.image.proofs.reading.check_content.Goals as goal

pub returns-in_err-used : goal.returns-in_err-used
returns-in_err-used c =
    c.from_residual.ensures ∙ not_held _ _ _ _ (λ h. false≢true (sym (unbounded_known _ _ _ (sym c.in_err-used.was ∙ c.measure.ensures)) ∙ h.bounds))

pub unused_clear-requires : goal.unused_clear-requires
unused_clear-requires c = (few_used _ _ _ _ (sym c.in_ok-used.was ∙ c.measure.ensures)).few_levels

pub returns-then-not-unused_clear : goal.returns-then-not-unused_clear
returns-then-not-unused_clear c =
    sizes_left _ _ _ _ (sym c.unused_clear.ensures ∙ c.if-not-unused_clear.true)

pub overflow_add-end : goal.overflow_add-end
overflow_add-end c = let f = few_used _ _ _ _ (sym c.in_ok-used.was ∙ c.measure.ensures) in omega (arith, c.words_place.ensures, f.words)

pub overflow_add-end-2 : goal.overflow_add-end-2
overflow_add-end-2 c = let f = few_used _ _ _ _ (sym c.in_ok-used.was ∙ c.measure.ensures) in omega (arith, c.words_place.ensures, f.words, f.samples)

pub returns-then-blocks-blocks_for : goal.returns-then-blocks-blocks_for
returns-then-blocks-blocks_for c =
    other_blocks _ _ _ _ _ (sym c.in_ok-used.was ∙ c.measure.ensures) _ (c.words_place.ensures ∙ ap words_place c.requires) _ c.blocks_for.ensures c.if-blocks-blocks_for.true

pub returns : goal.returns
returns c =
    c.then_some.ensures
    ∙ past_clear _ _ _ _ _ (sym c.in_ok-used.was ∙ c.measure.ensures) _ (c.words_place.ensures ∙ ap words_place c.requires) _ c.blocks_for.ensures
    (sym c.unused_clear.ensures ∙ c.if-not-unused_clear.false) c.if-blocks-blocks_for.false _ c.content_clear.ensures
