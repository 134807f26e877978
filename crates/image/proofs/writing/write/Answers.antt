-- `image::writing::write` meets its contract. Assumes nothing.
use mathlib.Core.Path.{◌≡◌, sym, ◌∙◌}
use native.Mathlib.Omega.{arith}
use Rattle.std.specs.Prelude.{None, Some}
use Rattle.std.proofs.lemmas.Result.{err_from_is_err_and}
use Rattle.refusal.specs.declared.Refusal.TheVariants.{UnfitHead}
use Rattle.head.proofs.Fits.{few_used, fit_unbounded}
use Rattle.image.proofs.WriteCalls.{write_unknown, write_unfit, no_room, sizes_left, image_short, image_written}
use Rattle.image.proofs.writing.write.Goals as goal

pub returns-in_err-try_from : goal.returns-in_err-try_from
returns-in_err-try_from c =
    let told = err_from_is_err_and c.from_residual.result c.from_residual.ensures.1 in
    rw (told.1, told.2) (write_unknown _ _ _ _ _ (sym c.in_err-try_from.was ∙ c.try_from.ensures))

pub returns-in_err-used : goal.returns-in_err-used
returns-in_err-used c =
    let told = err_from_is_err_and c.from_residual-in_err-used.result c.from_residual-in_err-used.ensures.1 in
    let e : c.measure.result ≡ None = grind arith in
    let why : c.in_err-used.field-0.0 ≡ UnfitHead = grind arith in
    rw (told.1, told.2, why) (write_unfit _ _ _ _ _ (sym c.in_ok-try_from.was ∙ c.try_from.ensures) (fit_unbounded _ _ _ _ _ (sym e ∙ c.measure.ensures)))

pub returns-then-not-fits : goal.returns-then-not-fits
returns-then-not-fits c =
    let e : c.measure.result ≡ Some c.in_ok-used.used = grind arith in
    no_room _ _ _ _ _ (sym c.in_ok-try_from.was ∙ c.try_from.ensures) _ (sym e ∙ c.measure.ensures) (sym c.fits.ensures ∙ c.if-not-fits.true)

pub unused_clear-requires : goal.unused_clear-requires
unused_clear-requires c =
    let e : c.measure.result ≡ Some c.in_ok-used.used = grind arith in
    (few_used _ _ _ _ (sym e ∙ c.measure.ensures)).few_levels

pub returns-then-not-unused_clear : goal.returns-then-not-unused_clear
returns-then-not-unused_clear c =
    let e : c.measure.result ≡ Some c.in_ok-used.used = grind arith in
    sizes_left _ _ _ _ _ (sym c.in_ok-try_from.was ∙ c.try_from.ensures) _ (sym e ∙ c.measure.ensures) (sym c.fits.ensures ∙ c.if-not-fits.false)
    (sym c.unused_clear.ensures ∙ c.if-not-unused_clear.true)

pub overflow_mul-blocks : goal.overflow_mul-blocks
overflow_mul-blocks c =
    let e : c.measure.result ≡ Some c.in_ok-used.used = grind arith in
    omega (arith, c.blocks_for-blocks.ensures, few_used _ _ _ _ (sym e ∙ c.measure.ensures))

pub returns-then-blocks-image : goal.returns-then-blocks-image
returns-then-blocks-image c =
    let e : c.measure.result ≡ Some c.in_ok-used.used = grind arith in
    image_short _ _ _ _ _ (sym c.in_ok-try_from.was ∙ c.try_from.ensures) _ (sym e ∙ c.measure.ensures) (sym c.fits.ensures ∙ c.if-not-fits.false)
    (sym c.unused_clear.ensures ∙ c.if-not-unused_clear.false) _ c.blocks_for-blocks.ensures c.if-blocks-image.true

pub returns : goal.returns
returns c =
    let e : c.measure.result ≡ Some c.in_ok-used.used = grind arith in
    image_written _ _ _ _ _ (sym c.in_ok-try_from.was ∙ c.try_from.ensures) _ (sym e ∙ c.measure.ensures) (sym c.fits.ensures ∙ c.if-not-fits.false)
    (sym c.unused_clear.ensures ∙ c.if-not-unused_clear.false) _ c.blocks_for-blocks.ensures c.if-blocks-image.false _ c.write_blocks.ensures
