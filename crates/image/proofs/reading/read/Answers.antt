-- `image::reading::read` meets its contract. Assumes nothing.
use mathlib.Core.Path.{◌≡◌, sym, ap, ◌∙◌}
use mathlib.Core.List.{List}
use Prim.Native.Nat.{ℕ}
use native.Mathlib.Omega.{arith}
use Rattle.std.specs.Prelude.{Ok, None, Some}
use Rattle.std.proofs.lemmas.Result.{err_from_is_err_and}
use borrow.Author.Tests.{leb-true}
use Rattle.laws.proofs.Cases.{both}
use Rattle.refusal.specs.declared.Refusal.TheVariants.{UnfitContent}
use Rattle.mixer.specs.declared.Kind.{Kind}
use Rattle.mixer.specs.Kinds.{kind_of}
use Rattle.head.specs.declared.Head.{Head}
use Rattle.head.specs.declared.Used.{Used}
use Rattle.head.specs.Layout.{used_by}
use Rattle.image.specs.Image.{words_place, form_in, head_in, block_checks}
use Rattle.image.specs.Steps.{form_of, content_measured}
use Rattle.image.specs.declared.reading.Form.{Form}
use Rattle.image.proofs.ReadCalls.{form_known, read_refused, long_enough, no_form, no_kind, no_index, Passed, held_known, words_there, samples_there, no_room, read_done}
use Rattle.image.proofs.reading.read.Goals as goal

-- all checks up to the room of the stores are passed, and this is what the levels use
all_passed : (image : List ℕ) (form : Form) (head : Head) (kind : Kind) (used : Used) → Ok tt ≡ block_checks image → Ok form ≡ form_of (form_in image) → head ≡ head_in image
    → Ok kind ≡ kind_of head.kind → Some used ≡ content_measured image head.count head.levels head.sizes → Passed image × (used ≡ used_by (head_in image))
all_passed image form head kind used good f h k u =
    let m = held_known _ _ _ _ _ (u ∙ ap (λ (it : Head). content_measured image it.count it.levels it.sizes) h) in
    (record { good = good; form = (form_known _ _ f).0; kind = kind; known = k ∙ ap (λ (it : Head). kind_of it.kind) h; holds = m.0 }, m.1)

pub returns-in_err-check_blocks : goal.returns-in_err-check_blocks
returns-in_err-check_blocks c =
    let told = err_from_is_err_and c.from_residual.result c.from_residual.ensures.1 in
    rw (told.1, told.2) (read_refused _ _ _ _ (sym c.in_err-check_blocks.was ∙ c.check_blocks.ensures))

pub content_at-requires : goal.content_at-requires
content_at-requires c = omega (arith, long_enough _ (sym c.in_ok-check_blocks.was ∙ c.check_blocks.ensures))

pub returns-in_err-form : goal.returns-in_err-form
returns-in_err-form c =
    let told = err_from_is_err_and c.from_residual-in_err-form.result c.from_residual-in_err-form.ensures.1 in
    rw (told.1, told.2)
    (no_form _ _ _ (sym c.in_ok-check_blocks.was ∙ c.check_blocks.ensures) _ (sym c.in_err-form.was ∙ c.try_from.ensures ∙ ap form_of c.content_at.ensures))

pub head_in-head-requires : goal.head_in-head-requires
head_in-head-requires c = (
  long_enough _ (sym c.in_ok-check_blocks.was ∙ c.check_blocks.ensures),
  (form_known _ _ (sym c.in_ok-form.was ∙ c.try_from.ensures ∙ ap form_of c.content_at.ensures)).1,
)

pub returns-in_err-try_from : goal.returns-in_err-try_from
returns-in_err-try_from c =
    let told = err_from_is_err_and c.from_residual-in_err-try_from.result c.from_residual-in_err-try_from.ensures.1 in
    rw (told.1, told.2)
    (no_kind _ _ _ (sym c.in_ok-check_blocks.was ∙ c.check_blocks.ensures) (form_known _ _ (sym c.in_ok-form.was ∙ c.try_from.ensures ∙ ap form_of c.content_at.ensures)).0
    _ (sym c.in_err-try_from.was ∙ c.try_from-2.ensures ∙ ap (λ (it : Head). kind_of it.kind) c.head_in-head.ensures))

pub check_content-requires : goal.check_content-requires
check_content-requires c = (form_known _ _ (sym c.in_ok-form.was ∙ c.try_from.ensures ∙ ap form_of c.content_at.ensures)).1

pub returns-in_err-used : goal.returns-in_err-used
returns-in_err-used c =
    let told = err_from_is_err_and c.from_residual-in_err-used.result c.from_residual-in_err-used.ensures.1 in
    let e : c.check_content.result ≡ None = grind arith in
    let why : c.in_err-used.field-0.0 ≡ UnfitContent = grind arith in
    rw (told.1, told.2, why)
    (no_index _ _ _ (sym c.in_ok-check_blocks.was ∙ c.check_blocks.ensures) (form_known _ _ (sym c.in_ok-form.was ∙ c.try_from.ensures ∙ ap form_of c.content_at.ensures)).0
    _ (sym c.in_ok-try_from.was ∙ c.try_from-2.ensures ∙ ap (λ (it : Head). kind_of it.kind) c.head_in-head.ensures)
    (sym e ∙ c.check_content.ensures ∙ ap (λ (it : Head). content_measured c.args.image.now it.count it.levels it.sizes) c.head_in-head.ensures))

pub returns-then-not-fits : goal.returns-then-not-fits
returns-then-not-fits c =
    let e : c.check_content.result ≡ Some c.in_ok-used.used = grind arith in
    let p =
    all_passed _ _ _ _ _ (sym c.in_ok-check_blocks.was ∙ c.check_blocks.ensures) (sym c.in_ok-form.was ∙ c.try_from.ensures ∙ ap form_of c.content_at.ensures) c.head_in-head.ensures
    (sym c.in_ok-try_from.was ∙ c.try_from-2.ensures) (sym e ∙ c.check_content.ensures) in
    no_room _ _ _ p.0 _ p.1 (sym c.fits.ensures ∙ c.if-not-fits.true)

pub copy_content-requires : goal.copy_content-requires
copy_content-requires c =
    let e : c.check_content.result ≡ Some c.in_ok-used.used = grind arith in
    let p =
    all_passed _ _ _ _ _ (sym c.in_ok-check_blocks.was ∙ c.check_blocks.ensures) (sym c.in_ok-form.was ∙ c.try_from.ensures ∙ ap form_of c.content_at.ensures) c.head_in-head.ensures
    (sym c.in_ok-try_from.was ∙ c.try_from-2.ensures) (sym e ∙ c.check_content.ensures) in
    let s = c.words_place-start.ensures ∙ ap words_place (form_known _ _ (sym c.in_ok-form.was ∙ c.try_from.ensures ∙ ap form_of c.content_at.ensures)).1 in
    let r = both _ _ (sym c.fits.ensures ∙ c.if-not-fits.false) in
    (leb-true _ _ r.0, words_there _ p.0 _ p.1 _ s)

pub copy_content-requires-2 : goal.copy_content-requires-2
copy_content-requires-2 c =
    let e : c.check_content.result ≡ Some c.in_ok-used.used = grind arith in
    let p =
    all_passed _ _ _ _ _ (sym c.in_ok-check_blocks.was ∙ c.check_blocks.ensures) (sym c.in_ok-form.was ∙ c.try_from.ensures ∙ ap form_of c.content_at.ensures) c.head_in-head.ensures
    (sym c.in_ok-try_from.was ∙ c.try_from-2.ensures) (sym e ∙ c.check_content.ensures) in
    let s = c.words_place-start.ensures ∙ ap words_place (form_known _ _ (sym c.in_ok-form.was ∙ c.try_from.ensures ∙ ap form_of c.content_at.ensures)).1 in
    let r = both _ _ (sym c.fits.ensures ∙ c.if-not-fits.false) in
    (leb-true _ _ r.1, samples_there _ p.0 _ p.1 _ s)

pub returns : goal.returns
returns c =
    let e : c.check_content.result ≡ Some c.in_ok-used.used = grind arith in
    let p =
    all_passed _ _ _ _ _ (sym c.in_ok-check_blocks.was ∙ c.check_blocks.ensures) (sym c.in_ok-form.was ∙ c.try_from.ensures ∙ ap form_of c.content_at.ensures) c.head_in-head.ensures
    (sym c.in_ok-try_from.was ∙ c.try_from-2.ensures) (sym e ∙ c.check_content.ensures) in
    let s = c.words_place-start.ensures ∙ ap words_place (form_known _ _ (sym c.in_ok-form.was ∙ c.try_from.ensures ∙ ap form_of c.content_at.ensures)).1 in
    read_done _ _ _ p.0 _ p.1 (sym c.fits.ensures ∙ c.if-not-fits.false) _ _ _ _ c.head_in-head.ensures s c.copy_content.ensures c.copy_content-2.ensures
