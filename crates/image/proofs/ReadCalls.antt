-- The call `read`, case by case. Assumes nothing.
use mathlib.Core.Path.{◌≡◌, refl, sym, ap, ap₂, ◌∙◌}
use mathlib.Core.Bool.{Bool, true, false, false≢true, ◌&&◌, ◌||◌, cond}
use mathlib.Core.List.{List, ◌++◌}
use Prim.Native.Nat.{ℕ, ◌+◌, ◌-◌, ◌*◌, ◌%◌, ◌≤◌}
use native.Mathlib.Omega.{arith}
use borrow.Author.Tests.{eqb-true, eq-eqb, ne_eqb, leb-true, le-leb}
use lib.Dec.{eqb, leb}
use lib.ListN.{length, take, drop, length-append, length-drop, length-replicate}
use Rattle.std.specs.Prelude.{Ok, Err, None, Some}
use Rattle.std.specs.Bool.{then_some}
use Rattle.laws.specs.Counting.{is_clear}
use Rattle.laws.specs.Stores.{zeros, filled}
use Rattle.laws.proofs.Chains.{length-each}
use Rattle.laws.proofs.Cases.{both, refuted}
use Rattle.laws.proofs.Parts.{lent_from, take_same, filled_exact}
use Rattle.mixer.specs.declared.Kind.{Kind}
use Rattle.mixer.specs.Kinds.{kind_of}
use Rattle.head.specs.declared.Head.{Head}
use Rattle.head.specs.declared.Used.{Used}
use Rattle.head.specs.Fit.{used_fits, measured}
use Rattle.head.proofs.Fits.{uses_known}
use Rattle.head.specs.Index.{no_head}
use Rattle.head.specs.Layout.{bounded, used_of, used_by, used_words, used_samples, unused_clear}
use Rattle.head.specs.Numbers.{head_numbers}
use Rattle.refusal.specs.Answers.{Outcome, answered, refused, check}
use Rattle.refusal.specs.declared.Refusal.{Refusal}
use Rattle.refusal.specs.declared.Refusal.TheVariants.{ShortOutput, BadBlock, UnfitContent}
use Rattle.refusal.proofs.Passed.{ok_passed}
use Rattle.block.specs.Block.{block_content, block_bytes, blocks_for, first_bad, content_at}
use Rattle.image.specs.Image.{form, older_form, is_form, head_place, left_out, words_place, content_end, image_blocks, min_blocks, block_count, length_fits, bad_block, content_from, form_in, numbers_in, head_in, words_in, samples_in, holds_index, ReadAfter, read_after, read_of, read_call, block_checks}
use Rattle.image.specs.Steps.{form_number, form_of, content_measured}
use Rattle.image.specs.declared.reading.Form.{Form}
use Rattle.image.specs.declared.reading.Form.TheVariants.{Current, Older}

-- ---- the checks of the blocks

module _ (image : List ℕ) where
  module _ (long : block_bytes * min_blocks ≤ length image) (whole : length image % block_bytes ≡ 0) (bad : ℕ) (e : bad ≡ first_bad image (block_count image)) where
    fits : length_fits image ≡ true
    fits = rw (le-leb (block_bytes * min_blocks) (length image) long, eq-eqb (length image % block_bytes) 0 whole)

    pub bad_block_lem : (bad ≡ block_count image → ⊥) → Err (BadBlock bad) ≡ block_checks image
    unfolding block_checks
    bad_block_lem n = rw (fits, ← e, ne_eqb bad (block_count image) n)

    pub good_blocks : bad ≡ block_count image → Ok tt ≡ block_checks image
    unfolding block_checks
    good_blocks g = rw (fits, ← e, eq-eqb bad (block_count image) g)

-- ---- the numbers of the head

pub left_out_most : (f : ℕ) → left_out f ≤ 1
left_out_most f = go (eqb f older_form)
  where
    go : (older : Bool) → cond older 1 0 ≤ 1
    go true = omega arith
    go false = omega arith

pub length_numbers : (image : List ℕ) → length (numbers_in image) ≡ head_numbers
length_numbers image =
    let skipped = left_out (form_in image) in
    simp (length-append, length-replicate, length-each (λ i. content_at image (head_place + i)) (head_numbers - skipped)) (omega (arith, left_out_most (form_in image)))

-- read into as many places of 0, past those that the form leaves out
pub numbers_read : (image read : List ℕ) (skipped : ℕ) → skipped ≡ left_out (form_in image)
    → let places = zeros head_numbers in
    read ≡ filled (content_from image head_place (head_numbers - skipped)) (length (take (length places - skipped) (drop skipped places)))
    → take skipped places ++ (read ++ drop (length places - skipped) (drop skipped places)) ≡ numbers_in image
numbers_read image read skipped s e =
    let places = zeros head_numbers in
    let content = content_from image head_place (head_numbers - skipped) in
    let few : skipped ≤ head_numbers = omega (arith, left_out_most (form_in image)) in
    lent_from (λ l. filled content (length l)) skipped places e
    ∙ ap₂ (λ (front past : List ℕ). front ++ past) (take_same skipped head_numbers 0 few)
    (filled_exact content (length (drop skipped places)) (length-each (λ i. content_at image (head_place + i)) (head_numbers - skipped) ∙ sym (length-drop skipped places)))
    ∙ ap (λ (n : ℕ). zeros n ++ content_from image head_place (head_numbers - n)) s

-- ---- whether the blocks hold an index, part by part

module _ (image : List ℕ) (count levels : ℕ) (sizes : List ℕ) where
  pub record Holds : Type 0 where
    pub bounds : bounded count levels sizes ≡ true
    pub unused : unused_clear levels sizes ≡ true
    pub blocks : block_count image ≡ image_blocks (form_in image) (used_of levels sizes)
    pub past : is_clear (content_at image) (content_end (form_in image) (used_of levels sizes)) (block_content * block_count image) ≡ true

  pub holds_known : holds_index image count levels sizes ≡ true → Holds
  unfolding holds_index
  holds_known e =
      let e₃ = both _ _ e in
      let e₂ = both _ _ e₃.0 in
      let e₁ = both _ _ e₂.0 in
      record { bounds = e₁.0; unused = e₁.1; blocks = eqb-true _ _ e₂.1; past = e₃.1 }

  pub holds_is : Holds → holds_index image count levels sizes ≡ true
  unfolding holds_index
  holds_is h = rw (h.bounds, h.unused, eq-eqb (block_count image) (image_blocks (form_in image) (used_of levels sizes)) h.blocks, h.past)

  -- what is measured, by whether they do
  pub not_held : (Holds → ⊥) → None ≡ content_measured image count levels sizes
  unfolding content_measured
  not_held n = rw (refuted (holds_index image count levels sizes) (λ e. n (holds_known e)))

  pub sizes_left : unused_clear levels sizes ≡ false → None ≡ content_measured image count levels sizes
  sizes_left e = not_held (λ h. false≢true (sym e ∙ h.unused))

  -- further parts, where the levels use so much and the words begin at this place
  module _ (used : Used) (uses : Some used ≡ measured count levels sizes) (place : ℕ) (p : place ≡ words_place (form_in image)) where
    abbrev end : ℕ
    end = place + used.words + used.samples

    used_is : used ≡ used_of levels sizes
    used_is = (uses_known count levels sizes used uses).1

    end_is : end ≡ content_end (form_in image) (used_of levels sizes)
    end_is = ap₂ (λ (at : ℕ) (v : Used). at + v.words + v.samples) p used_is

    module _ (n : ℕ) (takes : n ≡ blocks_for end) where
      pub other_blocks : (block_count image ≡ n → ⊥) → None ≡ content_measured image count levels sizes
      other_blocks e = not_held (λ h. e (h.blocks ∙ sym (takes ∙ ap blocks_for end_is)))

      pub past_clear : unused_clear levels sizes ≡ true → block_count image ≡ n → (clear : Bool) → clear ≡ is_clear (content_at image) end (block_content * block_count image)
          → then_some clear used ≡ content_measured image count levels sizes
      unfolding content_measured
      past_clear unused blocks true e =
          rw (holds_is (record {
            bounds = (uses_known count levels sizes used uses).0;
            unused = unused;
            blocks = blocks ∙ takes ∙ ap blocks_for end_is;
            past = ap (λ (at : ℕ). is_clear (content_at image) at (block_content * block_count image)) (sym end_is) ∙ sym e;
          })) (ap Some used_is)
      past_clear unused blocks false e =
          not_held (λ h. false≢true (e ∙ ap (λ (at : ℕ). is_clear (content_at image) at (block_content * block_count image)) end_is ∙ h.past))

  -- and read back
  pub held_known : (used : Used) → Some used ≡ content_measured image count levels sizes → Holds × (used ≡ used_of levels sizes)
  unfolding content_measured
  held_known used e = go (holds_index image count levels sizes) refl e
    where
      go : (b : Bool) → holds_index image count levels sizes ≡ b → Some used ≡ cond b (Some (used_of levels sizes)) None → Holds × (used ≡ used_of levels sizes)
      go true f g = (holds_known f, cc)
      go false f g = let z : ◌≡◌ {A = ℕ} 0 1 = cc in absurd (omega arith)

  pub unheld_known : None ≡ content_measured image count levels sizes → holds_index image count levels sizes ≡ false
  unfolding content_measured
  unheld_known e = go (holds_index image count levels sizes) refl e
    where
      go : (b : Bool) → holds_index image count levels sizes ≡ b → None ≡ cond b (Some (used_of levels sizes)) None → holds_index image count levels sizes ≡ false
      go true f g = let z : ◌≡◌ {A = ℕ} 0 1 = cc in absurd (omega arith)
      go false f g = f

-- ---- the form

pub form_known : (number : ℕ) (f : Form) → Ok f ≡ form_of number → (is_form number ≡ true) × (form_number f ≡ number)
unfolding form_of
form_known number f e = go (eqb number form) refl (eqb number older_form) refl e
  where
    go : (current : Bool) → eqb number form ≡ current → (older : Bool) → eqb number older_form ≡ older
        → Ok f ≡ cond current (Ok Current) (cond older (Ok Older) (Err UnfitContent)) → (current || older ≡ true) × (form_number f ≡ number)
    go true c older o q = let t : f ≡ Current = cc in (refl, rw t (sym (eqb-true _ _ c)))
    go false c true o q = let t : f ≡ Older = cc in (refl, rw t (sym (eqb-true _ _ o)))
    go false c false o q = let z : ◌≡◌ {A = ℕ} 0 1 = cc in absurd (omega arith)

no_form_known : (number : ℕ) (why : Refusal) → Err why ≡ form_of number → (is_form number ≡ false) × (why ≡ UnfitContent)
unfolding form_of
no_form_known number why e = go (eqb number form) (eqb number older_form) e
  where
    go : (current older : Bool) → Err why ≡ cond current (Ok Current) (cond older (Ok Older) (Err UnfitContent)) → (current || older ≡ false) × (why ≡ UnfitContent)
    go true older q = let z : ◌≡◌ {A = ℕ} 0 1 = cc in absurd (omega arith)
    go false true q = let z : ◌≡◌ {A = ℕ} 0 1 = cc in absurd (omega arith)
    go false false q = (refl, cc)

-- ---- what is known once the checks of the blocks have passed

module _ (image : List ℕ) (good : Ok tt ≡ block_checks image) where
  pub blocks_passed : (length_fits image ≡ true) × (bad_block image ≡ block_count image)
  unfolding block_checks
  blocks_passed =
      let t = ok_passed _ _ _ (sym good) in
      (t.0, eqb-true _ _ (ok_passed _ _ _ t.1).0)

  pub long_enough : block_bytes * min_blocks ≤ length image
  long_enough = leb-true _ _ (both _ _ blocks_passed.0).0

-- ---- the call

-- an image passes the checks up to the room of the stores
pub record Passed (image : List ℕ) : Type 0 where
  pub good : Ok tt ≡ block_checks image
  pub form : is_form (form_in image) ≡ true
  pub kind : Kind
  pub known : Ok kind ≡ kind_of (head_in image).kind
  pub holds : Holds image (head_in image).count (head_in image).levels (head_in image).sizes

-- so the words and the samples lie in the blocks
module _ (image : List ℕ) (passed : Passed image) (used : Used) (u : used ≡ used_by (head_in image)) (start : ℕ) (s : start ≡ words_place (form_in image)) where
  pub samples_there : start + used.words + used.samples ≤ block_content * block_count image
  samples_there = rw (u, s) (omega (arith, passed.holds.blocks))

  pub words_there : start + used.words ≤ block_content * block_count image
  words_there = omega (arith, samples_there)

module _ (image ws ss : List ℕ) where
  abbrev stays : Refusal → Outcome ReadAfter
  stays = refused (read_after no_head ws ss)

  pub read_refused : (why : Refusal) → Err why ≡ block_checks image → stays why ≡ read_call image ws ss
  unfolding read_call
  read_refused why e = rw (← e)

  module _ (good : Ok tt ≡ block_checks image) where
    pub no_form : (why : Refusal) → Err why ≡ form_of (form_in image) → stays why ≡ read_call image ws ss
    unfolding read_call
    no_form why e = let k = no_form_known _ _ e in rw (k.1, ← good, k.0)

    module _ (form : is_form (form_in image) ≡ true) where
      pub no_kind : (why : Refusal) → Err why ≡ kind_of (head_in image).kind → stays why ≡ read_call image ws ss
      unfolding read_call
      no_kind why e = rw (← good, form, ← e)

      pub no_index : (kind : Kind) → Ok kind ≡ kind_of (head_in image).kind
          → None ≡ content_measured image (head_in image).count (head_in image).levels (head_in image).sizes → stays UnfitContent ≡ read_call image ws ss
      unfolding read_call
      no_index kind known e = rw (← good, form, ← known, unheld_known image _ _ _ e)

  module _ (passed : Passed image) where
    -- by the room of the stores
    pub roomy : (word_room sample_room : Bool) → leb (used_words (head_in image)) (length ws) ≡ word_room → leb (used_samples (head_in image)) (length ss) ≡ sample_room
        → check (word_room && sample_room) ShortOutput stays (answered 0 (read_after (head_in image) (filled (words_in image) (length ws)) (filled (samples_in image) (length ss))))
        ≡ read_call image ws ss
    unfolding read_call
    roomy word_room sample_room w s = rw (← passed.good, passed.form, ← passed.known, holds_is image _ _ _ passed.holds, w, s)

    module _ (used : Used) (u : used ≡ used_by (head_in image)) where
      rooms : used_fits used (length ws) (length ss) ≡ leb (used_words (head_in image)) (length ws) && leb (used_samples (head_in image)) (length ss)
      rooms = rw u refl

      pub no_room : used_fits used (length ws) (length ss) ≡ false → stays ShortOutput ≡ read_call image ws ss
      no_room e = ap (λ (b : Bool). check b ShortOutput stays (answered 0 (read_after (head_in image) (filled (words_in image) (length ws)) (filled (samples_in image) (length ss))))) (sym e ∙ rooms) ∙ roomy _ _ refl refl

      pub read_done : used_fits used (length ws) (length ss) ≡ true → (head : Head) (start : ℕ) (us vs : List ℕ) → head ≡ head_in image → start ≡ words_place (form_in image)
          → us ≡ filled (content_from image start used.words) (length ws) → vs ≡ filled (content_from image (start + used.words) used.samples) (length ss)
          → read_of (Ok head) us vs ≡ read_call image ws ss
      read_done e head start us vs h s p q = let r = both _ _ (sym rooms ∙ e) in rw (h, p, q, s, u) (roomy true true r.0 r.1)
