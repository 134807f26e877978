-- What the facts of images ask for can be had: the image of three ids, of either form, and two lists that differ once. Assumes nothing.
use mathlib.Core.Path.{◌≡◌, refl, ap, subst}
use mathlib.Core.Bool.{Bool, true, ◌&&◌}
use mathlib.Core.Logic.{inl}
use mathlib.Core.List.{List, [], ◌∷◌, ◌++◌}
use Prim.Native.Nat.{ℕ, zero, suc, ◌^◌}
use native.Mathlib.Omega.{arith}
use borrow.Author.Tests.{ltb-true}
use lib.Dec.{ltb, lit<, lit≤}
use lib.ListN.{get_or, replicate}
use lib.Pow.{pow_pos}
use Rattle.laws.specs.Bits.{Words}
use Rattle.laws.specs.Stores.{filled}
use Rattle.laws.proofs.Cases.{both}
use Rattle.laws.proofs.Lists.{words_cons}
use Rattle.refusal.specs.Answers.{Outcome, answered, refused}
use Rattle.refusal.specs.declared.Refusal.TheVariants.{ShortOutput, BadBlock}
use Rattle.head.specs.Index.{no_head}
use Rattle.block.specs.Bytes.{all_bytes, word_at}
use Rattle.block.specs.Block.{check_of, content_at}
use Rattle.block.specs.Differ.{DifferOnce}
use Rattle.block.proofs.Whole.{bytes_small}
use Rattle.image.specs.Image.{ReadAfter, read_after, read_call}
use Rattle.keeping.specs.Images.{Lent, ReadsBack, Again, with_word, ChangeFound}
use Rattle.demands.specs.Inputs.{three_head, three_left}
use Rattle.keeping.specs.Inputs.{three_image, older_three}
use Rattle.keeping.proofs.Images.{images}
use Rattle.keeping.proofs.ImageTable.{three_written, three_read_lem, older_read, older_again}

abbrev are_words : List ℕ → Bool
are_words [] = true
are_words (w ∷ ws) = ltb w (2 ^ 64) && are_words ws

are_words_lem : (ws : List ℕ) → are_words ws ≡ true → Words ws
are_words_lem [] e i = pow_pos 64
are_words_lem (w ∷ ws) e i = let t = both (ltb w (2 ^ 64)) (are_words ws) e in words_cons w ws (ltb-true w (2 ^ 64) t.0) (are_words_lem ws t.1) i

-- ---- written, it reads back: in stores with room, and not in others

abbrev words : List ℕ
words = three_left.words ++ (7 ∷ [])

abbrev samples : List ℕ
samples = three_left.samples ++ (7 ∷ [])

lent : Lent three_head words samples
lent = record { all_sizes = refl; words = are_words_lem words refl; samples = are_words_lem samples refl }

held : ReadsBack three_head words samples (all_bytes three_image)
unfolding all_bytes
held = rw three_written at (images.written three_head words samples (replicate 1_026 9) lent (ap (λ (w : Outcome (List ℕ)). w.refusal) three_written))

with_room : read_call (all_bytes three_image) (replicate 9 9) (replicate 3 9)
    ≡ answered 0 (read_after three_head (filled three_left.words 9) (filled three_left.samples 3))
with_room = held.with_room (replicate 9 9) (replicate 3 9) (lit≤ tt) (lit≤ tt)

no_room : read_call (all_bytes three_image) (replicate 7 9) (replicate 3 9) ≡ refused (read_after no_head (replicate 7 9) (replicate 3 9)) ShortOutput
no_room = held.no_room (replicate 7 9) (replicate 3 9) (inl (lit< tt))

-- ---- it is accepted: written again, it is the same

accepted : (read_call (all_bytes three_image) (replicate 9 9) (replicate 3 9)).refusal ≡ 0
accepted = ap (λ (r : Outcome ReadAfter). r.refusal) three_read_lem

same : Again (all_bytes three_image) (replicate 9 9) (replicate 3 9) (all_bytes three_image)
unfolding all_bytes content_at word_at
same =
    let again = images.again (all_bytes three_image) (replicate 9 9) (replicate 3 9) (bytes_small three_image) accepted in
    subst (Again (all_bytes three_image) (replicate 9 9) (replicate 3 9)) (again.same_bytes refl) again

-- and one of the older form is accepted: written again, it is that one

older_accepted : (read_call (all_bytes older_three) (replicate 9 9) (replicate 3 9)).refusal ≡ 0
older_accepted = ap (λ (r : Outcome ReadAfter). r.refusal) older_read

older : Again (all_bytes older_three) (replicate 9 9) (replicate 3 9) (all_bytes three_image)
older =
    subst (Again (all_bytes older_three) (replicate 9 9) (replicate 3 9)) older_again
    (images.again (all_bytes older_three) (replicate 9 9) (replicate 3 9) (bytes_small older_three) older_accepted)

-- ---- with another word it is refused: another number of block 0, another check of it, another sample

found : ChangeFound (all_bytes three_image)
found = images.change_found (all_bytes three_image) (replicate 9 9) (replicate 3 9) (bytes_small three_image) accepted

number_found : read_call (with_word (all_bytes three_image) 0 1) [] [] ≡ refused (read_after no_head [] []) (BadBlock 0)
unfolding all_bytes word_at
number_found = found 0 1 (lit< tt) (lit< tt) (λ e. omega arith) [] []

check_found : read_call (with_word (all_bytes three_image) 63 0) [] [] ≡ refused (read_after no_head [] []) (BadBlock 0)
unfolding all_bytes word_at
check_found = found 63 0 (lit< tt) (lit< tt) (λ e. omega arith) [] []

sample_found : read_call (with_word (all_bytes three_image) 116 2) [] [] ≡ refused (read_after no_head [] []) (BadBlock 1)
unfolding all_bytes word_at
sample_found = found 116 2 (lit< tt) (lit< tt) (λ e. omega arith) [] []

-- ---- two lists that differ once

differ : DifferOnce (1 ∷ 2 ∷ []) (1 ∷ 3 ∷ [])
differ = record {
  as_long = refl;
  place = 1;
  within = lit< tt;
  differ = λ (e : ◌≡◌ {A = ℕ} 2 3). omega arith;
  elsewhere = elsewhere;
}
  where
    elsewhere : (i : ℕ) → (i ≡ 1 → ⊥) → ◌≡◌ {A = ℕ} (get_or (1 ∷ 2 ∷ []) i 0) (get_or (1 ∷ 3 ∷ []) i 0)
    elsewhere zero m = refl
    elsewhere (suc zero) m = absurd (m refl)
    elsewhere (suc (suc i)) m = refl

different : check_of (1 ∷ 2 ∷ []) ≡ check_of (1 ∷ 3 ∷ []) → ⊥
different = images.checks_differ (1 ∷ 2 ∷ []) (1 ∷ 3 ∷ []) (are_words_lem (1 ∷ 2 ∷ []) refl) (are_words_lem (1 ∷ 3 ∷ []) refl) differ
