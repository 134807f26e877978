-- Stores with a list at their front and 0 past it, and the lists of an index: their lengths, and one level more. Assumes nothing.
use mathlib.Core.Path.{◌≡◌, refl, sym, ap, ap₂, ◌∙◌}
use mathlib.Core.List.{List, [], ◌∷◌, ◌++◌, append_assoc}
use Prim.Native.Nat.{ℕ, suc, ◌+◌, ◌-◌, ◌≤◌, ◌<◌}
use native.Mathlib.Nat.{le_dest}
use native.Mathlib.Omega.{arith}
use lib.Ieee.{Float}
use lib.ListN.{length, drop, set, length-append, length-replicate, replicate-append-replicate}
use lib.Seq.{take_at, drop_at, set-append_seam}
use Rattle.laws.specs.Bits.{words_for}
use Rattle.laws.proofs.Sums.{sum_same, sum_ones}
use Rattle.laws.proofs.Chains.{length-chain}
use Rattle.laws.proofs.Packing.{length-packed}
use Rattle.laws.proofs.Parts.{drop_same}
use Rattle.mixer.specs.declared.Kind.{Kind}
use Rattle.mixer.proofs.Positions.{position-lt}
use Rattle.ranks.proofs.Samples.{length_samples}
use Rattle.rule.specs.Rule.{Rule, span, bit, base}
use Rattle.rule.specs.Demand.{Sound}
use Rattle.sizes.specs.Sizes.{samples_for}
use Rattle.sizes.proofs.Sizes.{size_least}
use Rattle.head.specs.Layout.{word_start, sample_start}
use Rattle.laws.specs.Stores.{zeros, filled, pasted}
use Rattle.head.specs.Index.{rule_of, words_at, samples_at, index_words, index_samples, index_sizes}

-- ---- a store with a list at its front

module _ (xs : List ℕ) (room : ℕ) where
  pub length-filled : length xs ≤ room → length (filled xs room) ≡ room
  length-filled h = length-append xs (zeros (room - length xs)) ∙ ap (λ (n : ℕ). length xs + n) (length-replicate (room - length xs) 0) ∙ omega arith

  pub filled_past : drop (length xs) (filled xs room) ≡ zeros (room - length xs)
  filled_past = drop_at xs (zeros (room - length xs)) (length xs) refl

  -- what is pasted behind the list stands at the front too
  pub filled-pasted : (ys : List ℕ) → length xs + length ys ≤ room → pasted (length xs) ys (filled xs room) ≡ filled (xs ++ ys) room
  filled-pasted ys h =
      let e : room - length xs - length ys ≡ room - length (xs ++ ys) = omega (arith, length-append xs ys) in
      ap₂ (λ (us vs : List ℕ). us ++ (ys ++ drop (length ys) vs)) (take_at xs (zeros (room - length xs)) (length xs) refl) filled_past
      ∙ ap (λ (us : List ℕ). xs ++ (ys ++ us)) (drop_same (length ys) (room - length xs) 0 (omega arith))
      ∙ sym (append_assoc xs ys (zeros (room - length xs - length ys)))
      ∙ ap (λ (n : ℕ). (xs ++ ys) ++ zeros n) e

  -- so does one number
  pub filled-set : (v : ℕ) → length xs < room → set (filled xs room) (length xs) v ≡ filled (xs ++ (v ∷ [])) room
  filled-set v h =
      let d = le_dest h in
      let e : room - length xs ≡ suc d.0 = omega arith in
      let l : room - length (xs ++ (v ∷ [])) ≡ d.0 = ap (λ (n : ℕ). room - n) (length-append xs (v ∷ [])) ∙ omega arith in
      ap (λ (n : ℕ). set (xs ++ zeros n) (length xs) v) e ∙ set-append_seam xs 0 (zeros d.0) v
      ∙ sym (append_assoc xs (v ∷ []) (zeros d.0)) ∙ ap (λ (n : ℕ). (xs ++ (v ∷ [])) ++ zeros n) (sym l)

  -- in a longer store a list and the 0 behind it stand as the list alone does
  pub filled_more : (n : ℕ) → length xs + n ≤ room → filled (xs ++ zeros n) room ≡ filled xs room
  filled_more n h =
      let l : room - length (xs ++ zeros n) ≡ room - length xs - n = omega (arith, length-append xs (zeros n), length-replicate {A = ℕ} n 0) in
      let e : n + (room - length xs - n) ≡ room - length xs = omega arith in
      append_assoc xs (zeros n) (zeros (room - length (xs ++ zeros n)))
      ∙ ap (λ (k : ℕ). xs ++ (zeros n ++ zeros k)) l
      ∙ ap (λ (us : List ℕ). xs ++ us) (replicate-append-replicate n (room - length xs - n) 0)
      ∙ ap (λ (k : ℕ). xs ++ zeros k) e

-- ---- the lists of an index

module _ (rule : Rule) (ids : List ℕ) where
  pub length_words_at : (i : ℕ) → length (words_at rule ids i) ≡ words_for (span rule ids i)
  length_words_at i = length-packed (words_for (span rule ids i)) (bit rule ids i)

  pub length_samples_at : (i : ℕ) → length (samples_at rule ids i) ≡ samples_for (words_for (span rule ids i))
  length_samples_at i =
      length_samples (base (span rule ids) (bit rule ids) i) (words_at rule ids i) ∙ ap samples_for (length_words_at i)

  pub length_words : (i : ℕ) → length (index_words rule ids i) ≡ word_start (span rule ids) i
  unfolding index_words
  length_words i = length-chain (words_at rule ids) i ∙ sum_same _ _ i (λ j h. length_words_at j)

  pub length_samples_to : (i : ℕ) → length (index_samples rule ids i) ≡ sample_start (span rule ids) i
  unfolding index_samples
  length_samples_to i = length-chain (samples_at rule ids) i ∙ sum_same _ _ i (λ j h. length_samples_at j)

  pub length_sizes : (i : ℕ) → length (index_sizes rule ids i) ≡ i
  unfolding index_sizes
  length_sizes i = length-chain (λ j. span rule ids j ∷ []) i ∙ sum_ones i

  -- one level more
  pub words_next : (i : ℕ) → index_words rule ids (suc i) ≡ index_words rule ids i ++ words_at rule ids i
  unfolding index_words
  words_next i = refl

  pub samples_next : (i : ℕ) → index_samples rule ids (suc i) ≡ index_samples rule ids i ++ samples_at rule ids i
  unfolding index_samples
  samples_next i = refl

  pub sizes_next : (i : ℕ) → index_sizes rule ids (suc i) ≡ index_sizes rule ids i ++ (span rule ids i ∷ [])
  unfolding index_sizes
  sizes_next i = refl

-- ---- the rule of an index

-- positions of any kind lie below sizes, and no size is 0
pub rule_sound : (kind : Kind) (gamma : Float) → Sound (rule_of kind gamma)
rule_sound kind gamma = record { within = position-lt kind; positive = λ n. omega (arith, size_least gamma n) }
