-- The check of some words, whether a block is good, and the first that is bad. Assumes nothing.
use mathlib.Core.Path.{◌≡◌, refl, sym, ap, ◌∙◌}
use mathlib.Core.Bool.{true, false}
use mathlib.Core.List.{List, [], ◌∷◌, ◌++◌}
use Prim.Native.Nat.{ℕ, zero, suc, ◌+◌, ◌*◌, ◌<◌}
use native.Mathlib.Nat.{add-zero}
use native.Mathlib.Numerals.{add-one}
use native.Mathlib.Omega.{arith}
use borrow.Author.Tests.{eq-eqb, ne_eqb}
use lib.Dec.{eqb}
use Rattle.std.specs.List.{fold}
use Rattle.laws.specs.Counting.{each}
use Rattle.laws.proofs.Cases.{Tri, lt, eq, gt, tri}
use Rattle.block.specs.Bytes.{word_at}
use Rattle.block.specs.Block.{block_words, check_place, check_step, check_from, check_of, block_word, is_good, first_bad}

-- further words
pub check-append : (k : ℕ) (us vs : List ℕ) → check_from k (us ++ vs) ≡ check_from (check_from k us) vs
unfolding check_from
check-append k [] vs = refl
check-append k (u ∷ us) vs = check-append (check_step k u) us vs

-- the first word, and one more
pub check-first : (word : ℕ) → check_step 0 word ≡ check_of (word ∷ [])
unfolding check_from
check-first word = refl

pub check_next : (us : List ℕ) (check word next : ℕ) → check ≡ check_of us → next ≡ check_step check word → next ≡ check_of (us ++ (word ∷ []))
unfolding check_from
check_next us check word next e s = s ∙ ap (λ (k : ℕ). check_step k word) e ∙ sym (check-append 0 us (word ∷ []))

-- as a fold
pub check_fold : (k : ℕ) (words : List ℕ) → fold check_step k words ≡ check_from k words
unfolding check_from
check_fold k [] = refl
check_fold k (w ∷ words) = check_fold (check_step k w) words

-- ---- whether a block is good

module _ (bytes : List ℕ) (b number : ℕ) (reads : number ≡ word_at bytes (block_words * b)) where
  number_read : block_word bytes b 0 ≡ number
  number_read = ap (word_at bytes) (add-zero (block_words * b)) ∙ sym reads

  pub bad_number : (number ≡ b → ⊥) → false ≡ is_good bytes b
  unfolding is_good
  bad_number n = rw (number_read, ne_eqb number b n)

  pub good_number : number ≡ b → (last check : ℕ) → last ≡ block_word bytes b check_place → check ≡ check_of (each (block_word bytes b) check_place) → eqb last check ≡ is_good bytes b
  unfolding is_good
  good_number e last check l k = rw (number_read, eq-eqb number b e, l, k)

-- ---- the first bad block

module _ (bytes : List ℕ) where
  pub bad_none : first_bad bytes 0 ≡ 0
  unfolding first_bad
  bad_none = refl

  module _ (b : ℕ) (so_far : first_bad bytes b ≡ b) where
    pub good_more : is_good bytes b ≡ true → first_bad bytes (b + 1) ≡ b + 1
    unfolding first_bad
    good_more g = rw (add-one b, eq-eqb (first_bad bytes b) b so_far, g)

    pub bad_first : (n : ℕ) → b < n → is_good bytes b ≡ false → first_bad bytes n ≡ b
    unfolding first_bad
    bad_first zero h g = absurd (omega arith)
    bad_first (suc n) h g = go (tri b n) (λ l. bad_first n l g)
      where
        go : Tri b n → (b < n → first_bad bytes n ≡ b) → first_bad bytes (suc n) ≡ b
        go (lt l) r = let e = r l in rw (ne_eqb (first_bad bytes n) n (λ q. omega (arith, e, q))) e
        go (eq q) r = rw (← q, so_far, eq-eqb b b refl, g)
        go (gt l) r = absurd (omega arith)
