-- Counting the bits word by word: what `len` and `is_empty` find out, and whether words have any. Assumes nothing.
use mathlib.Core.Path.{◌≡◌, refl, sym, ap, ap₂, ◌∙◌}
use mathlib.Core.Bool.{Bool, true, false, not, ◌&&◌, and-true}
use mathlib.Core.Logic.{◌≢◌}
use mathlib.Core.List.{List, [], ◌∷◌}
use Prim.Native.Nat.{ℕ, zero, suc, ◌+◌, ◌*◌, ◌≤◌, ◌<◌}
use native.Mathlib.Nat.{le_refl}
use native.Mathlib.Numerals.{add-one}
use native.Mathlib.Decide.{ℕ_discrete}
use native.Mathlib.Omega.{arith}
use borrow.Author.Tests.{eq-eqb, ne_eqb, lt-ltb, le-ltb, ltb-false}
use lib.Bits.{bit_or, or_add_and, and_le_l, and_le_r}
use lib.Count.{ones}
use lib.Dec.{eqb, ltb}
use lib.ListN.{length, get_or, take}
use lib.Seq.{take_all}
use Rattle.std.specs.List.{fold, sum_by, list_all}
use Rattle.std.proofs.Math.Bool.{and_assoc}
use Rattle.std.proofs.lemmas.List.Sums.{sum_by_more, sum_by-cons}
use Rattle.laws.specs.Counting.{one, rank}
use Rattle.laws.specs.Bits.{has, Words, words_for}
use Rattle.laws.proofs.Cases.{eqb_both}
use Rattle.laws.proofs.Sums.{sum_mono}
use Rattle.laws.proofs.Digits.{ones_none, ones-zero}
use Rattle.laws.proofs.Ones.{rank_next}
use Rattle.refusal.specs.Answers.{answered, untouched}
use Rattle.bitvector.specs.Calls.{sound, is_empty_call, len_call}
use Rattle.bitvector.proofs.Soundness.{set_size}
use Rattle.bitvector.proofs.Agreement.{zero-sum}

-- ---- the bits of words are the ones of each

front_ones : (ws : List ℕ) → Words ws → (i : ℕ) → i ≤ length ws → rank (has ws) (64 * i) ≡ sum_by ones (take i ws)
front_ones ws f zero l = refl
front_ones ws f (suc i) l =
    ap (λ (n : ℕ). rank (has ws) (64 * n)) (sym (add-one i)) ∙ rank_next ws f i
    ∙ ap (λ (n : ℕ). n + ones (get_or ws i 0)) (front_ones ws f i (omega arith))
    ∙ sym (sum_by_more ones ws i 0 (omega arith))
    ∙ ap (λ (n : ℕ). sum_by ones (take n ws)) (add-one i)

pub all_ones : (ws : List ℕ) → Words ws → rank (has ws) (64 * length ws) ≡ sum_by ones ws
all_ones ws f = front_ones ws f (length ws) (le_refl (length ws)) ∙ ap (sum_by ones) (take_all (length ws) ws (le_refl (length ws)))

-- there are none where each word is 0
no_ones : (ws : List ℕ) → list_all (λ w. eqb w 0) ws ≡ eqb (sum_by ones ws) 0
no_ones [] = refl
no_ones (w ∷ ws) =
    ap₂ ◌&&◌ (eqb_both w 0 (ones w) 0 (ones-zero w) (ones_none w)) (no_ones ws) ∙ sym (zero-sum (ones w) (sum_by ones ws))
    ∙ ap (λ (n : ℕ). eqb n 0) (sym (sum_by-cons ones w ws))

none_set : (ws : List ℕ) → Words ws → list_all (λ w. eqb w 0) ws ≡ eqb (rank (has ws) (64 * length ws)) 0
none_set ws f = no_ones ws ∙ ap (λ (n : ℕ). eqb n 0) (sym (all_ones ws f))

-- and so where the `|` of them is
or_none : (a b : ℕ) → eqb (bit_or a b) 0 ≡ eqb a 0 && eqb b 0
or_none a b =
    let e = or_add_and a b in
    eqb_both (bit_or a b) 0 (a + b) 0 (λ z. omega (arith, and_le_l a b, and_le_r a b)) (λ z. omega arith) ∙ zero-sum a b

all_or : (a : ℕ) (ws : List ℕ) → eqb (fold bit_or a ws) 0 ≡ eqb a 0 && list_all (λ w. eqb w 0) ws
all_or a [] = sym (and-true (eqb a 0))
all_or a (w ∷ ws) = all_or (bit_or a w) ws ∙ ap (λ (t : Bool). t && list_all (λ v. eqb v 0) ws) (or_none a w) ∙ and_assoc (eqb a 0) (eqb w 0) (list_all (λ v. eqb v 0) ws)

some : (n : ℕ) → not (eqb n 0) ≡ ltb 0 n
some zero = refl
some (suc n) = rw (ne_eqb (suc n) 0 (λ (e : suc n ≡ 0). omega arith), lt-ltb 0 (suc n) (omega arith))

pub any_set : (ws : List ℕ) → Words ws → not (eqb (fold bit_or 0 ws) 0) ≡ ltb 0 (rank (has ws) (64 * length ws))
any_set ws f = ap not (all_or 0 ws ∙ none_set ws f) ∙ some (rank (has ws) (64 * length ws))

pub none_there : (n : ℕ) {any : Bool} → any ≡ ltb 0 n → any ≡ false → n ≡ 0
none_there n e h = omega (arith, ltb-false 0 n (sym e ∙ h))

-- ---- one word after another

-- a word that is not 0 has a bit
pub one_found : (ws : List ℕ) → Words ws → (i : ℕ) → i < length ws → (get_or ws i 0 ≡ 0 → ⊥) → eqb (rank (has ws) (64 * length ws)) 0 ≡ false
one_found ws f i l n =
    let m = sum_mono (λ p. one (has ws p)) {m = 64 * (i + 1)} {n = 64 * length ws} (omega arith) in
    ne_eqb (rank (has ws) (64 * length ws)) 0 (λ e. n (ones_none (get_or ws i 0) (omega (arith, m, rank_next ws f i))))

-- and a word that is 0 has none
pub none_yet : (ws : List ℕ) → Words ws → (i : ℕ) → rank (has ws) (64 * i) ≡ 0 → get_or ws i 0 ≡ 0 → rank (has ws) (64 * (i + 1)) ≡ 0
none_yet ws f i e z = rank_next ws f i ∙ omega (arith, ones-zero (get_or ws i 0) z)

-- ---- the calls

module _ (capacity : ℕ) (ws : List ℕ) (s : sound capacity ws ≡ true) where
  pub all-counted : (n : ℕ) → n ≡ rank (has ws) (64 * words_for capacity) → answered n untouched ≡ len_call capacity ws
  all-counted n e = rw s (ap (λ (k : ℕ). answered k untouched) (e ∙ set_size capacity ws s))

  pub all_clear : (clear : Bool) → clear ≡ eqb (rank (has ws) (64 * words_for capacity)) 0 → answered (one clear) untouched ≡ is_empty_call capacity ws
  all_clear clear e = rw s (ap (λ (t : Bool). answered (one t) untouched) (e ∙ ap (λ (k : ℕ). eqb k 0) (set_size capacity ws s)))

-- ---- some words in between

-- what the `|` of the words from `start` on and before i tells of their bits
pub record Gathered (ws : List ℕ) (start i all : ℕ) : Type 0 where
  pub none : all ≡ 0 → rank (has ws) (64 * i) ≡ rank (has ws) (64 * start)
  pub some : all ≢ 0 → rank (has ws) (64 * start) < rank (has ws) (64 * i)

pub gathered_none : (ws : List ℕ) (start : ℕ) → Gathered ws start start 0
gathered_none ws start = record { none = λ e. refl; some = λ n. absurd (n refl) }

-- one word more
pub gathered_next : (ws : List ℕ) → Words ws → (start i all : ℕ) → Gathered ws start i all → Gathered ws start (i + 1) (bit_or all (get_or ws i 0))
gathered_next ws f start i all g =
    let w : ℕ = get_or ws i 0 in
    let more = rank_next ws f i in
    let or = or_add_and all w in
    record {
      none = λ e. omega (arith, more, g.none (omega (arith, e, or, and_le_r all w)), ones-zero w (omega (arith, e, or, and_le_l all w)));
      some = λ n. elim (ℕ_discrete all 0) [
        | no m ↦ omega (arith, more, g.some m)
        | yes z ↦ omega (arith, more, g.none z, new (λ e. n (rw (z, e))))
      ];
    }
  where
    new : get_or ws i 0 ≢ 0 → 0 < ones (get_or ws i 0)
    new n = elim (ℕ_discrete (ones (get_or ws i 0)) 0) [
      | no m ↦ omega arith
      | yes z ↦ absurd (n (ones_none (get_or ws i 0) z))
    ]

-- in the end that is whether there are any
pub gathered : (ws : List ℕ) (start end all : ℕ) → Gathered ws start end all
    → not (eqb all 0) ≡ ltb (rank (has ws) (64 * start)) (rank (has ws) (64 * end))
gathered ws start end all g =
    let before : ℕ = rank (has ws) (64 * start) in
    let after : ℕ = rank (has ws) (64 * end) in
    elim (ℕ_discrete all 0) [
      | no n ↦ rw (ne_eqb all 0 n, lt-ltb before after (g.some n))
      | yes e ↦ rw (eq-eqb all 0 e, le-ltb before after (omega (arith, g.none e)))
    ]

-- where no bit is set between two places of the words, there are as many before the one as before the other
pub none_between : (ws : List ℕ) (start end : ℕ) → start ≤ end → {any : Bool} → any ≡ ltb (rank (has ws) (64 * start)) (rank (has ws) (64 * end)) → any ≡ false
    → rank (has ws) (64 * end) ≡ rank (has ws) (64 * start)
none_between ws start end l e n =
    let before : ℕ = rank (has ws) (64 * start) in
    let after : ℕ = rank (has ws) (64 * end) in
    omega (arith, sum_mono (λ p. one (has ws p)) {m = 64 * start} {n = 64 * end} (omega arith), ltb-false before after (sym e ∙ n))
