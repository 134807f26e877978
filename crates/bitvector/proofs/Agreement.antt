-- Whether two plain sets agree, range by range and word by word: what `eq_left` finds out. Assumes nothing.
use mathlib.Core.Path.{◌≡◌, refl, sym, ap, ap₂, ◌∙◌}
use mathlib.Core.Bool.{Bool, true, false, not, ◌&&◌, beq, true≢false, false≢true, and-true}
use mathlib.Core.List.{List}
use Prim.Native.Nat.{ℕ, zero, suc, ◌+◌, ◌-◌, ◌*◌, ◌/◌, ◌%◌, ◌^◌, ◌≤◌, ◌<◌}
use native.Mathlib.Nat.{zero-add}
use native.Mathlib.Omega.{arith}
use borrow.Author.Tests.{eqb-true, eq-eqb, ne_eqb, lt-ltb, le-leb, not-true, not-false}
use lib.Dec.{eqb}
use lib.ListN.{length, get_or, take}
use Rattle.std.specs.Str.{bytes_eq}
use Rattle.std.proofs.lemmas.Slice.Eq.{bytes_eq-Decides}
use Rattle.laws.specs.Counting.{one, rank}
use Rattle.laws.specs.Bits.{digit, has, Words, words_for, number, word_of}
use Rattle.laws.proofs.Cases.{one_inj, eqb_both, both, refuted}
use Rattle.laws.proofs.Sums.{sum_split, sum_same, rank_same, rank_none, none_rank}
use Rattle.laws.proofs.Digits.{number-digit, shl_same}
use Rattle.laws.proofs.Packing.{number-has, packed_below, packed-take, word_has}
use Rattle.bitvector.specs.Sets.{Plain, same_below, set_of}
use Rattle.refusal.specs.Answers.{answered, untouched}
use Rattle.bitvector.specs.Calls.{sound, eq_left_call}
use Rattle.bitvector.proofs.Fronts.{front_has}

-- ---- two plain sets

-- whether b is in one of them only
abbrev apart : Plain → Plain → ℕ → Bool
apart s t b = not (beq (s b) (t b))

not_apart : (a b : Bool) → not (beq a b) ≡ false → a ≡ b
not_apart true true e = refl
not_apart true false e = absurd (true≢false e)
not_apart false true e = absurd (true≢false e)
not_apart false false e = refl

same_bool : (a b : Bool) → a ≡ b → not (beq a b) ≡ false
same_bool true true e = refl
same_bool true false e = absurd (true≢false e)
same_bool false true e = absurd (false≢true e)
same_bool false false e = refl

-- they agree below n exactly if they are the digits of the same number
same_number : (s t : Plain) (n : ℕ) → same_below s t n ≡ eqb (number s n) (number t n)
same_number s t n = eqb_both (rank (apart s t) n) 0 (number s n) (number t n) to from
  where
    to : rank (apart s t) n ≡ 0 → number s n ≡ number t n
    to e = sum_same _ _ n (λ k l. ap (λ (b : Bool). one b * 2 ^ k) (not_apart (s k) (t k) (none_rank (apart s t) n e k l)))

    digits : number s n ≡ number t n → (k : ℕ) → k < n → one (s k) ≡ one (t k)
    digits e k l = sym (number-digit s n k l) ∙ ap (λ (w : ℕ). digit w k) e ∙ number-digit t n k l

    from : number s n ≡ number t n → rank (apart s t) n ≡ 0
    from e = rank_none (apart s t) n (λ k l. same_bool (s k) (t k) (one_inj (s k) (t k) (digits e k l)))

pub zero-sum : (a b : ℕ) → eqb (a + b) 0 ≡ eqb a 0 && eqb b 0
zero-sum zero b = ap (λ (n : ℕ). eqb n 0) (zero-add b)
zero-sum (suc a) b = rw (ne_eqb (suc a + b) 0 (λ (e : suc a + b ≡ 0). omega arith), ne_eqb (suc a) 0 (λ (e : suc a ≡ 0). omega arith))

-- they agree below m + n where they do below m, and from there on
same_range : (s t : Plain) (m n : ℕ) → same_below s t (m + n) ≡ same_below s t m && same_below (λ k. s (m + k)) (λ k. t (m + k)) n
same_range s t m n =
    ap (λ (k : ℕ). eqb k 0) (sum_split (λ b. one (apart s t b)) m n) ∙ zero-sum (rank (apart s t) m) (rank (λ k. apart s t (m + k)) n)

-- one word more
pub same_next : (s t : Plain) (i : ℕ) → same_below s t (64 * (i + 1)) ≡ same_below s t (64 * i) && eqb (word_of s i) (word_of t i)
same_next s t i =
    let e : 64 * (i + 1) ≡ 64 * i + 64 = omega arith in
    ap (same_below s t) e ∙ same_range s t (64 * i) 64
    ∙ ap (λ (b : Bool). same_below s t (64 * i) && b) (same_number (λ k. s (64 * i + k)) (λ k. t (64 * i + k)) 64)

-- nothing more where they are the same from m on
pub same_past : (s t : Plain) (m n : ℕ) → m ≤ n → ((b : ℕ) → m ≤ b → s b ≡ t b) → same_below s t n ≡ same_below s t m
same_past s t m n h e =
    let q : n ≡ m + (n - m) = omega arith in
    let r : rank (λ k. apart s t (m + k)) (n - m) ≡ 0 = rank_none _ (n - m) (λ k l. same_bool (s (m + k)) (t (m + k)) (e (m + k) (omega arith))) in
    ap (same_below s t) q ∙ same_range s t m (n - m) ∙ ap (λ (x : ℕ). same_below s t m && eqb x 0) r ∙ and-true (same_below s t m)

-- sets that are pairwise the same below n
pub same_both : (s t u v : Plain) (n : ℕ) → ((b : ℕ) → b < n → s b ≡ u b) → ((b : ℕ) → b < n → t b ≡ v b) → same_below s t n ≡ same_below u v n
same_both s t u v n e f =
    ap (λ (k : ℕ). eqb k 0) (rank_same (apart s t) (apart u v) n (λ b l. ap₂ (λ (x y : Bool). not (beq x y)) (e b l) (f b l)))

-- ---- two lists of words

abbrev same_bits : List ℕ → List ℕ → ℕ → Bool
same_bits ws us n = same_below (has ws) (has us) n

module _ (ws us : List ℕ) (i : ℕ) (hw : get_or ws i 0 < 2 ^ 64) (hu : get_or us i 0 < 2 ^ 64) where
  words_next : same_bits ws us (64 * (i + 1)) ≡ same_bits ws us (64 * i) && eqb (get_or ws i 0) (get_or us i 0)
  words_next = same_next (has ws) (has us) i ∙ ap₂ (λ (x y : ℕ). same_bits ws us (64 * i) && eqb x y) (word_has ws i hw) (word_has us i hu)

  -- equal words, and all is the same so far
  pub still_same : same_bits ws us (64 * i) ≡ true → get_or ws i 0 ≡ get_or us i 0 → same_bits ws us (64 * (i + 1)) ≡ true
  still_same e q = words_next ∙ ap₂ ◌&&◌ e (eq-eqb _ _ q)

  -- the first words that differ decide
  pub no_more : (n : ℕ) → 64 * (i + 1) ≤ n → same_bits ws us (64 * i) ≡ true → (get_or ws i 0 ≡ get_or us i 0 → ⊥) → same_bits ws us n ≡ false
  no_more n l e q =
      let k : ℕ = 64 * (i + 1) in
      let f : same_bits ws us k ≡ false = words_next ∙ ap₂ ◌&&◌ e (ne_eqb _ _ q) in
      let m : n ≡ k + (n - k) = omega arith in
      ap (same_bits ws us) m ∙ same_range (has ws) (has us) k (n - k)
      ∙ ap (λ (b : Bool). b && same_below (λ j. has ws (k + j)) (λ j. has us (k + j)) (n - k)) f

-- the words before one are the same exactly if their bits are
same_fronts : (ws us : List ℕ) (n : ℕ) → take n ws ≡ take n us → same_bits ws us (64 * n) ≡ true
same_fronts ws us n e =
    eq-eqb _ 0
    (rank_none (apart (has ws) (has us)) (64 * n)
    (λ b l. same_bool _ _ (sym (front_has ws n refl b l) ∙ front_has us n e b l)))

fronts_same : (ws us : List ℕ) (n : ℕ) → Words ws → Words us → n ≤ length ws → n ≤ length us → same_bits ws us (64 * n) ≡ true → take n ws ≡ take n us
fronts_same ws us n f g h l e =
    sym (packed-take n ws h f)
    ∙ packed_below n (has ws) (has us) (λ b m. not_apart (has ws b) (has us b) (none_rank (apart (has ws) (has us)) (64 * n) (eqb-true _ 0 e) b m))
    ∙ packed-take n us l g

-- the words below that of n, and then its part
by_words : (ws us : List ℕ) (n : ℕ) → same_bits ws us n ≡ same_bits ws us (64 * (n / 64)) && same_below (λ k. has ws (64 * (n / 64) + k)) (λ k. has us (64 * (n / 64) + k)) (n % 64)
by_words ws us n =
    let m : n ≡ 64 * (n / 64) + n % 64 = omega arith in
    ap (same_bits ws us) m ∙ same_range (has ws) (has us) (64 * (n / 64)) (n % 64)

-- what the comparison of two lists tells
pub alike : {xs ys : List ℕ} {r : Bool} → r ≡ not (bytes_eq xs ys) → r ≡ false → xs ≡ ys
alike {xs} {ys} e h = (bytes_eq-Decides xs ys).0 (not-false _ (sym e ∙ h))

pub unlike : {xs ys : List ℕ} {r : Bool} → r ≡ not (bytes_eq xs ys) → r ≡ true → xs ≡ ys → ⊥
unlike {xs} {ys} e h q = true≢false (sym ((bytes_eq-Decides xs ys).1 q) ∙ not-true _ (sym e ∙ h))

-- where those words are not the same, nothing more is compared
pub fronts_apart : (ws us : List ℕ) (n : ℕ) → Words ws → Words us → words_for n ≤ length ws → words_for n ≤ length us
    → (take (n / 64) ws ≡ take (n / 64) us → ⊥) → same_bits ws us n ≡ false
fronts_apart ws us n f g h l q =
    refuted (same_bits ws us n) (λ e. q (fronts_same ws us (n / 64) f g (omega arith) (omega arith) (both _ _ (sym (by_words ws us n) ∙ e)).0))

-- where they have the same bits, the word of n decides by its part
pub last_part : (ws us : List ℕ) (n : ℕ) → same_bits ws us (64 * (n / 64)) ≡ true
    → same_bits ws us n ≡ eqb (get_or ws (n / 64) 0 * 2 ^ (64 - n % 64) % 2 ^ 64) (get_or us (n / 64) 0 * 2 ^ (64 - n % 64) % 2 ^ 64)
last_part ws us n e =
    let i : ℕ = n / 64 in
    let k : ℕ = n % 64 in
    by_words ws us n
    ∙ ap₂ ◌&&◌ e (same_number (λ j. has ws (64 * i + j)) (λ j. has us (64 * i + j)) k)
    ∙ ap₂ eqb (number-has ws i k (omega arith)) (number-has us i k (omega arith))
    ∙ sym (shl_same (get_or ws i 0) (get_or us i 0) k (omega arith))

-- and so where they are the same
pub last_word : (ws us : List ℕ) (n : ℕ) → take (n / 64) ws ≡ take (n / 64) us
    → same_bits ws us n ≡ eqb (get_or ws (n / 64) 0 * 2 ^ (64 - n % 64) % 2 ^ 64) (get_or us (n / 64) 0 * 2 ^ (64 - n % 64) % 2 ^ 64)
last_word ws us n e = last_part ws us n (same_fronts ws us (n / 64) e)

-- of which nothing is asked where n is a whole number of words
pub no_part : (ws us : List ℕ) (n : ℕ) → take (n / 64) ws ≡ take (n / 64) us → n % 64 ≡ 0 → same_bits ws us n ≡ true
no_part ws us n e z = by_words ws us n ∙ rw (z, same_fronts ws us (n / 64) e)

pub compared : (capacity : ℕ) (ws : List ℕ) (capacity₂ : ℕ) (us : List ℕ) (bit : ℕ) → sound capacity ws ≡ true → sound capacity₂ us ≡ true
    → bit ≤ capacity → bit ≤ capacity₂ → answered (one (same_bits ws us bit)) untouched ≡ eq_left_call capacity ws capacity₂ us bit
compared capacity ws capacity₂ us bit f g h l =
    let same : same_bits ws us bit ≡ same_below (set_of capacity ws) (set_of capacity₂ us) bit =
    same_both (has ws) (has us) (set_of capacity ws) (set_of capacity₂ us) bit
    (λ b m. rw (lt-ltb b capacity (omega arith)))
    (λ b m. rw (lt-ltb b capacity₂ (omega arith))) in
    rw (f, g, le-leb bit capacity h, le-leb bit capacity₂ l, same)
