-- Counts of ones in lists of words: they are the numbers of set bits. Assumes nothing.
use mathlib.Core.Path.{◌≡◌, refl, sym, ap, ◌∙◌}
use mathlib.Core.List.{List}
use Prim.Native.Nat.{ℕ, zero, suc, ◌+◌, ◌-◌, ◌*◌, ◌/◌, ◌%◌, ◌^◌, ◌≤◌, ◌<◌}
use native.Mathlib.Nat.{mod-eq_of_lt}
use native.Mathlib.Numerals.{add-one}
use native.Mathlib.Omega.{arith}
use lib.Count.{ones}
use lib.Dec.{lit≤}
use lib.ListN.{get_or}
use lib.Pow.{shr_lt}
use Rattle.laws.specs.Counting.{one, sum, rank}
use Rattle.laws.specs.Bits.{digit, has, Words}
use Rattle.laws.proofs.Sums.{sum_split, sum_same}
use Rattle.laws.proofs.Digits.{ones_low, digit_shr}
use Rattle.laws.proofs.Words.{has-digit}

-- the set bits below a position: those before its word, and the ones below it in its own
pub rank_word : (ws : List ℕ) (i k : ℕ) → k ≤ 64 → rank (has ws) (64 * i + k) ≡ rank (has ws) (64 * i) + ones (get_or ws i 0 % 2 ^ k)
rank_word ws i k h =
    sum_split (λ p. one (has ws p)) (64 * i) k
    ∙ ap (λ (n : ℕ). rank (has ws) (64 * i) + n) (sum_same _ _ k (λ j l. has-digit ws i j (omega arith)) ∙ sym (ones_low (get_or ws i 0) k))

-- one word more
pub rank_next : (ws : List ℕ) → Words ws → (i : ℕ) → rank (has ws) (64 * (i + 1)) ≡ rank (has ws) (64 * i) + ones (get_or ws i 0)
rank_next ws f i =
    let e : 64 * (i + 1) ≡ 64 * i + 64 = omega arith in
    ap (rank (has ws)) e ∙ rank_word ws i 64 (lit≤ tt) ∙ ap (λ (w : ℕ). rank (has ws) (64 * i) + ones w) (mod-eq_of_lt (f i))

-- the ones of the first i words are the bits set there
pub rank_words : (ws : List ℕ) → Words ws → (i : ℕ) → rank (has ws) (64 * i) ≡ sum (λ j. ones (get_or ws j 0)) i
rank_words ws f zero = refl
rank_words ws f (suc i) = ap (λ (n : ℕ). rank (has ws) (64 * n)) (sym (add-one i)) ∙ rank_next ws f i ∙ omega (arith, rank_words ws f i)

pub rank_at : (ws : List ℕ) → Words ws → (i k : ℕ) → k ≤ 64 → rank (has ws) (64 * i + k) ≡ sum (λ j. ones (get_or ws j 0)) i + ones (get_or ws i 0 % 2 ^ k)
rank_at ws f i k h = rank_word ws i k h ∙ ap (λ (n : ℕ). n + ones (get_or ws i 0 % 2 ^ k)) (rank_words ws f i)

-- the set bits from a position to the end of its word
pub rank-rest : (ws : List ℕ) → Words ws → (i k : ℕ) → k ≤ 64 → rank (λ j. has ws (64 * i + k + j)) (64 - k) ≡ ones (get_or ws i 0 / 2 ^ k)
rank-rest ws f i k h =
    let w : ℕ = get_or ws i 0 in
    let e : 64 - k + k ≡ 64 = omega arith in
    let l : w / 2 ^ k < 2 ^ (64 - k) = shr_lt (64 - k) k (rw e (f i)) in
    sum_same _ (λ j. digit (w / 2 ^ k) j) (64 - k)
    (λ j m.
    let a : 64 * i + k + j ≡ 64 * i + (k + j) = omega arith in
    ap (λ (p : ℕ). one (has ws p)) a ∙ has-digit ws i (k + j) (omega arith) ∙ sym (digit_shr w k j))
    ∙ sym (ones_low (w / 2 ^ k) (64 - k))
    ∙ ap ones (mod-eq_of_lt l)
