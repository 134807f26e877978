-- The digits of one number: they make it up, one is set by a sum and cleared by a difference, their sum is the ones; and the lowest that is set.
-- Assumes nothing.
use mathlib.Core.Path.{◌≡◌, refl, sym, ap, ap₂, ◌∙◌, subst}
use mathlib.Core.Bool.{Bool, true, false, ◌||◌}
use mathlib.Core.Logic.{◌≢◌}
use Prim.Native.Nat.{ℕ, zero, suc, ◌+◌, ◌-◌, ◌*◌, ◌/◌, ◌%◌, ◌^◌, ◌≤◌, ◌<◌, max, suc-le-suc}
use native.Mathlib.Nat.{add-zero, add_comm, add-div_right, add-mul-div_right, div-add-mod', div-lt_iff_lt-mul, div-one, le_dest, le-div_iff_mul-le}
use native.Mathlib.Nat.{mod-eq_of_lt, mod-lt, mod_self, mul_assoc, mul-mod_left, one-mul, pow-suc, zero-lt-suc}
use native.Mathlib.Numerals.{add-one, one-add}
use native.Mathlib.Decide.{dec_lt}
use native.Mathlib.Omega.{arith}
use borrow.Author.Tests.{lt-ltb, le-ltb}
use lib.Arith.{bin_ind, digits_mod, lt-one}
use lib.Bits.{bit_and, bit_or, and_block, and_mask, and_self, or_lt, or_shr, or_step}
use lib.Count.{ones, ones_cat, ones_step, count_trailing_zeros, under}
use lib.Dec.{eqb, ltb}
use lib.Pow.{pow_pos, pow-add, mod-pow-add, pow-lt, shl-shr, shr_lt, shr-shr, high}
use Rattle.laws.specs.Counting.{one, sum}
use Rattle.laws.specs.Bits.{digit, number}
use Rattle.laws.proofs.Cases.{eqb_both}
use Rattle.laws.proofs.Sums.{sum-zero, sum_same, sum_split}

pub digit_lt : (w k : ℕ) → digit w k < 2
digit_lt w k = omega arith

-- one more digit of the low part
low_suc : (w k : ℕ) → w % 2 ^ suc k ≡ digit w k * 2 ^ k + w % 2 ^ k
low_suc w k = ap (λ (n : ℕ). w % 2 ^ n) (sym (one-add k)) ∙ mod-pow-add w 1 k

-- ---- the digits make up the number

pub digits_sum : (w k : ℕ) → w % 2 ^ k ≡ sum (λ j. digit w j * 2 ^ j) k
digits_sum w zero = omega arith
digits_sum w (suc k) = low_suc w k ∙ omega (arith, digits_sum w k)

-- so two numbers below 2 ^ k with the same k digits are equal
pub digit_ext : (k w v : ℕ) → w < 2 ^ k → v < 2 ^ k → ((j : ℕ) → j < k → digit w j ≡ digit v j) → w ≡ v
digit_ext k w v hw hv e =
    sym (mod-eq_of_lt hw) ∙ digits_sum w k ∙ sum_same _ _ k (λ j l. ap (λ (d : ℕ). d * 2 ^ j) (e j l)) ∙ sym (digits_sum v k) ∙ mod-eq_of_lt hv

-- the number whose digits are given
pub number_lt : (s : ℕ → Bool) (n : ℕ) → number s n < 2 ^ n
number_lt s zero = omega arith
number_lt s (suc n) = omega (arith, number_lt s n, pow-suc 2 n, go (s n))
  where
    go : (t : Bool) → one t * 2 ^ n ≤ 2 ^ n
    go true = omega arith
    go false = omega arith

-- a multiple of 2 ^ (suc d + j) does not reach digit j
above_other : (a w j d : ℕ) → digit (w + a * 2 ^ (suc d + j)) j ≡ digit w j
above_other a w j d =
    let e : a * 2 ^ (suc d + j) ≡ (a * (2 ^ d * 2)) * 2 ^ j =
    ap (λ (x : ℕ). a * x) (pow-add 2 (suc d) j ∙ ap (λ (x : ℕ). x * 2 ^ j) (pow-suc 2 d)) ∙ sym (mul_assoc a (2 ^ d * 2) (2 ^ j)) in
    let f : (w + a * 2 ^ (suc d + j)) / 2 ^ j ≡ w / 2 ^ j + a * (2 ^ d * 2) =
    ap (λ (x : ℕ). (w + x) / 2 ^ j) e ∙ add-mul-div_right w (a * (2 ^ d * 2)) (pow_pos j) in
    omega (arith, f, mul_assoc a (2 ^ d) 2)

above_digit : (a w j n : ℕ) → j < n → digit (w + a * 2 ^ n) j ≡ digit w j
above_digit a w j n l =
    let t = le_dest l in
    let q : suc t.0 + j ≡ n = omega arith in
    subst (λ (x : ℕ). digit (w + a * 2 ^ x) j ≡ digit w j) q (above_other a w j t.0)

pub number-digit : (s : ℕ → Bool) (n k : ℕ) → k < n → digit (number s n) k ≡ one (s k)
number-digit s zero k h = absurd (omega arith)
number-digit s (suc n) k h = elim (dec_lt k n) [
  | yes l ↦ above_digit (one (s n)) (number s n) k n l ∙ number-digit s n k l
  | no m ↦
      let e : k ≡ n = omega arith in
      let f : (number s n + one (s n) * 2 ^ n) / 2 ^ n ≡ one (s n) =
      ap (λ (x : ℕ). x / 2 ^ n) (add_comm (number s n) (one (s n) * 2 ^ n)) ∙ high (one (s n)) n (number_lt s n) in
      rw (e, f) (go (s n))
]
  where
    go : (t : Bool) → one t % 2 ≡ one t
    go true = refl
    go false = refl

-- the number whose low t digits are 1
full : (t : ℕ) → number (λ k. true) t ≡ 2 ^ t - 1
full zero = refl
full (suc t) = omega (arith, full t, pow-suc 2 t, pow_pos t)

pub number_low : (s : ℕ → Bool) (t n : ℕ) → t ≤ n → ((k : ℕ) → k < n → s k ≡ ltb k t) → number s n ≡ 2 ^ t - 1
number_low s t n h e =
    let w : ℕ → ℕ = λ k. one (s k) * 2 ^ k in
    let q : n ≡ t + (n - t) = omega arith in
    let low : sum w t ≡ 2 ^ t - 1 =
    sum_same w (λ k. 1 * 2 ^ k) t (λ k l. ap (λ (b : Bool). one b * 2 ^ k) (e k (omega arith) ∙ lt-ltb k t l)) ∙ full t in
    let up : sum (λ k. w (t + k)) (n - t) ≡ 0 =
    sum_same (λ k. w (t + k)) (λ k. 0) (n - t)
    (λ k l. ap (λ (b : Bool). one b * 2 ^ (t + k)) (e (t + k) (omega arith) ∙ le-ltb (t + k) t (omega arith)) ∙ omega arith)
    ∙ sum-zero (n - t) in
    ap (sum w) q ∙ sum_split w t (n - t) ∙ omega arith

-- ---- one digit set by a sum, where it was 0

up_div : (w k : ℕ) → (w + 2 ^ k) / 2 ^ k ≡ w / 2 ^ k + 1
up_div w k = add-div_right w (pow_pos k)

pub up_same : (w k : ℕ) → digit w k ≡ 0 → digit (w + 2 ^ k) k ≡ 1
up_same w k e = omega (arith, up_div w k)

up_above : (w k d : ℕ) → digit w k ≡ 0 → digit (w + 2 ^ k) (k + (1 + d)) ≡ digit w (k + (1 + d))
up_above w k d e =
    let h : (w + 2 ^ k) / 2 ^ k / 2 ≡ w / 2 ^ k / 2 = omega (arith, up_div w k) in
    let g : (x : ℕ) → x / 2 ^ (k + (1 + d)) ≡ x / 2 ^ k / 2 / 2 ^ d =
    λ x. sym (shr-shr x k (1 + d)) ∙ sym (shr-shr (x / 2 ^ k) 1 d) in
    ap (λ (x : ℕ). x % 2) (g (w + 2 ^ k) ∙ ap (λ (x : ℕ). x / 2 ^ d) h ∙ sym (g w))

pub up_other : (w k j : ℕ) → digit w k ≡ 0 → j ≢ k → digit (w + 2 ^ k) j ≡ digit w j
up_other w k j e n =
    elim (dec_lt j k) [
      | yes h ↦ rw (one-mul (2 ^ k)) at (above_digit 1 w j k h)
      | no h ↦
          let l : k < j = omega arith in
          let t = le_dest l in
          let q : k + (1 + t.0) ≡ j = omega arith in
          subst (λ (x : ℕ). digit (w + 2 ^ k) x ≡ digit w x) q (up_above w k t.0 e)
    ]

up_fits_at : (w k d : ℕ) → w < 2 ^ (suc d + k) → digit w k ≡ 0 → w + 2 ^ k < 2 ^ (suc d + k)
up_fits_at w k d h e =
    let q : 2 ^ suc d ≡ 2 ^ d * 2 = pow-suc 2 d in
    let l : (w + 2 ^ k) / 2 ^ k < 2 ^ suc d = omega (arith, shr_lt (suc d) k h, up_div w k, q) in
    rw (← pow-add 2 (suc d) k) at ((div-lt_iff_lt-mul (pow_pos k)).0 l)

-- the sum stays within the digits that there are
pub up_fits : (n w k : ℕ) → w < 2 ^ n → k < n → digit w k ≡ 0 → w + 2 ^ k < 2 ^ n
up_fits n w k h l e =
    let t = le_dest l in
    let q : suc t.0 + k ≡ n = omega arith in
    subst (λ (x : ℕ). w + 2 ^ k < 2 ^ x) q (up_fits_at w k t.0 (subst (λ (x : ℕ). w < 2 ^ x) (sym q) h) e)

-- ---- one digit cleared by a difference, where it was 1

pub down_le : (w k : ℕ) → digit w k ≡ 1 → 2 ^ k ≤ w
down_le w k e =
    let h : 1 ≤ w / 2 ^ k = omega arith in
    rw one-mul at ((le-div_iff_mul-le (pow_pos k)).0 h)

down_up : (w k : ℕ) → digit w k ≡ 1 → w - 2 ^ k + 2 ^ k ≡ w
down_up w k e = omega (arith, down_le w k e)

pub down_same : (w k : ℕ) → digit w k ≡ 1 → digit (w - 2 ^ k) k ≡ 0
down_same w k e =
    let h : w / 2 ^ k ≡ (w - 2 ^ k) / 2 ^ k + 1 =
    ap (λ (x : ℕ). x / 2 ^ k) (sym (down_up w k e)) ∙ up_div (w - 2 ^ k) k in
    omega (arith, h)

pub down_other : (w k j : ℕ) → digit w k ≡ 1 → j ≢ k → digit (w - 2 ^ k) j ≡ digit w j
down_other w k j e n =
    sym (up_other (w - 2 ^ k) k j (down_same w k e) n) ∙ ap (λ (x : ℕ). digit x j) (down_up w k e)

-- `1 << k` at 64 bits
pub one_shl : (k : ℕ) → k < 64 → 1 * 2 ^ k % 2 ^ 64 ≡ 2 ^ k
one_shl k h = rw (one-mul (2 ^ k)) (mod-eq_of_lt (pow-lt {i = k} {j = 64} h))

-- ---- `|`, digit by digit

pub digit_or : (a b k : ℕ) → digit (bit_or a b) k ≡ max (digit a k) (digit b k)
digit_or a b k =
    ap (λ (x : ℕ). x % 2) (or_shr a b k ∙ or_step (a / 2 ^ k) (b / 2 ^ k))
    ∙ digits_mod (bit_or (a / 2 ^ k / 2) (b / 2 ^ k / 2)) (omega (arith, digit_lt a k, digit_lt b k))

pub number_or : (s t : ℕ → Bool) (n : ℕ) → bit_or (number s n) (number t n) ≡ number (λ k. s k || t k) n
number_or s t n =
    digit_ext n _ _ (or_lt n _ _ (number_lt s n) (number_lt t n)) (number_lt (λ k. s k || t k) n)
    (λ k l.
    digit_or (number s n) (number t n) k ∙ ap₂ max (number-digit s n k l) (number-digit t n k l)
    ∙ go (s k) (t k) ∙ sym (number-digit (λ j. s j || t j) n k l))
  where
    go : (a b : Bool) → max (one a) (one b) ≡ one (a || b)
    go true true = refl
    go true false = refl
    go false true = refl
    go false false = refl

-- ---- the ones among the low k digits are the sum of those digits

ones-digit : (d : ℕ) → d < 2 → ones d ≡ d
unfolding ones
ones-digit zero h = refl
ones-digit (suc zero) h = refl
ones-digit (suc (suc d)) h = absurd (omega arith)

pub ones_low : (w k : ℕ) → ones (w % 2 ^ k) ≡ sum (λ j. digit w j) k
unfolding ones
ones_low w zero = let e : w % 1 ≡ 0 = omega arith in ap ones e
ones_low w (suc k) =
    ap ones (low_suc w k) ∙ ones_cat k (digit w k) (w % 2 ^ k) (mod-lt w (pow_pos k)) ∙ omega (arith, ones-digit (digit w k) (digit_lt w k), ones_low w k)

-- a number has no ones exactly if it is 0
pub ones_none : (w : ℕ) → ones w ≡ 0 → w ≡ 0
ones_none w = bin_ind (λ (n : ℕ). ones n ≡ 0 → n ≡ 0) (λ e. refl) (λ n r e. omega (arith, ones_step n, r (omega (arith, ones_step n)))) w

pub ones-zero : (w : ℕ) → w ≡ 0 → ones w ≡ 0
unfolding ones
ones-zero w e = ap ones e

-- a shift to the bottom drops the low k digits
pub digit_shr : (w k j : ℕ) → digit (w / 2 ^ k) j ≡ digit w (k + j)
digit_shr w k j = ap (λ (x : ℕ). x % 2) (shr-shr w k j)

-- a shift to the top of a word keeps the low k digits and drops the others
pub shl_low : (w j k : ℕ) → w * 2 ^ j % 2 ^ (k + j) ≡ w % 2 ^ k * 2 ^ j
shl_low w j k =
    mod-pow-add (w * 2 ^ j) k j ∙ ap₂ (λ (x y : ℕ). x % 2 ^ k * 2 ^ j + y) (shl-shr w j) (mul-mod_left w (2 ^ j)) ∙ add-zero (w % 2 ^ k * 2 ^ j)

-- so that two words shifted to the top are equal exactly if their low k digits are
pub shl_same : (w v k : ℕ) → k ≤ 64 → eqb (w * 2 ^ (64 - k) % 2 ^ 64) (v * 2 ^ (64 - k) % 2 ^ 64) ≡ eqb (w % 2 ^ k) (v % 2 ^ k)
shl_same w v k h =
    let e : 64 ≡ k + (64 - k) = omega arith in
    let low : (x : ℕ) → x * 2 ^ (64 - k) % 2 ^ 64 ≡ x % 2 ^ k * 2 ^ (64 - k) = λ x. ap (λ (n : ℕ). x * 2 ^ (64 - k) % 2 ^ n) e ∙ shl_low x (64 - k) k in
    ap₂ eqb (low w) (low v)
    ∙ eqb_both (w % 2 ^ k * 2 ^ (64 - k)) (v % 2 ^ k * 2 ^ (64 - k)) (w % 2 ^ k) (v % 2 ^ k)
    (λ q. sym (shl-shr (w % 2 ^ k) (64 - k)) ∙ ap (λ (x : ℕ). x / 2 ^ (64 - k)) q ∙ shl-shr (v % 2 ^ k) (64 - k))
    (λ q. ap (λ (x : ℕ). x * 2 ^ (64 - k)) q)

pub ones_shl : (w k : ℕ) → k ≤ 64 → ones (w * 2 ^ (64 - k) % 2 ^ 64) ≡ ones (w % 2 ^ k)
unfolding ones
ones_shl w k h =
    let e : 64 ≡ k + (64 - k) = omega arith in
    let f : ones (w % 2 ^ k * 2 ^ (64 - k) + 0) ≡ ones (w % 2 ^ k) = ones_cat (64 - k) (w % 2 ^ k) 0 (pow_pos (64 - k)) ∙ add-zero (ones (w % 2 ^ k)) in
    ap (λ (n : ℕ). ones (w * 2 ^ (64 - k) % 2 ^ n)) e ∙ ap ones (shl_low w (64 - k) k ∙ sym (add-zero (w % 2 ^ k * 2 ^ (64 - k)))) ∙ f

-- ---- the lowest digit that is set

pub record Lowest (d w t : ℕ) : Type 0 where
  pub within : t < d
  pub set : digit w t ≡ 1
  pub first : (j : ℕ) → j < t → digit w j ≡ 0

pub lowest : (d w : ℕ) → w < 2 ^ d → w ≢ 0 → Lowest d w (count_trailing_zeros d w)
unfolding count_trailing_zeros
lowest zero w h n = absurd (n (lt-one h))
lowest (suc d) w h n = go (w % 2) refl (λ e. lowest d (w / 2) (shr_lt d 1 (rw (← add-one d) at h)) (omega arith))
  where
    up : (j : ℕ) → digit (w / 2) j ≡ digit w (suc j)
    up j = ap (λ (x : ℕ). x % 2) (shr-shr w 1 j) ∙ ap (digit w) (one-add j)

    below : w % 2 ≡ 0 → (t : ℕ) → ((j : ℕ) → j < t → digit (w / 2) j ≡ 0) → (j : ℕ) → j < suc t → digit w j ≡ 0
    below e t f zero l = ap (λ (x : ℕ). x % 2) (div-one w) ∙ e
    below e t f (suc j) l = sym (up j) ∙ f j (omega arith)

    go : (r : ℕ) → w % 2 ≡ r → (w % 2 ≡ 0 → Lowest d (w / 2) (count_trailing_zeros d (w / 2))) → Lowest (suc d) w (under r (count_trailing_zeros d (w / 2)))
    go zero e r =
        let t = r e in
        record { within = suc-le-suc t.within; set = sym (up (count_trailing_zeros d (w / 2))) ∙ t.set; first = below e (count_trailing_zeros d (w / 2)) t.first }
    go (suc q) e r = record { within = zero-lt-suc d; set = ap (λ (x : ℕ). x % 2) (div-one w) ∙ omega arith; first = λ j l. absurd (omega arith) }

-- cleared by `&` with the number before
pub lowest_off : {d w t : ℕ} → Lowest d w t → bit_and w (w - 1) ≡ w - 2 ^ t
lowest_off {w = w} {t = t} l =
    let p : ℕ = 2 ^ suc t in
    let h : ℕ = w / p in
    let none : w % 2 ^ t ≡ 0 = digits_sum w t ∙ sum_same _ (λ j. 0) t (λ j m. rw (l.first j m) (omega arith)) ∙ sum-zero t in
    let low : w % p ≡ 2 ^ t = low_suc w t ∙ rw (l.set, none) (omega arith) in
    let whole : h * p + 2 ^ t ≡ w = ap (λ (x : ℕ). h * p + x) (sym low) ∙ div-add-mod' w p in
    let less : h * p + (2 ^ t - 1) ≡ w - 1 = omega (arith, whole, pow_pos t) in
    let small : 2 ^ t < p = omega (arith, pow-suc 2 t, pow_pos t) in
    ap₂ bit_and (sym whole) (sym less) ∙ and_block (suc t) h h (2 ^ t) (2 ^ t - 1) small (omega arith)
    ∙ omega (arith, whole, ap (λ (x : ℕ). x * p) (and_self h), and_mask (2 ^ t) t, mod_self (2 ^ t))
