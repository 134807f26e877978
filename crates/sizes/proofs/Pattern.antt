-- The whole part of the product from its bits. Assumes nothing.
use mathlib.Core.Path.{◌≡◌, sym, ap, ap₂, ◌∙◌}
use mathlib.Core.Bool.{true, false, not, true≢false}
use Prim.Native.Nat.{ℕ, ◌+◌, ◌-◌, ◌*◌, ◌/◌, ◌%◌, ◌^◌, ◌≤◌, ◌<◌}
use native.Mathlib.Nat.{le_trans, le_of_eq, lt_of_le_of_lt, zero-add, one-mul, mul-div_cancel, le-div_iff_mul-le, div-lt_iff_lt-mul}
use native.Mathlib.Omega.{arith}
use lib.Dec.{T}
use lib.Pow.{pow-add, pow_pos, shr-shr}
use lib.Ieee.{Float, nan, inf, fin, Format, binary64, prec, low, hid, down, size, to_bits, is_nan}
use lib.Ieee.Digits.{size_reaches, size-le}
use lib.Ieee.Fits.{down_pos, kept-lt}
use lib.Ieee.Exact.{HasValue}
use Rattle.sizes.specs.Gamma.{Allowed}
use Rattle.sizes.specs.Sizes.{whole_product}
use Rattle.sizes.proofs.Rounding.{size_gt}
use Rattle.sizes.proofs.Sizes.{whole_least, whole_most}
use Rattle.sizes.proofs.Product.{times, product}

-- the bits of n units of the smallest float
pattern : (f : Format) (x : Float) (n : ℕ) → HasValue x false n (2 ^ low f) → to_bits f x ≡ (size n - prec f) * hid f + n / 2 ^ (size n - prec f)
unfolding to_bits
pattern f nan n h = absurd h
pattern f (inf s) n h = absurd h
pattern f (fin true m e) n h = absurd (true≢false h.0)
pattern f (fin false m e) n h =
    ap (λ (z : ℕ). 0 + (size z - prec f) * hid f + z / 2 ^ (size z - prec f)) (ap (λ (z : ℕ). z / down e) h.1 ∙ mul-div_cancel n (down_pos e))
    ∙ ap (λ (z : ℕ). z + n / 2 ^ (size n - prec f)) (zero-add ((size n - prec f) * hid f))

no_nan : (x : Float) (n c : ℕ) → HasValue x false n c → T (not (is_nan x))
unfolding is_nan
no_nan nan n c h = absurd h
no_nan (inf s) n c h = tt
no_nan (fin s m e) n c h = tt

-- the bits b of a number from 1 to below 2 ^ 53: the range of its exponent, and its whole part w
pub record Fields (b w : ℕ) : Type 0 where
  pub least : 1023 ≤ b / 2 ^ 52
  pub most : b / 2 ^ 52 ≤ 1075
  pub is : (b % 2 ^ 52 + 2 ^ 52) / 2 ^ (1075 - b / 2 ^ 52) ≡ w

fields : (n : ℕ) → 1074 < size n → size n ≤ 1127 → Fields ((size n - 53) * 2 ^ 52 + n / 2 ^ (size n - 53)) (n / 2 ^ 1074)
fields n least fit =
    let k = size n - 53 in
    let d = n / 2 ^ k in
    let b = k * 2 ^ 52 + d in
    let few : d < 2 ^ 53 = kept-lt 53 n in
    let full : 2 ^ 52 ≤ d = (le-div_iff_mul-le (pow_pos k)).1 (le_trans (le_of_eq (sym (pow-add 2 52 k))) (size_reaches n (52 + k) (omega arith))) in
    let digits : b % 2 ^ 52 + 2 ^ 52 ≡ d = omega arith in
    let shift : 1075 - b / 2 ^ 52 ≡ 1074 - k = omega arith in
    let all : k + (1074 - k) ≡ 1074 = omega arith in
    record {
      least = omega arith;
      most = omega arith;
      is = ap₂ (λ (x y : ℕ). x / 2 ^ y) digits shift ∙ shr-shr n k (1074 - k) ∙ ap (λ (y : ℕ). n / 2 ^ y) all;
    }

-- ---- the product is a number, and has these fields
abbrev pub ProductFields : Float → ℕ → Type 0
ProductFields g r = Fields (to_bits binary64 (times g r)) (whole_product g r)

module _ (g : Float) (r : ℕ) (t : Allowed g) (p : 0 < r) (room : 16 * r < 2 ^ 53) where
  pub product_number : T (not (is_nan (times g r)))
  product_number = let q = product g r t p room in no_nan (times g r) q.units (2 ^ 1074) q.value

  pub product_fields : ProductFields g r
  product_fields =
      let q = product g r t p room in
      let n = q.units in
      let one : 1 ≤ n / 2 ^ 1074 = le_trans (whole_least g r t p) (le_of_eq (sym q.is)) in
      let small : n / 2 ^ 1074 < 2 ^ 53 = lt_of_le_of_lt (le_trans (le_of_eq q.is) (whole_most g r t)) room in
      rw (pattern binary64 (times g r) n q.value)
      (rw q.is at
      (fields n (size_gt n 1074 (simp one-mul at ((le-div_iff_mul-le (pow_pos 1074)).0 one))) (size-le n 1127 ((div-lt_iff_lt-mul (pow_pos 1074)).0 small))))
