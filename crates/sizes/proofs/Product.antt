-- The f64 product of gamma and a whole number, in units of 2 ^ -1074, the smallest f64 above 0: its whole part is what `whole_of` says. Assumes nothing.
use mathlib.Core.Path.{◌≡◌, sym, ap, ◌∙◌}
use mathlib.Core.Bool.{false}
use Prim.Native.Nat.{ℕ, ◌+◌, ◌-◌, ◌*◌, ◌/◌, ◌^◌, ◌≤◌, ◌<◌}
use native.Mathlib.Nat.{le_trans, le_of_eq, lt_of_lt_of_le, lt_of_le_of_lt, le-div_iff_mul-le, div-lt_iff_lt-mul}
use native.Mathlib.Nat.{one-mul, mul-one, mul_comm, mul_assoc, mul_left_comm, mul_right_comm, mul-le-mul_right, mul-lt-mul_of_pos_right, mul-pos}
use native.Mathlib.Omega.{arith}
use lib.IntN.{pos}
use lib.Dec.{lit≤}
use lib.Pow.{pow-add, pow_pos}
use lib.Ieee.{Float, Format, binary32, binary64, prec, low, size, mul, of_int}
use lib.Ieee.Digits.{size-lt, size-le, size_reaches}
use lib.Ieee.Exact.{HasValue}
use lib.Ieee.Nearest.{closest, closest_same, div_same}
use lib.Ieee.Scale.{grid, round_val}
use lib.Ieee.Back.{round_whole}
use lib.Ieee.Positive.{num, den, den_pos, own_value, positive_of_value, mul_at}
use Rattle.sizes.specs.Gamma.{Allowed}
use Rattle.sizes.specs.Sizes.{whole_of, whole_product}
use Rattle.sizes.proofs.Rounding.{size_gt, cut, whole_cut}
use Rattle.sizes.proofs.Gammas.{fraction, product_least, product_most}
use Rattle.sizes.proofs.Sizes.{whole_most}

-- ---- a fraction that is 1 at least, times 2 ^ t, has t more digits before the point
size_scale : (a c t : ℕ) → 0 < c → c ≤ a → size (a * 2 ^ t / c) ≡ size (a / c) + t
size_scale a c t C h =
    let z = size (a / c) in
    let y = z - 1 in
    let pos : 0 < z = size_gt (a / c) 0 ((le-div_iff_mul-le C).1 (simp one-mul h)) in
    let hi : a * 2 ^ t < 2 ^ (z + t) * c
    = simp (pow-add, mul_right_comm (2 ^ z) (2 ^ t) c) (mul-lt-mul_of_pos_right ((div-lt_iff_lt-mul C).0 (size-lt (a / c))) (pow_pos t)) in
    let lo : 2 ^ (y + t) * c ≤ a * 2 ^ t
    = simp (pow-add, mul_right_comm (2 ^ y) (2 ^ t) c) (mul-le-mul_right (2 ^ t) ((le-div_iff_mul-le C).0 (size_reaches (a / c) y (omega arith)))) in
    omega (arith, size-le (a * 2 ^ t / c) (z + t) ((div-lt_iff_lt-mul C).1 hi), size_gt (a * 2 ^ t / c) (y + t) ((le-div_iff_mul-le C).1 lo))

-- ---- of l digits behind the point k are kept and j dropped, as the library does, or k are there at once
cut_units : (a c j k l : ℕ) → 0 < c → k + j ≡ l → closest (a * 2 ^ l) (c * 2 ^ j) * 2 ^ j / 2 ^ l ≡ cut k a c
cut_units a c j k l C e =
    let x = closest (a * 2 ^ k) c in
    let w : 2 ^ l ≡ 2 ^ k * 2 ^ j = ap (λ (n : ℕ). 2 ^ n) (sym e) ∙ pow-add 2 k j in
    let cross : a * 2 ^ l * c ≡ a * 2 ^ k * (c * 2 ^ j) = simp (w, mul_assoc, mul_comm, mul_left_comm) in
    ap (λ (n : ℕ). n * 2 ^ j / 2 ^ l) (closest_same (a * 2 ^ l) (c * 2 ^ j) (a * 2 ^ k) c (mul-pos C (pow_pos j)) C cross)
    ∙ div_same (x * 2 ^ j) (2 ^ l) x (2 ^ k) (pow_pos l) (pow_pos k) (simp (w, mul_assoc, mul_comm))

enough : (f : Format) → prec f ≤ low f
enough binary32 = lit≤ tt
enough binary64 = lit≤ tt

-- `grid f a c` is the value a / c as the format f has it, in units of its smallest
grid_whole : (f : Format) (a c : ℕ) → 0 < c → c ≤ a → a < 2 ^ prec f * c → grid f a c / 2 ^ low f ≡ whole_of (prec f) a c
grid_whole f a c C one room =
    let p = prec f in
    let l = low f in
    let s = size (a / c) in
    let fit : s ≤ p = size-le (a / c) p ((div-lt_iff_lt-mul C).1 room) in
    ap (λ (z : ℕ). closest (a * 2 ^ l) (c * 2 ^ (z - p)) * 2 ^ (z - p) / 2 ^ l) (size_scale a c l C one)
    ∙ cut_units a c (s + l - p) (p - s) l C (omega (arith, enough f))
    ∙ sym (whole_cut p a c)

-- ---- the product, as the code has it: gamma * (r as f64)
abbrev pub times : Float → ℕ → Float
times g r = mul binary64 g (of_int binary64 (pos r))

pub record Product (x : Float) (w : ℕ) : Type 0 where
  pub units : ℕ
  pub value : HasValue x false units (2 ^ 1074)
  pub is : units / 2 ^ 1074 ≡ w

pub product : (g : Float) (r : ℕ) → Allowed g → 0 < r → 16 * r < 2 ^ 53 → Product (times g r) (whole_product g r)
unfolding of_int
product g r t p room =
    let a = num g * r in
    let c = den g in
    let C = den_pos g in
    let G = fraction g t in
    let below : a < 2 ^ 53 * c = lt_of_le_of_lt (product_most g r t) (mul-lt-mul_of_pos_right room C) in
    let is : grid binary64 a c / 2 ^ 1074 ≡ whole_product g r = grid_whole binary64 a c C (product_least g r t p) below in
    let small : grid binary64 a c / 2 ^ 1074 < 2 ^ 1024 = lt_of_le_of_lt (le_trans (le_of_eq is) (whole_most g r t)) (lt_of_lt_of_le room (lit≤ tt)) in
    let y = of_int binary64 (pos r) in
    let v : HasValue y false r 1 = round_whole binary64 false r (omega arith) in
    let q = positive_of_value y r 1 v p in
    record {
      units = grid binary64 a c;
      value =
          rw (mul_at binary64 g y (num g) c r 1 G.above q C (pow_pos 0) (own_value g G.above) v, mul-one)
          (round_val binary64 a c ((div-lt_iff_lt-mul (pow_pos 1074)).0 small));
      is = is;
    }
