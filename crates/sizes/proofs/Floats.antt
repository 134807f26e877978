-- The definition of a size in whole numbers agrees with the library's account of IEEE 754: it is the f64 product, cut to a whole number. Assumes nothing.
use mathlib.Core.Path.{◌≡◌, ap, ◌∙◌}
use mathlib.Core.Bool.{true, false, true≢false}
use Prim.Native.Nat.{ℕ, zero, suc, ◌*◌, ◌/◌, ◌^◌, ◌≤◌, ◌<◌, max}
use native.Mathlib.Nat.{le_trans, le_of_eq, lt_of_lt_of_le, lt_of_le_of_lt}
use native.Mathlib.Omega.{arith}
use lib.Dec.{T, lit≤}
use lib.Pow.{pow_pos}
use lib.Ieee.{Float, nan, inf, fin, binary64, up, down, mul, of_int, to_unsigned}
use lib.Ieee.Fits.{down_pos}
use lib.Ieee.Exact.{HasValue}
use lib.Ieee.Nearest.{div_same}
use lib.Ieee.Scale.{round_same}
use lib.Ieee.Positive.{positive}
use Rattle.bounds.specs.Bounds.{max_ids, min_bits}
use Rattle.sizes.specs.Gamma.{Allowed}
use Rattle.sizes.specs.Sizes.{whole_product, size_for}
use Rattle.sizes.proofs.Gammas.{fraction}
use Rattle.sizes.proofs.Sizes.{room, whole_most}
use Rattle.sizes.proofs.Product.{times, product}

-- a float that is a / c, cut to a whole number of 64 bits
cut_value : (x : Float) (a c : ℕ) → 0 < c → HasValue x false a c → a / c < 2 ^ 64 → to_unsigned 64 x ≡ a / c
unfolding to_unsigned
cut_value nan a c C h l = absurd h
cut_value (inf s) a c C h l = absurd h
cut_value (fin true m e) a c C h l = absurd (true≢false h.0)
cut_value (fin false m e) a c C h l = omega (arith, div_same (m * up e) (down e) a c (down_pos e) C h.1)

-- no ids: the product is 0
times_zero : (g : Float) → T (positive g) → to_unsigned 64 (times g 0) ≡ 0
unfolding to_unsigned mul of_int
times_zero nan p = absurd p
times_zero (inf s) p = absurd p
times_zero (fin true m e) p = absurd p
times_zero (fin false m e) p =
    ap (to_unsigned 64) (round_same binary64 false (m * up e * 0) (down e * 1) 0 1 (omega (arith, down_pos e)) (pow_pos 0) (omega arith))

-- the library's product of gamma and r, cut to a whole number
times_whole : (g : Float) (r : ℕ) → Allowed g → 16 * r < 2 ^ 53 → to_unsigned 64 (times g r) ≡ whole_product g r
times_whole g zero t h = omega (arith, times_zero g (fraction g t).above, whole_most g 0 t)
times_whole g (suc r) t h =
    let q = product g (suc r) t (omega arith) h in
    let few = lt_of_le_of_lt (le_trans (le_of_eq q.is) (whole_most g (suc r) t)) (lt_of_lt_of_le h (lit≤ {n = 2 ^ 64} tt)) in
    cut_value (times g (suc r)) q.units (2 ^ 1074) (pow_pos 1074) q.value few ∙ q.is

pub size_float : (g : Float) (r : ℕ) → Allowed g → r ≤ max_ids → size_for g r ≡ max min_bits (to_unsigned 64 (times g r))
unfolding size_for
size_float g r t h = rw (times_whole g r t (room r h))
