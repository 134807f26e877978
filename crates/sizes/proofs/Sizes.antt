-- The size of a level: between the two bounds, and no larger where fewer ids remain, so that its words and samples are no more. Assumes nothing.
use mathlib.Core.Path.{◌≡◌}
use Prim.Native.Nat.{ℕ, ◌*◌, ◌^◌, ◌≤◌, ◌<◌}
use native.Mathlib.Nat.{one-mul, mul-le-mul_left}
use native.Mathlib.Omega.{arith}
use lib.Ieee.{Float}
use lib.Ieee.Positive.{num, den, den_pos}
use Rattle.bounds.specs.Bounds.{max_ids, max_bits, min_bits}
use Rattle.laws.specs.Bits.{words_for}
use Rattle.sizes.specs.Gamma.{Allowed}
use Rattle.sizes.specs.Sizes.{precision, whole_product, size_for, samples_for}
use Rattle.sizes.proofs.Rounding.{whole_le, whole_ge, whole_mono}
use Rattle.sizes.proofs.Gammas.{product_least, product_most}

-- ---- what the laws need of the bounds: 16 bits for each id are not too many for a level, and their number has 53 binary digits at most
ids_bits : 16 * max_ids ≤ max_bits
ids_bits = omega arith

min_max : min_bits ≤ max_bits
min_max = omega arith

bits_digits : max_bits < 2 ^ 53
bits_digits = omega arith

pub room : (r : ℕ) → r ≤ max_ids → 16 * r < 2 ^ 53
room r h = omega (arith, ids_bits, bits_digits)

-- ---- the product's whole part
pub whole_most : (g : Float) (r : ℕ) → Allowed g → whole_product g r ≤ 16 * r
whole_most g r t = whole_le precision (num g * r) (den g) (16 * r) (den_pos g) (product_most g r t)

pub whole_least : (g : Float) (r : ℕ) → Allowed g → 0 < r → 1 ≤ whole_product g r
whole_least g r t p = whole_ge precision (num g * r) (den g) 1 (den_pos g) (simp one-mul (product_least g r t p))

-- ---- the size
pub size_zero : (g : Float) → size_for g 0 ≡ min_bits
unfolding size_for
size_zero g = omega (arith, whole_le precision (num g * 0) (den g) 0 (den_pos g) (omega arith))

pub size_least : (g : Float) (r : ℕ) → min_bits ≤ size_for g r
unfolding size_for
size_least g r = omega arith

pub size_most : (g : Float) (r : ℕ) → Allowed g → r ≤ max_ids → size_for g r ≤ max_bits
unfolding size_for
size_most g r t h = omega (arith, whole_most g r t, ids_bits, min_max)

pub size_mono : (g : Float) (q r : ℕ) → q ≤ r → size_for g q ≤ size_for g r
unfolding size_for
size_mono g q r h = omega (arith, whole_mono precision (num g * q) (num g * r) (den g) (den_pos g) (mul-le-mul_left (num g) h))

pub words_mono : (g : Float) (q r : ℕ) → q ≤ r → words_for (size_for g q) ≤ words_for (size_for g r)
words_mono g q r h = omega (arith, size_mono g q r h)

pub samples_mono : (g : Float) (q r : ℕ) → q ≤ r → samples_for (words_for (size_for g q)) ≤ samples_for (words_for (size_for g r))
samples_mono g q r h = omega (arith, words_mono g q r h)
