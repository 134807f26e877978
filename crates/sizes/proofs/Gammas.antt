-- A gamma that passes both tests is a fraction from 1 to 16, so its product with r lies between r and 16 * r. Assumes nothing.
use mathlib.Core.Path.{sym}
use mathlib.Core.Bool.{true, false, true≢false}
use Prim.Native.Nat.{ℕ, ◌*◌, ◌≤◌, ◌<◌}
use native.Mathlib.Nat.{mul-le-mul_left, mul-le-mul_right}
use native.Mathlib.Omega.{arith}
use lib.Dec.{T, lt→ltb}
use lib.Ieee.{Float, nan, inf, fin, up, down, lt, of_bits}
use lib.Ieee.Positive.{num, den, positive, first_pos}
use borrow.Author.Tests.{ltb-true, ltb-false}
use Rattle.sizes.specs.Gamma.{min_gamma, max_gamma, Allowed}

pub record Fraction (g : Float) : Type 0 where
  pub above : T (positive g)
  pub least : den g ≤ num g
  pub most : num g ≤ 16 * den g

pub fraction : (g : Float) → Allowed g → Fraction g
unfolding lt of_bits
fraction nan t = absurd (true≢false (sym t.above))
fraction (inf true) t = absurd (true≢false (sym t.above))
fraction (inf false) t = absurd (true≢false t.within)
fraction (fin true m e) t = absurd (true≢false (sym t.above))
fraction (fin false m e) t =
    let least : num min_gamma * down e < m * up e * den min_gamma = ltb-true _ _ t.above in
    let most : m * up e * den max_gamma ≤ num max_gamma * down e = ltb-false _ _ t.within in
    record { above = lt→ltb 0 m (first_pos m (up e) (omega arith)); least = omega arith; most = omega arith }

pub product_least : (g : Float) (r : ℕ) → Allowed g → 0 < r → den g ≤ num g * r
product_least g r t p = omega (arith, mul-le-mul_left (num g) p, (fraction g t).least)

pub product_most : (g : Float) (r : ℕ) → Allowed g → num g * r ≤ 16 * r * den g
product_most g r t = omega (arith, mul-le-mul_right r (fraction g t).most)
