-- Products of words: one fits where its factors are halves, and one that does not is taken by its halves. Assumes nothing.
use Rattle.std.proofs.Common.{◌≡◌, ℕ, ◌+◌, ◌*◌, ◌/◌, ◌%◌, ◌^◌, ◌<◌, sym, refl, ◌∙◌, ap₂, lt_of_le_of_lt, le_of_lt, add_assoc, mul_assoc, mul_comm, add-mul, add_comm, mul-le-mul_left, mul-lt-mul_of_pos_right, mul-add, mul_left_comm, arith, pow_pos}
use native.Mathlib.Nat.{add_left_comm}
use lib.Pow.{split}

-- the product of two halves is a word
pub word : {a b : ℕ} → a < 2 ^ 32 → b < 2 ^ 32 → a * b < 2 ^ 64
word {a} {b} ha hb = lt_of_le_of_lt (mul-le-mul_left a (le_of_lt hb)) (mul-lt-mul_of_pos_right ha (pow_pos 32))

-- the product of two numbers of two digits each, in any base P
expand : (P a₀ a₁ b₀ b₁ : ℕ) → (a₁ * P + a₀) * (b₁ * P + b₀) ≡ a₁ * b₁ * (P * P) + (a₁ * b₀ + a₀ * b₁) * P + a₀ * b₀
expand P a₀ a₁ b₀ b₁ = simp (mul-add, add-mul, mul_assoc, mul_comm, mul_left_comm, add_assoc, add_comm, add_left_comm) refl

-- modulo 2 ^ 64, the product of the high halves falls away
pub by_halves : (a b : ℕ)
    → ((a / 2 ^ 32 * (b % 2 ^ 32) + a % 2 ^ 32 * (b / 2 ^ 32)) % 2 ^ 64 % 2 ^ 32 * 2 ^ 32 + a % 2 ^ 32 * (b % 2 ^ 32)) % 2 ^ 64 ≡ a * b % 2 ^ 64
by_halves a b =
    let e : a * b ≡ a / 2 ^ 32 * (b / 2 ^ 32) * (2 ^ 32 * 2 ^ 32) + (a / 2 ^ 32 * (b % 2 ^ 32) + a % 2 ^ 32 * (b / 2 ^ 32)) * 2 ^ 32 + a % 2 ^ 32 * (b % 2 ^ 32)
    = ap₂ (λ (x y : ℕ). x * y) (sym (split a 32)) (sym (split b 32)) ∙ expand (2 ^ 32) (a % 2 ^ 32) (a / 2 ^ 32) (b % 2 ^ 32) (b / 2 ^ 32) in
    omega arith
