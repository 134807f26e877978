-- The plain mixer is one to one on words, with any seed word: each of its steps can be undone. Assumes nothing.
use Rattle.std.proofs.Common.{◌≡◌, ℕ, ◌+◌, ◌*◌, ◌%◌, ◌^◌, ◌<◌, refl, add_assoc, mod-lt, lit<, pow_pos}
use Rattle.laws.proofs.Undone.{xor_shift_undone, sum_undone, odd_undone}
use Rattle.mixer.specs.Mixer.{stirred, mixed}
use Rattle.mixer.proofs.Positions.{stirred-lt}

-- the stirring of a word can be undone
stirred_undone : (k m n : ℕ) → 0 < k → stirred k (m % 2 ^ 64) ≡ stirred k (n % 2 ^ 64) → m % 2 ^ 64 ≡ n % 2 ^ 64
stirred_undone k m n p e = xor_shift_undone 64 k (m % 2 ^ 64) (n % 2 ^ 64) p (mod-lt m (pow_pos 64)) (mod-lt n (pow_pos 64)) e

-- and so can a step that stirs a word and multiplies it by an odd number
step_undone : (k a m n : ℕ) → 0 < k → a % 2 ≡ 1 → stirred k (m % 2 ^ 64) * a % 2 ^ 64 ≡ stirred k (n % 2 ^ 64) * a % 2 ^ 64 → m % 2 ^ 64 ≡ n % 2 ^ 64
step_undone k a m n p o e =
    stirred_undone k m n p (odd_undone 64 a (stirred k (m % 2 ^ 64)) (stirred k (n % 2 ^ 64)) o (stirred-lt k m) (stirred-lt k n) e)

-- two words that the mixer takes to one word, with the same seed word, are one
pub mixed_undone : (seed x y : ℕ) → x < 2 ^ 64 → y < 2 ^ 64 → mixed x seed ≡ mixed y seed → x ≡ y
unfolding mixed
mixed_undone seed x y hx hy e =
    let s : (x + seed + 0x9E37_79B9_7F4A_7C15) % 2 ^ 64 ≡ (y + seed + 0x9E37_79B9_7F4A_7C15) % 2 ^ 64 =
    step_undone 30 0xBF58_476D_1CE4_E5B9 _ _ (lit< tt) refl (step_undone 27 0x94D0_49BB_1331_11EB _ _ (lit< tt) refl (stirred_undone 31 _ _ (lit< tt) e)) in
    sum_undone (2 ^ 64) (seed + 0x9E37_79B9_7F4A_7C15) x y hx hy (simp add_assoc at s)
