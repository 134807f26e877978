-- The laws of the set bits of words, and of those from a sample up to a position. Assumes nothing.
use mathlib.Core.Path.{◌≡◌, sym, ap, ◌∙◌}
use mathlib.Core.List.{List}
use Prim.Native.Nat.{ℕ, ◌+◌, ◌-◌, ◌*◌, ◌/◌, ◌%◌, ◌^◌, ◌≤◌}
use native.Mathlib.Nat.{div-add-mod}
use native.Mathlib.Omega.{arith}
use lib.Count.{ones}
use lib.ListN.{length, get_or}
use Rattle.bounds.specs.Bounds.{sample_bits}
use Rattle.laws.specs.Counting.{one, sum, rank}
use Rattle.laws.specs.Bits.{has, Words}
use Rattle.laws.proofs.Sums.{sum_split, rank-le}
use Rattle.laws.proofs.Digits.{ones_shl}
use Rattle.laws.proofs.Ones.{rank_word, rank_words}
use Rattle.ranks.specs.Ranks.{set_bits, ones_from}

-- the set bits of words are the ones of each word, summed
pub set_bits_words : (ws : List ℕ) → Words ws → set_bits ws ≡ sum (λ i. ones (get_or ws i 0)) (length ws)
unfolding set_bits
set_bits_words ws f = rank_words ws f (length ws)

pub set_bits_le : (ws : List ℕ) → set_bits ws ≤ 64 * length ws
unfolding set_bits
set_bits_le ws = rank-le (has ws) (64 * length ws)

module _ (ws : List ℕ) (p : ℕ) where
  pub ones_from_le : ones_from ws p ≤ p % sample_bits
  unfolding ones_from
  ones_from_le = rank-le (λ k. has ws (sample_bits * (p / sample_bits) + k)) (p % sample_bits)

  -- the set bits below a position are those before its sample's first bit and those from there on
  pub rank_from : rank (has ws) p ≡ rank (has ws) (sample_bits * (p / sample_bits)) + ones_from ws p
  unfolding ones_from
  rank_from = ap (rank (has ws)) (sym (div-add-mod p sample_bits)) ∙ sum_split (λ q. one (has ws q)) (sample_bits * (p / sample_bits)) (p % sample_bits)

  -- so a count of the ones from the sample's first word, s, up to the position is right
  pub counted_from : (s n : ℕ) → 64 * s ≡ sample_bits * (p / sample_bits) → rank (has ws) (64 * s) + n ≡ rank (has ws) p → n ≡ ones_from ws p
  counted_from s n h e = omega (arith, ap (rank (has ws)) h, rank_from)

  -- A count that has come to the position's word, i, comes to the position by the ones below it there: a shift to the top of the word keeps just these.
  pub counted_own : (i m n : ℕ) → i ≡ p / 64 → m + n ≡ rank (has ws) (64 * i)
      → m + (n + ones (get_or ws (p / 64) 0 * 2 ^ (64 - p % 64) % 2 ^ 64)) ≡ rank (has ws) p
  counted_own i m n h e =
      let l : p % 64 ≤ 64 = omega arith in
      omega (
        arith,
        ap (λ (j : ℕ). rank (has ws) (64 * j)) h,
        ones_shl (get_or ws (p / 64) 0) (p % 64) l,
        rank_word ws (p / 64) (p % 64) l,
        ap (rank (has ws)) (div-add-mod p 64),
      )
