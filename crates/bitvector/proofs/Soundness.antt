-- What the check of a store says of its bits: the needed words are there, and none of their bits stands at or past the capacity. Assumes nothing.
use mathlib.Core.Path.{◌≡◌, refl, sym, ap, ap₂, ◌∙◌}
use mathlib.Core.Bool.{Bool, true, false, ◌&&◌}
use mathlib.Core.List.{List}
use Prim.Native.Nat.{ℕ, ◌+◌, ◌-◌, ◌*◌, ◌/◌, ◌%◌, ◌^◌, ◌≤◌, ◌<◌}
use native.Mathlib.Nat.{add-zero}
use native.Mathlib.Omega.{arith}
use borrow.Author.Tests.{eqb-true, leb-true, ltb-false, lt-ltb}
use lib.Count.{ones}
use lib.Dec.{eqb, ltb}
use lib.ListN.{length, get_or}
use Rattle.bounds.specs.Bounds.{max_bits}
use Rattle.laws.specs.Counting.{one, rank}
use Rattle.laws.specs.Bits.{has, Words, words_for}
use Rattle.laws.proofs.Cases.{eqb_both, both}
use Rattle.laws.proofs.Sums.{none_rank, rank_same, sum_split}
use Rattle.laws.proofs.Digits.{ones_none, ones-zero}
use Rattle.laws.proofs.Ones.{rank-rest}
use Rattle.bitvector.specs.Sets.{set_of}
use Rattle.bitvector.specs.Calls.{roomy, sound}

pub record Roomy (capacity : ℕ) (ws : List ℕ) : Type 0 where
  pub bound : capacity ≤ max_bits
  pub words : words_for capacity ≤ length ws

pub roomy-has : (capacity : ℕ) (ws : List ℕ) → roomy capacity ws ≡ true → Roomy capacity ws
unfolding roomy
roomy-has capacity ws e = let t = both _ _ e in record { bound = leb-true _ _ t.0; words = leb-true _ _ t.1 }

-- the check of the last word, as the code makes it: nothing is asked where the capacity ends with a word
pub sound_whole : (capacity : ℕ) (ws : List ℕ) → roomy capacity ws ≡ true → capacity % 64 ≡ 0 → sound capacity ws ≡ true
unfolding sound
sound_whole capacity ws r e =
    let a : 64 * words_for capacity - capacity ≡ 0 = omega arith in
    rw (r, a)

pub sound_part : (capacity : ℕ) (ws : List ℕ) → roomy capacity ws ≡ true → Words ws → (capacity % 64 ≡ 0 → ⊥)
    → sound capacity ws ≡ eqb (get_or ws (capacity / 64) 0 / 2 ^ (capacity % 64)) 0
unfolding sound
sound_part capacity ws r f n =
    let i : ℕ = capacity / 64 in
    let k : ℕ = capacity % 64 in
    let a : 64 * words_for capacity - capacity ≡ 64 - k = omega arith in
    let b : 64 * i + k ≡ capacity = omega arith in
    let e : rank (λ j. has ws (capacity + j)) (64 - k) ≡ ones (get_or ws i 0 / 2 ^ k) = rw b at (rank-rest ws f i k (omega arith)) in
    rw (r, a, e) (eqb_both (ones (get_or ws i 0 / 2 ^ k)) 0 (get_or ws i 0 / 2 ^ k) 0 (ones_none _) (ones-zero _))

module _ (capacity : ℕ) (ws : List ℕ) (s : sound capacity ws ≡ true) where
  pub sound_room : Roomy capacity ws
  unfolding sound
  sound_room = roomy-has capacity ws (both _ _ s).0

  pub stray : (b : ℕ) → capacity ≤ b → b < 64 * words_for capacity → has ws b ≡ false
  unfolding sound
  stray b l h =
      let m : ℕ = 64 * words_for capacity - capacity in
      let e : capacity + (b - capacity) ≡ b = omega arith in
      rw e at (none_rank (λ k. has ws (capacity + k)) m (eqb-true _ 0 (both (roomy capacity ws) _ s).1) (b - capacity) (omega arith))

  -- so the bits set in the needed words are the numbers of the set
  pub set_size : rank (has ws) (64 * words_for capacity) ≡ rank (set_of capacity ws) capacity
  unfolding sound
  set_size =
      let m : ℕ = 64 * words_for capacity - capacity in
      let e : 64 * words_for capacity ≡ capacity + m = omega arith in
      ap (rank (has ws)) e ∙ sum_split (λ p. one (has ws p)) capacity m
      ∙ ap₂ (λ (x y : ℕ). x + y)
      (rank_same (has ws) (set_of capacity ws) capacity (λ b l. rw (lt-ltb b capacity l)))
      (eqb-true (rank (λ k. has ws (capacity + k)) m) 0 (both (roomy capacity ws) _ s).1)
      ∙ add-zero (rank (set_of capacity ws) capacity)

  -- and the needed words hold the set and nothing else
  pub set_bits_lem : (b : ℕ) → b < 64 * words_for capacity → set_of capacity ws b ≡ has ws b
  set_bits_lem b h = go (ltb b capacity) refl
    where
      go : (t : Bool) → ltb b capacity ≡ t → t && has ws b ≡ has ws b
      go true e = refl
      go false e = sym (stray b (ltb-false _ _ e) h)
