-- What a call has left can be given to the next one: the store is sound, and it holds the set of the act. Assumes nothing.
use mathlib.Core.Path.{◌≡◌, refl, sym, ◌∙◌, fun_ext}
use mathlib.Core.Bool.{Bool, true, false, not, ◌&&◌, and-false}
use mathlib.Core.List.{List}
use Prim.Native.Nat.{ℕ, ◌+◌, ◌-◌, ◌*◌, ◌≤◌, ◌<◌}
use native.Mathlib.Omega.{arith}
use borrow.Author.Tests.{ltb-true, ltb-false, le-ltb, le-leb, ne_eqb}
use lib.Dec.{eqb, ltb}
use lib.ListN.{length, drop, length-append, length-drop}
use Rattle.laws.specs.Bits.{has, words_for, packed}
use Rattle.laws.proofs.Sums.{rank_none}
use Rattle.laws.proofs.Words.{has-append}
use Rattle.laws.proofs.Packing.{length-packed, packed-has}
use Rattle.bitvector.specs.Sets.{Plain, empty_set, all_below, plus, minus, union, set_of, stored}
use Rattle.bitvector.specs.Calls.{roomy, sound}
use Rattle.bitvector.proofs.Soundness.{roomy-has}

-- a set of numbers below the capacity
pub record Within (capacity : ℕ) (s : Plain) : Type 0 where
  pub past : (b : ℕ) → capacity ≤ b → s b ≡ false

module _ (capacity : ℕ) (s : Plain) (ws : List ℕ) (w : Within capacity s) where
  stored-has : (b : ℕ) → b < 64 * words_for capacity → has (stored capacity s ws) b ≡ s b
  unfolding stored
  stored-has b h =
      let n : ℕ = words_for capacity in
      has-append (packed n s) (drop n ws) b (rw (length-packed n s) (omega arith)) ∙ packed-has n s b h

  pub stored-set : set_of capacity (stored capacity s ws) ≡ s
  stored-set = fun_ext (λ b. go b (ltb b capacity) refl)
    where
      go : (b : ℕ) (t : Bool) → ltb b capacity ≡ t → t && has (stored capacity s ws) b ≡ s b
      go b true e = let l = ltb-true b capacity e in stored-has b (omega arith)
      go b false e = sym (w.past b (ltb-false b capacity e))

  length-stored : words_for capacity ≤ length ws → length (stored capacity s ws) ≡ length ws
  unfolding stored
  length-stored h = simp (length-append, length-packed, length-drop) (omega arith)

  pub stored-sound : roomy capacity ws ≡ true → sound capacity (stored capacity s ws) ≡ true
  unfolding sound roomy
  stored-sound h =
      let r = roomy-has capacity ws h in
      let z = rank_none (λ k. has (stored capacity s ws) (capacity + k)) (64 * words_for capacity - capacity)
      (λ k l. stored-has (capacity + k) (omega arith) ∙ w.past (capacity + k) (omega arith)) in
      rw (le-leb _ _ r.bound, length-stored r.words, le-leb _ _ r.words, z)

-- the sets of the calls
pub empty_within : (capacity : ℕ) → Within capacity empty_set
empty_within capacity = record { past = λ b h. refl }

pub all_within : (capacity : ℕ) → Within capacity (all_below capacity)
all_within capacity = record { past = λ b h. le-ltb b capacity h }

pub set_within : (capacity : ℕ) (ws : List ℕ) → Within capacity (set_of capacity ws)
set_within capacity ws = record { past = λ b h. rw (le-ltb b capacity h) }

pub plus_within : (capacity : ℕ) (s : Plain) (bit : ℕ) → bit < capacity → Within capacity s → Within capacity (plus s bit)
plus_within capacity s bit l w = record { past = λ b h. rw (ne_eqb b bit (λ (e : b ≡ bit). omega arith)) (w.past b h) }

pub minus_within : (capacity : ℕ) (s : Plain) (bit : ℕ) → Within capacity s → Within capacity (minus s bit)
minus_within capacity s bit w = record { past = λ b h. rw (w.past b h) (and-false (not (eqb b bit))) }

pub union_within : (capacity : ℕ) (s t : Plain) → Within capacity s → Within capacity t → Within capacity (union s t)
union_within capacity s t w v = record { past = λ b h. rw (w.past b h) (v.past b h) }
