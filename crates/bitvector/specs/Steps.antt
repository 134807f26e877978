-- The steps of the calls, in words that are there.
use Rattle.std.specs.Prelude.{ℕ, ◌+◌, ◌-◌, ◌*◌, ◌≡◌, Bool, not, cond, List, [], ◌∷◌, ◌++◌, eqb, drop}
use Rattle.std.specs.Int.Count.{ones}
use Rattle.std.proofs.lemmas.List.Edits.{sets}
use Rattle.laws.specs.Counting.{rank, chain}
use Rattle.laws.specs.Bits.{digit, has, packed}
use Rattle.bitvector.specs.Sets.{Plain, union, same_below, rising}

-- the numbers of a set below n, rising, each with `base` added
unfoldable pub counted_from : ℕ → Plain → ℕ → List ℕ
counted_from base s n = chain (λ k. cond (s k) ((base + k) ∷ []) []) n

-- the numbers of the set digits of a word, rising, the lowest digit's number being base
unfoldable pub numbers_in : ℕ → ℕ → List ℕ
numbers_in base w = counted_from base (λ k. eqb (digit w k) 1) 64

-- they stand in the store from `place` on, and the place after them is told
pub record WordListed (base w place : ℕ) (out : List ℕ) (next : ℕ) (after : List ℕ) : Type 0 where
  pub told : next ≡ place + ones w
  pub store : after ≡ sets out place (numbers_in base w)

-- the bits of the first n words, the first bit's number being base, stand in the store from `place` on, and the place after them is told
pub record PartListed (ws : List ℕ) (n base place : ℕ) (out : List ℕ) (next : ℕ) (after : List ℕ) : Type 0 where
  pub told : next ≡ place + rank (has ws) (64 * n)
  pub store : after ≡ sets out place (counted_from base (has ws) (64 * n))

-- the numbers of a set from a on and before a + n, rising
unfoldable pub stretch : Plain → ℕ → ℕ → List ℕ
stretch s a n = chain (λ k. cond (s (a + k)) ((a + k) ∷ []) []) n

-- the bits of the words from i on and before j stand in the store from `place` on, and the place after them is told
pub record Listed (ws : List ℕ) (i j place : ℕ) (out : List ℕ) (next : ℕ) (after : List ℕ) : Type 0 where
  pub told : next + rank (has ws) (64 * i) ≡ place + rank (has ws) (64 * j)
  pub store : after ≡ sets out place (stretch (has ws) (64 * i) (64 * (j - i)))

-- the bits of the first n words stand at the front of the store, and the place after them is told
pub record Front (ws out : List ℕ) (n next : ℕ) (after : List ℕ) : Type 0 where
  pub told : next ≡ rank (has ws) (64 * n)
  pub store : after ≡ sets out 0 (rising (has ws) (64 * n))

-- the bits of two lists of words
abbrev pub either_bits : List ℕ → List ℕ → Plain
either_bits ws us = union (has ws) (has us)

-- they are in the first n words; whether one was new is told
pub record Joined (n : ℕ) (ws us : List ℕ) (told : Bool) (after : List ℕ) : Type 0 where
  pub new : told ≡ not (same_below (has ws) (either_bits ws us) (64 * n))
  pub words : after ≡ packed n (either_bits ws us) ++ drop n ws
