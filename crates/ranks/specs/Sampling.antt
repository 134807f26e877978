-- What sampling a level tells and leaves.
use Rattle.std.specs.Prelude.{◌≡◌, List, ◌++◌, ℕ, ◌+◌, length, drop}
use Rattle.sizes.specs.Sizes.{samples_for}
use Rattle.ranks.specs.Ranks.{set_bits, samples_of}

-- a store with the samples of a level at its front, and the others as they were
abbrev pub with_samples : ℕ → List ℕ → List ℕ → List ℕ
with_samples before ws store = samples_of before ws ++ drop (samples_for (length ws)) store

-- Sampling a level: the store holds its samples, and the answer is the number of set bits in all levels up to and with this one.
pub record Sampled (before : ℕ) (ws store : List ℕ) (answer : ℕ) (after : List ℕ) : Type 0 where
  pub store_is : after ≡ with_samples before ws store
  pub answer_is : answer ≡ before + set_bits ws
