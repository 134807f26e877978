-- The set bits of a level's words: how many there are, the samples of them, and how many there are from a sample up to a position.
use Rattle.std.specs.Prelude.{List, [], ◌∷◌, ℕ, ◌+◌, ◌*◌, ◌/◌, ◌%◌, length}
use Rattle.bounds.specs.Bounds.{sample_bits}
use Rattle.laws.specs.Counting.{rank, chain}
use Rattle.laws.specs.Bits.{has}
use Rattle.sizes.specs.Sizes.{samples_for}

-- how many bits of the words are set
unfoldable pub set_bits : List ℕ → ℕ
set_bits ws = rank (has ws) (64 * length ws)

-- The first n samples of a level with these words, where so many bits are set in all earlier levels: sample j is that number and the set bits in this
-- level's words before the first that it stands for.
unfoldable pub first_samples : ℕ → List ℕ → ℕ → List ℕ
first_samples before ws n = chain (λ j. (before + rank (has ws) (sample_bits * j)) ∷ []) n

-- all its samples
abbrev pub samples_of : ℕ → List ℕ → List ℕ
samples_of before ws = first_samples before ws (samples_for (length ws))

-- the set bits from the first bit that a position's sample stands for, up to the position
unfoldable pub ones_from : List ℕ → ℕ → ℕ
ones_from ws p = rank (λ k. has ws (sample_bits * (p / sample_bits) + k)) (p % sample_bits)
