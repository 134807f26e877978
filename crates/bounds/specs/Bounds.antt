-- The bounds of an index, and how far apart its samples stand, for definitions and promises: `src/lib.rt` has the same for the code.
use Rattle.std.specs.Prelude.{ℕ, ◌*◌}

-- the most ids
abbrev pub max_ids : ℕ
max_ids = 1_048_576

-- the most bits of a level or a set, and the fewest of a level
abbrev pub max_bits : ℕ
max_bits = 16_777_216

abbrev pub min_bits : ℕ
min_bits = 255

-- how many levels a build may come to: 0 to 99
abbrev pub level_limit : ℕ
level_limit = 100

-- how many sizes a head has
abbrev pub head_sizes : ℕ
head_sizes = 100

-- the most levels that a head may name
abbrev pub max_levels : ℕ
max_levels = 100

-- there is a sample for every so many words of a level, and so for every so many bits
abbrev pub sample_words : ℕ
sample_words = 8

abbrev pub sample_bits : ℕ
sample_bits = 64 * sample_words
