-- How the levels of an index lie in its stores, by their sizes: one after another, each starting on a word; samples likewise. And what refusal 7 asks.
use Rattle.std.specs.Prelude.{ℕ, Bool, not, ◌&&◌, List, eqb, leb, get_or, take, drop}
use Rattle.bounds.specs.Bounds.{max_ids, max_bits, min_bits, head_sizes, max_levels}
use Rattle.laws.specs.Counting.{rank, is_clear}
use Rattle.laws.specs.Bits.{words_for}
use Rattle.rule.specs.Rule.{start}
use Rattle.sizes.specs.Sizes.{samples_for}
use Rattle.head.specs.declared.Head.{Head}
use Rattle.head.specs.declared.Used.{Used}

-- the samples that a level of a given size takes
abbrev pub samples_of_size : ℕ → ℕ
samples_of_size size = samples_for (words_for size)

-- the size of each level, by a head's list of sizes; 0 past the list
abbrev pub size_at : List ℕ → ℕ → ℕ
size_at sizes i = get_or sizes i 0

-- where level i starts in the word store, and where in the sample store
abbrev pub word_start : (ℕ → ℕ) → ℕ → ℕ
word_start span i = start words_for span i

abbrev pub sample_start : (ℕ → ℕ) → ℕ → ℕ
sample_start span i = start samples_of_size span i

-- the words of level i, and its samples: its part of the store
abbrev pub level_words : (ℕ → ℕ) → List ℕ → ℕ → List ℕ
level_words span ws i = take (words_for (span i)) (drop (word_start span i) ws)

abbrev pub level_samples : (ℕ → ℕ) → List ℕ → ℕ → List ℕ
level_samples span ss i = take (samples_of_size (span i)) (drop (sample_start span i) ss)

-- a size that a level can have
abbrev pub size_fits : ℕ → Bool
size_fits size = leb min_bits size && leb size max_bits

-- Whether the numbers of a head keep their bounds: at least one level and no more than a head may name, each used size within its bounds, the id count within its bound.
unfoldable pub bounded : ℕ → ℕ → List ℕ → Bool
bounded count levels sizes =
    leb 1 levels
    && leb levels max_levels
    && eqb (rank (λ i. not (size_fits (size_at sizes i))) levels) 0
    && leb count max_ids

-- how many words and samples the levels of a head use
abbrev pub used_of : ℕ → List ℕ → Used
used_of levels sizes = record { words = word_start (size_at sizes) levels; samples = sample_start (size_at sizes) levels }

abbrev pub used_by : Head → Used
used_by head = used_of head.levels head.sizes

abbrev pub used_words : Head → ℕ
used_words head = (used_by head).words

abbrev pub used_samples : Head → ℕ
used_samples head = (used_by head).samples

-- whether each size past the levels of a head is 0
abbrev pub unused_clear : ℕ → List ℕ → Bool
unused_clear levels sizes = is_clear (size_at sizes) levels head_sizes

-- Whether a head keeps its bounds and fits stores of so many words and samples: they are as long as the sizes ask. Refusal 7 is given where it does not.
unfoldable pub fit : ℕ → ℕ → List ℕ → ℕ → ℕ → Bool
fit count levels sizes word_room sample_room =
    bounded count levels sizes && leb (used_of levels sizes).words word_room && leb (used_of levels sizes).samples sample_room
