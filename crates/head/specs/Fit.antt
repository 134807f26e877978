-- What a head that keeps its bounds is, part by part, and one that fits its stores too; and what measuring a head finds.
use Rattle.std.specs.Prelude.{Bool, ◌&&◌, leb, cond, List, ℕ, ◌≤◌, ◌<◌, Option, None, Some}
use Rattle.bounds.specs.Bounds.{max_ids, max_bits, min_bits, max_levels}
use Rattle.head.specs.Layout.{size_at, word_start, sample_start, bounded, used_of}
use Rattle.head.specs.declared.Used.{Used}

pub record Bounded (count levels : ℕ) (sizes : List ℕ) : Type 0 where
  pub some_level : 1 ≤ levels
  pub few_levels : levels ≤ max_levels
  pub size_least : (i : ℕ) → i < levels → min_bits ≤ size_at sizes i
  pub size_most : (i : ℕ) → i < levels → size_at sizes i ≤ max_bits
  pub few_ids : count ≤ max_ids

pub record Fit (count levels : ℕ) (sizes : List ℕ) (for_words for_samples : ℕ) : Type 0 where
  pub bounds : Bounded count levels sizes
  pub word_room : word_start (size_at sizes) levels ≤ for_words
  pub sample_room : sample_start (size_at sizes) levels ≤ for_samples

-- what the levels use, if the numbers of a head keep their bounds
unfoldable pub measured : ℕ → ℕ → List ℕ → Option Used
measured count levels sizes = cond (bounded count levels sizes) (Some (used_of levels sizes)) None

-- whether stores of so many words and samples have room for what the levels use
abbrev pub used_fits : Used → ℕ → ℕ → Bool
used_fits used word_room sample_room = leb used.words word_room && leb used.samples sample_room
