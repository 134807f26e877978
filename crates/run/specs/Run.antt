-- The run of levels in the stores of a build: what it asks, and how it ends by the level rule.
use Rattle.std.specs.Prelude.{◌≡◌, List, ℕ, ◌≤◌, Float, length, Result, Ok, Err}
use Rattle.bounds.specs.Bounds.{max_ids, level_limit, head_sizes}
use Rattle.laws.specs.Bits.{words_for}
use Rattle.laws.specs.Stores.{zeros, filled}
use Rattle.refusal.specs.declared.Refusal.{Refusal}
use Rattle.refusal.specs.declared.Refusal.TheVariants.{NoRoomForLevel, IdsRemain}
use Rattle.rule.specs.Rule.{Rule, RunEnd, built, no_room, ids_left, run}
use Rattle.sizes.specs.Gamma.{Allowed}
use Rattle.sizes.specs.Sizes.{size_for}
use Rattle.head.specs.Index.{room_of, index_words, index_samples, index_sizes}
use Rattle.run.specs.Stores.{Stores}

-- the answer for each end that the level rule gives a run
abbrev pub answer_of : RunEnd → Result ℕ Refusal
answer_of (built n) = Ok n
answer_of (no_room i) = Err (NoRoomForLevel i)
answer_of (ids_left n) = Err (IdsRemain n)

-- What a run asks: the checks of a build were passed, and all but the rest store, which has the ids at its front, is 0.
pub record Begun (gamma : Float) (count : ℕ) (sizes : List ℕ) (s : Stores) : Type 0 where
  pub allowed : Allowed gamma
  pub few_ids : count ≤ max_ids
  pub in_rest : count ≤ length s.rest
  pub in_collide : words_for (size_for gamma count) ≤ length s.collide
  pub no_sizes : sizes ≡ zeros head_sizes
  pub clear_words : s.words ≡ zeros (length s.words)
  pub clear_samples : s.samples ≡ zeros (length s.samples)
  pub clear_collide : s.collide ≡ zeros (length s.collide)

-- How it ends, by a rule of positions and sizes: as the level rule does; collide is 0; and where it is built, sizes, words and samples are those of the index, with 0 past them.
pub record Ran (rule : Rule) (ids : List ℕ) (s : Stores) (end : Result ℕ Refusal) (sizes' : List ℕ) (s' : Stores) : Type 0 where
  pub outcome : end ≡ answer_of (run rule (room_of (length s.words) (length s.samples)) ids level_limit)
  pub collide_is : s'.collide ≡ zeros (length s.collide)
  pub sizes_are : (n : ℕ) → end ≡ Ok n → sizes' ≡ filled (index_sizes rule ids n) head_sizes
  pub words_are : (n : ℕ) → end ≡ Ok n → s'.words ≡ filled (index_words rule ids n) (length s.words)
  pub samples_are : (n : ℕ) → end ≡ Ok n → s'.samples ≡ filled (index_samples rule ids n) (length s.samples)
