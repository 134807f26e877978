-- One level of a build, on stores in which the levels before it lie: what it asks and what it leaves, by the stores alone.
use Rattle.std.specs.Prelude.{◌≡◌, Bool, cond, ◌&&◌, List, ℕ, ◌+◌, ◌-◌, ◌≤◌, ◌<◌, leb, Float, length, take, drop, Option, None, Some}
use Rattle.bounds.specs.Bounds.{max_ids, max_bits, level_limit}
use Rattle.laws.specs.Bits.{words_for, packed}
use Rattle.laws.specs.Stores.{fronted, zeros, pasted}
use Rattle.ranks.specs.Ranks.{set_bits, samples_of}
use Rattle.rule.specs.Rule.{Rule, single, rest}
use Rattle.sizes.specs.Gamma.{Allowed}
use Rattle.sizes.specs.Sizes.{size_for, samples_for}
use Rattle.head.specs.Layout.{samples_of_size}
use Rattle.run.specs.Stores.{Stores, stores}
use Rattle.run.specs.declared.Progress.{Progress}
use Rattle.run.specs.declared.Placed.{Placed}

-- ---- the ids of a level, placed in its words

-- the words from the level's place on, and the collide store, are there and are 0
pub record Placeable (size : ℕ) (at : Progress) (s : Stores) : Type 0 where
  pub in_store : at.remaining ≤ length s.rest
  pub in_words : at.words + words_for size ≤ length s.words
  pub in_collide : words_for size ≤ length s.collide
  pub clear_words : drop at.words s.words ≡ zeros (length s.words - at.words)
  pub clear_collide : s.collide ≡ zeros (length s.collide)

-- by the positions g of its ids, what placing them tells and leaves
pub record PlacedAt (g : ℕ → ℕ) (size : ℕ) (at : Progress) (s : Stores) (told : ℕ) (s' : Stores) : Type 0 where
  pub words_are : s'.words ≡ pasted at.words (packed (words_for size) (single g (take at.remaining s.rest))) s.words
  pub samples_are : s'.samples ≡ s.samples
  pub collide_is : s'.collide ≡ s.collide
  pub store_is : s'.rest ≡ fronted (rest g (take at.remaining s.rest)) s.rest
  pub count_is : told ≡ length (rest g (take at.remaining s.rest))

-- ---- the samples of a level

-- its n words
abbrev pub placed_words : ℕ → Progress → Stores → List ℕ
placed_words n at s = take n (drop at.words s.words)

-- the level's words and its samples' places are there
pub record Sampleable (n : ℕ) (at : Progress) (s : Stores) : Type 0 where
  pub in_words : at.words + n ≤ length s.words
  pub few_words : n ≤ words_for max_bits
  pub few_set : at.set ≤ max_ids
  pub in_samples : at.samples + samples_for n ≤ length s.samples

-- what sampling them tells and leaves
pub record SampledAt (n : ℕ) (at : Progress) (s : Stores) (told : ℕ) (s' : Stores) : Type 0 where
  pub words_are : s'.words ≡ s.words
  pub samples_are : s'.samples ≡ pasted at.samples (samples_of at.set (placed_words n at s)) s.samples
  pub collide_is : s'.collide ≡ s.collide
  pub store_is : s'.rest ≡ s.rest
  pub set_is : told ≡ at.set + set_bits (placed_words n at s)

-- ---- the whole level

-- the size of the next level
abbrev pub next_size : Rule → Progress → ℕ
next_size rule at = rule.size at.remaining

-- What the next level asks, where gamma gives the sizes.
pub record TurnRoom (gamma : Float) (at : Progress) (s : Stores) : Type 0 where
  pub allowed : Allowed gamma
  pub few_ids : at.remaining ≤ max_ids
  pub few_levels : at.level < level_limit
  pub few_set : at.set ≤ max_ids
  pub in_rest : at.remaining ≤ length s.rest
  pub in_words : at.words ≤ length s.words
  pub in_samples : at.samples ≤ length s.samples
  pub in_collide : words_for (size_for gamma at.remaining) ≤ length s.collide
  pub clear_words : drop at.words s.words ≡ zeros (length s.words - at.words)
  pub clear_collide : s.collide ≡ zeros (length s.collide)

-- what a level tells, and the stores that it leaves
pub record Turned : Type 0 where
  pub turn : Option Placed
  pub stores : Stores

abbrev pub turned : Option Placed → Stores → Turned
turned turn s = record { turn = turn; stores = s }

module _ (rule : Rule) (at : Progress) (s : Stores) where
  -- whether there is room for the level
  abbrev pub has_room : Bool
  has_room = leb (at.words + words_for (next_size rule at)) (length s.words) && leb (at.samples + samples_of_size (next_size rule at)) (length s.samples)

  -- the ids that come to it, each one's position, and the level's words
  abbrev pub comers : List ℕ
  comers = take at.remaining s.rest

  abbrev pub spot : ℕ → ℕ
  spot x = rule.pos at.level (next_size rule at) x

  abbrev pub own_words : List ℕ
  own_words = packed (words_for (next_size rule at)) (single spot comers)

  -- how far the build has come after the level
  abbrev pub next_progress : Progress
  next_progress = record {
    level = at.level + 1;
    remaining = length (rest spot comers);
    words = at.words + words_for (next_size rule at);
    samples = at.samples + samples_of_size (next_size rule at);
    set = at.set + set_bits own_words;
  }

  abbrev pub next_placed : Placed
  next_placed = record { size = next_size rule at; next = next_progress }

  -- the level stands after the others, its samples likewise; collide is as it was; the ids that go on stand at the front of the rest store
  abbrev pub next_stores : Stores
  next_stores =
      stores
      (pasted at.words own_words s.words)
      (pasted at.samples (samples_of at.set own_words) s.samples)
      s.collide
      (fronted (rest spot comers) s.rest)

  -- The level is placed, if there is room for it.
  unfoldable pub level_turn : Turned
  level_turn = cond has_room (turned (Some next_placed) next_stores) (turned None s)
