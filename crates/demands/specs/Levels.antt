-- The levels of an index: their balance and their sizes, and their samples, which come from their words alone.
use Rattle.std.specs.Prelude.{◌≡◌, List, ℕ, suc, ◌+◌, ◌≤◌, ◌<◌, Float, length}
use Rattle.laws.specs.Counting.{sum, chain}
use Rattle.laws.specs.Stores.{filled}
use Rattle.mixer.specs.declared.Kind.{Kind}
use Rattle.head.specs.Index.{rule_of}
use Rattle.head.specs.Layout.{size_at, level_words, level_samples}
use Rattle.head.specs.declared.Head.{Head}
use Rattle.ranks.specs.Ranks.{set_bits, samples_of}
use Rattle.rule.specs.Rule.{remaining, span, bit, ones}

-- ---- the levels

-- Each level by the rule of an index, with the positions of a kind and the sizes of gamma, whatever the kind, gamma and the ids are.
pub record EachLevel (kind : Kind) (gamma : Float) (ids : List ℕ) : Type 0 where
  -- the bits set in level i and the ids going on are as many as the ids that came in
  pub balance : (i : ℕ)
      → ones (span (rule_of kind gamma) ids) (bit (rule_of kind gamma) ids) i + length (remaining (rule_of kind gamma) ids (suc i)) ≡ length (remaining (rule_of kind gamma) ids i)
  -- sizes never rise
  pub no_rise : (i j : ℕ) → i ≤ j → span (rule_of kind gamma) ids j ≤ span (rule_of kind gamma) ids i

-- The same of the levels that a build left: the ones in the words of level i, and the sizes in the head.
pub record EachLevelLeft (kind : Kind) (gamma : Float) (ids : List ℕ) (head : Head) (words : List ℕ) : Type 0 where
  pub balance : (i : ℕ) → i < head.levels
      → set_bits (level_words (size_at head.sizes) words i) + length (remaining (rule_of kind gamma) ids (suc i)) ≡ length (remaining (rule_of kind gamma) ids i)
  pub no_rise : (i j : ℕ) → i ≤ j → j < head.levels → size_at head.sizes j ≤ size_at head.sizes i

-- ---- samples come from the level words alone

module _ (head : Head) (words : List ℕ) where
  -- the set bits in the words of all levels before level i
  abbrev pub set_before : ℕ → ℕ
  set_before i = sum (λ j. set_bits (level_words (size_at head.sizes) words j)) i

  -- the samples of level i
  abbrev pub samples_by : ℕ → List ℕ
  samples_by i = samples_of (set_before i) (level_words (size_at head.sizes) words i)

-- Each level's part of the sample store, and the whole store, as the head and the words alone give them.
pub record FromWords (head : Head) (words samples : List ℕ) : Type 0 where
  pub level : (i : ℕ) → i < head.levels → level_samples (size_at head.sizes) samples i ≡ samples_by head words i
  pub store : samples ≡ filled (chain (samples_by head words) head.levels) (length samples)
