-- The index of a list of ids by the level rule, as its head and its stores hold it.
use Rattle.std.specs.Prelude.{ℕ, List, [], ◌∷◌, Float, length}
use Rattle.bounds.specs.Bounds.{head_sizes}
use Rattle.laws.specs.Counting.{chain}
use Rattle.laws.specs.Bits.{words_for, packed}
use Rattle.laws.specs.Stores.{zeros, filled}
use Rattle.mixer.specs.Kinds.{kind_number}
use Rattle.mixer.specs.Position.{position}
use Rattle.mixer.specs.declared.Kind.{Kind}
use Rattle.ranks.specs.Ranks.{samples_of}
use Rattle.rule.specs.Rule.{Rule, Room, span, bit, base}
use Rattle.sizes.specs.Sizes.{size_for}
use Rattle.head.specs.Layout.{samples_of_size}
use Rattle.head.specs.declared.Head.{Head}

-- the rule of positions of an index of a kind: builds and lookups take it from here
abbrev pub positions : Kind → (level size id : ℕ) → ℕ
positions = position

-- the rule of levels: the positions of a kind, and the sizes of gamma
abbrev pub rule_of : Kind → Float → Rule
rule_of kind gamma = record { pos = positions kind; size = size_for gamma }

-- the room that stores of so many words and samples have
abbrev pub room_of : ℕ → ℕ → Room
room_of word_room sample_room = record { words = words_for; samples = samples_of_size; word_room = word_room; sample_room = sample_room }

module _ (rule : Rule) (ids : List ℕ) where
  -- the words of level i: its bits, packed
  abbrev pub words_at : ℕ → List ℕ
  words_at i = packed (words_for (span rule ids i)) (bit rule ids i)

  -- its samples, from its words and the number of bits set in all earlier levels
  abbrev pub samples_at : ℕ → List ℕ
  samples_at i = samples_of (base (span rule ids) (bit rule ids) i) (words_at i)

  -- the words, the samples and the sizes of the first n levels, one level after another
  unfoldable pub index_words : ℕ → List ℕ
  index_words n = chain words_at n

  unfoldable pub index_samples : ℕ → List ℕ
  index_samples n = chain samples_at n

  unfoldable pub index_sizes : ℕ → List ℕ
  index_sizes n = chain (λ i. span rule ids i ∷ []) n

  -- the head of an index of a kind and of n levels: unused sizes are 0
  abbrev pub index_head : Kind → ℕ → Head
  index_head kind n = record { kind = kind_number kind; count = length ids; levels = n; sizes = filled (index_sizes n) head_sizes }

-- the head beside a refusal: all 0
abbrev pub no_head : Head
no_head = record { kind = 0; count = 0; levels = 0; sizes = zeros head_sizes }
