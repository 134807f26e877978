-- A block of an image: 64 words, of which the first is the block's number, the last its check, and those between are content.
use Rattle.std.specs.Prelude.{ℕ, zero, suc, ◌+◌, ◌-◌, ◌*◌, ◌/◌, ◌%◌, Bool, cond, ◌&&◌, List, [], ◌∷◌, ◌++◌, eqb}
use Rattle.std.specs.Int.Bits.{bit_xor}
use Rattle.laws.specs.Counting.{chain, each}
use Rattle.mixer.specs.Mixer.{mixed}
use Rattle.block.specs.Bytes.{word_bytes, word_at}

-- how many words a block is, how many of them are content, and how many bytes a block is
abbrev pub block_words : ℕ
block_words = 64

abbrev pub block_content : ℕ
block_content = 62

abbrev pub block_bytes : ℕ
block_bytes = word_bytes * block_words

-- the word of a block that holds its check; before it stand the words that the check is of
abbrev pub check_place : ℕ
check_place = 63

-- ---- the check

-- one word more: it is xored in, and the plain mixer applied with seed word 0
abbrev pub check_step : ℕ → ℕ → ℕ
check_step check word = mixed (bit_xor check word) 0

-- the check that some words lead to from another, and the check of some words, which starts at 0
unfoldable pub check_from : ℕ → List ℕ → ℕ
check_from check [] = check
check_from check (word ∷ words) = check_from (check_step check word) words

abbrev pub check_of : List ℕ → ℕ
check_of words = check_from 0 words

-- ---- where content stands, and the block of a content

-- content word c stands in block c / 62, in its word 1 + c % 62
abbrev pub content_place : ℕ → ℕ
content_place c = block_words * (c / block_content) + (1 + c % block_content)

-- how many blocks so many content words take
abbrev pub blocks_for : ℕ → ℕ
blocks_for n = (n + (block_content - 1)) / block_content

module _ (content : ℕ → ℕ) where
  -- the words of block b that its check is of: its number, and its part of a content
  abbrev pub checked_words : ℕ → List ℕ
  checked_words b = b ∷ each (λ k. content (block_content * b + k)) block_content

  -- block b, whole, and n blocks one after another
  abbrev pub block_of : ℕ → List ℕ
  block_of b = checked_words b ++ (check_of (checked_words b) ∷ [])

  unfoldable pub image_words : ℕ → List ℕ
  image_words n = chain block_of n

-- ---- the blocks that some bytes hold

module _ (bytes : List ℕ) where
  -- word w of block b
  abbrev pub block_word : ℕ → ℕ → ℕ
  block_word b w = word_at bytes (block_words * b + w)

  -- block b has its number and its check
  unfoldable pub is_good : ℕ → Bool
  is_good b = eqb (block_word b 0) b && eqb (block_word b check_place) (check_of (each (block_word b) check_place))

  -- the first of n blocks that is not good; n if all are
  unfoldable pub first_bad : ℕ → ℕ
  first_bad zero = 0
  first_bad (suc n) = cond (eqb (first_bad n) n && is_good n) (suc n) (first_bad n)

  -- content word c
  unfoldable pub content_at : ℕ → ℕ
  content_at c = word_at bytes (content_place c)
