-- Words as bytes, lowest first: a word is eight of them.
use Rattle.std.specs.Prelude.{ℕ, ◌+◌, ◌*◌, ◌/◌, ◌%◌, ◌^◌, ◌<◌, List, [], ◌∷◌, ◌++◌, get_or}
use Rattle.laws.specs.Counting.{sum}

-- how many bytes a word is
abbrev pub word_bytes : ℕ
word_bytes = 8

-- byte k of a word
abbrev pub byte_of : ℕ → ℕ → ℕ
byte_of word k = word / 2 ^ (8 * k) % 2 ^ 8

-- the bytes of a word, and those of some words one after another
abbrev pub bytes_of : ℕ → List ℕ
bytes_of word =
    byte_of word 0 ∷ byte_of word 1 ∷ byte_of word 2 ∷ byte_of word 3 ∷ byte_of word 4 ∷ byte_of word 5 ∷ byte_of word 6 ∷ byte_of word 7 ∷ []

unfoldable pub all_bytes : List ℕ → List ℕ
all_bytes [] = []
all_bytes (word ∷ words) = bytes_of word ++ all_bytes words

-- word j of some bytes
unfoldable pub word_at : List ℕ → ℕ → ℕ
word_at bytes j = sum (λ k. get_or bytes (word_bytes * j + k) 0 * 2 ^ (8 * k)) word_bytes

-- every number of a list is a byte
abbrev pub Bytes : List ℕ → Type 0
Bytes bs = (i : ℕ) → get_or bs i 0 < 2 ^ 8
