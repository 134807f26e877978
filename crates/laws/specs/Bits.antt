-- Bits packed into 64-bit words: bit b is digit b mod 64 of word b / 64.
use Rattle.std.specs.Prelude.{ℕ, ◌+◌, ◌-◌, ◌*◌, ◌/◌, ◌%◌, ◌^◌, ◌<◌, Bool, cond, List, [], ◌∷◌, eqb, get_or, set}
use Rattle.laws.specs.Counting.{one, sum, chain}

-- digit k of w: 0 or 1
abbrev pub digit : ℕ → ℕ → ℕ
digit w k = w / 2 ^ k % 2

-- bit b of the words, 0 or 1; 0 past their end
unfoldable pub bit_at : List ℕ → ℕ → ℕ
bit_at ws b = digit (get_or ws (b / 64) 0) (b % 64)

-- whether bit b of the words is set
unfoldable pub has : List ℕ → ℕ → Bool
unfolding bit_at
has ws b = eqb (bit_at ws b) 1

-- the words that a number of bits takes: bits / 64, rounded up
abbrev pub words_for : ℕ → ℕ
words_for bits = (bits + 63) / 64

-- every number of a list is a word
abbrev pub Words : List ℕ → Type 0
Words ws = (i : ℕ) → get_or ws i 0 < 2 ^ 64

-- the words with bit b set, and with it clear
unfoldable pub with_bit : List ℕ → ℕ → List ℕ
with_bit ws b = cond (has ws b) ws (set ws (b / 64) (get_or ws (b / 64) 0 + 2 ^ (b % 64)))

unfoldable pub without_bit : List ℕ → ℕ → List ℕ
without_bit ws b = cond (has ws b) (set ws (b / 64) (get_or ws (b / 64) 0 - 2 ^ (b % 64))) ws

-- the number whose digit k is 1 where s k, for each k below n
abbrev pub number : (ℕ → Bool) → ℕ → ℕ
number s n = sum (λ k. one (s k) * 2 ^ k) n

-- word i of a plain set: digit k is 1 where 64 i + k is in it
abbrev pub word_of : (ℕ → Bool) → ℕ → ℕ
word_of s i = number (λ k. s (64 * i + k)) 64

-- n words that hold a plain set: bit b is set where s b
unfoldable pub packed : ℕ → (ℕ → Bool) → List ℕ
packed n s = chain (λ i. word_of s i ∷ []) n
