-- Plain sets of numbers and the acts on them, which the calls perform on words; and how words hold a plain set.
use Rattle.std.specs.Prelude.{ℕ, Bool, false, not, cond, ◌||◌, ◌&&◌, List, [], ◌∷◌, ◌++◌, eqb, ltb, drop}
use Rattle.std.specs.Bool.{beq}
use Rattle.laws.specs.Counting.{rank, chain}
use Rattle.laws.specs.Bits.{has, words_for, packed}

-- a set of numbers: whether each is in it
abbrev pub Plain : Type 0
Plain = ℕ → Bool

-- no number; every number below n
abbrev pub empty_set : Plain
empty_set = λ b. false

abbrev pub all_below : ℕ → Plain
all_below n = λ b. ltb b n

-- a set with the number b, and without it
abbrev pub plus : Plain → ℕ → Plain
plus s b = λ j. eqb j b || s j

abbrev pub minus : Plain → ℕ → Plain
minus s b = λ j. not (eqb j b) && s j

-- the numbers of either set
abbrev pub union : Plain → Plain → Plain
union s t = λ j. s j || t j

-- whether two sets have the same numbers below n: none is in one of them only
abbrev pub same_below : Plain → Plain → ℕ → Bool
same_below s t n = eqb (rank (λ b. not (beq (s b) (t b))) n) 0

-- the numbers of a set below n, rising (how many they are is `rank s n`)
abbrev pub rising : Plain → ℕ → List ℕ
rising s n = chain (λ b. cond (s b) (b ∷ []) []) n

-- the set that words hold: the bits below the capacity that are set
abbrev pub set_of : ℕ → List ℕ → Plain
set_of capacity ws = λ b. ltb b capacity && has ws b

-- the words with a set in place of the one that they held: those that the capacity needs hold it, and the others are as they were
unfoldable pub stored : ℕ → Plain → List ℕ → List ℕ
stored capacity s ws = packed (words_for capacity) s ++ drop (words_for capacity) ws
