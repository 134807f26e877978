-- Both sides of each line that a bound, a size or a position draws, each under its words: one table of tests, which antt computes. Assumes nothing.
use Prim.Native.Nat.{ℕ, ◌-◌, ◌^◌}
use mathlib.Core.Bool.{Bool, ◌&&◌, ◌||◌}
use mathlib.Core.List.{List, [], ◌∷◌}
use lib.Dec.{T, eqb}
use lib.Ieee.{Float, binary64, of_bits, lt}
use Rattle.laws.specs.Bits.{bit_at, has, packed, words_for}
use Rattle.laws.specs.Tables.{all, equal}
use Rattle.mixer.specs.Kinds.{kind_of}
use Rattle.mixer.specs.declared.Kind.TheVariants.{Plain}
use Rattle.mixer.specs.Mixer.{mixed, seed_word, hashed}
use Rattle.mixer.specs.Position.{folded, scaled}
use Rattle.ranks.specs.Ranks.{first_samples, samples_of, ones_from}
use Rattle.rule.specs.Rule.{remaining, run_from}
use Rattle.sizes.specs.Sizes.{rounded, whole_of, size_for, samples_for}
use Rattle.run.specs.Stores.{stores}
use Rattle.build.specs.Build.{build_checks, build_call}
use Rattle.laws.specs.Stores.{zeros}
use Rattle.finding.specs.Find.{Answer, found, nothing, refused, row_answer}
use Rattle.demands.specs.Inputs.{one_and_half, two}

-- the refusal number of a build of no ids at the gamma with these bits, where 0 is none
abbrev gamma_gives : ℕ → ℕ → Bool
gamma_gives bits number = eqb (build_call 0 (of_bits binary64 bits) [] (stores (zeros 4) (zeros 1) (zeros 4) [])).refusal number

-- so many bits take so many words and samples
abbrev takes : ℕ → ℕ → ℕ → Bool
takes bits words samples = eqb (words_for bits) words && eqb (samples_for (words_for bits)) samples

-- for gamma and so many ids a level has so many bits, words and samples
abbrev level : Float → ℕ → ℕ → ℕ → ℕ → Bool
level gamma ids bits words samples = eqb (size_for gamma ids) bits && takes bits words samples

-- the words of a level of 255 bits of which 3, 64 and 200 are set
abbrev words : List ℕ
words = packed (words_for 255) (λ p. eqb p 3 || eqb p 64 || eqb p 200)

-- the row, level and position of an answer
abbrev shown : Answer → List ℕ
shown (found p) = p.row ∷ p.level ∷ p.position ∷ []
shown nothing = []
shown (refused number value) = []

-- the bit at p is set, and its row is r
abbrev row : ℕ → ℕ → Bool
row p r = has words p && equal (shown (row_answer 3 words (samples_of 0 words) 0 p)) (r ∷ 0 ∷ p ∷ [])

rows : T (all
    -- gamma with bits 0x3FF028F5C28F5C29 (1.01) is refused with 1; ...2A is not
    (gamma_gives 0x3FF0_28F5_C28F_5C29 1
    ∷ gamma_gives 0x3FF0_28F5_C28F_5C2A 0
    -- gamma 2.0 and 1,000 ids: 2,000 bits, 32 words, 4 samples
    ∷ level two 1_000 2_000 32 4
    -- 1.5 and 0, 1 or 170 ids: 255 bits, 4 words, 1 sample
    ∷ level one_and_half 0 255 4 1
    ∷ level one_and_half 1 255 4 1
    ∷ level one_and_half 170 255 4 1
    -- 1.5 and 171: 256
    ∷ eqb (size_for one_and_half 171) 256
    -- 512 bits: 8 words, 1 sample
    ∷ takes 512 8 1
    -- 513 bits: 9 words, 2 samples
    ∷ takes 513 9 2
    -- fold of 2^64 - 1 is 0
    ∷ eqb (folded (2 ^ 64 - 1)) 0
    -- of 0x1234567800000000 is 0x12345678
    ∷ eqb (folded 0x1234_5678_0000_0000) 0x1234_5678
    -- positions in 255 bits: fold 0 gives 0, 0x80000000 gives 127, 0xFFFFFFFF gives 254
    ∷ eqb (scaled 0 255) 0
    ∷ eqb (scaled 0x8000_0000 255) 127
    ∷ eqb (scaled 0xFFFF_FFFF 255) 254
    -- the mixer of id 3 at level 0 equals that of id 0 at level 1
    ∷ eqb (hashed Plain 0 3) (hashed Plain 1 0)
    -- level 31 has seed word 2^62, level 32 has 1 again, and level 33 has 4
    ∷ eqb (seed_word 31) (2 ^ 62)
    ∷ eqb (seed_word 32) 1
    ∷ eqb (seed_word 33) 4
    -- id 0 at level 32 equals id 0 at level 0
    ∷ eqb (hashed Plain 32 0) (hashed Plain 0 0)
    -- bits 3, 64, 200 in one level have rows 0, 1, 2
    ∷ row 3 0
    ∷ row 64 1
    ∷ row 200 2
    ∷ []))
unfolding kind_of build_call build_checks lt of_bits size_for whole_of rounded run_from remaining mixed row_answer ones_from first_samples packed has bit_at
rows = tt
