-- The rule at small sizes: one table of tests, which antt computes. Assumes nothing.
use mathlib.Core.Path.{◌≡◌, refl}
use Prim.Native.Nat.{ℕ, ◌+◌, ◌/◌, ◌%◌, ◌^◌}
use mathlib.Core.Bool.{Bool, not, ◌||◌}
use mathlib.Core.List.{List, [], ◌∷◌}
use mathlib.Core.Option.{Option, none, some}
use native.Mathlib.Nat.{mod-lt}
use native.Mathlib.Omega.{arith}
use lib.Dec.{T, eqb, ltb, lit<}
use Rattle.laws.specs.Tables.{all, equal}
use Rattle.rule.specs.Rule.{Rule, remaining, span, bit, Room, RunEnd, built, no_room, ids_left, run_from, run, row_at, sample, RowPlace, first, find, row_list}
use Rattle.rule.specs.Demand.{Sound, Perfect}
use Rattle.rule.proofs.Demand.{demand3}

-- two outcomes and two lookups are the same
abbrev told : RunEnd → List ℕ
told (built n) = 0 ∷ n ∷ []
told (no_room i) = 1 ∷ i ∷ []
told (ids_left n) = 2 ∷ n ∷ []

abbrev ends : RunEnd → RunEnd → Bool
ends a b = equal (told a) (told b)

abbrev shown : Option RowPlace → List ℕ
shown none = []
shown (some u) = u.row ∷ u.level ∷ u.position ∷ []

-- The position in level i is decimal digit i of the id, modulo the size; r ids have r + 7 bits. A level takes a word for each bit, and one sample.
abbrev digits : Rule
digits = record { pos = λ i s x. x / 10 ^ i % s; size = λ r. r + 7 }

abbrev room : ℕ → ℕ → Room
room words samples = record { words = λ s. s; samples = λ s. 1; word_room = words; sample_room = samples }

-- three ids, of which two share their last digit; an id given twice; three ids that share their last digit
abbrev three : List ℕ
three = 11 ∷ 32 ∷ 21 ∷ []

abbrev twice : List ℕ
twice = 11 ∷ 32 ∷ 11 ∷ []

abbrev shared : List ℕ
shared = 11 ∷ 21 ∷ 31 ∷ []

-- levels of 640 bits, in each of them the bits 3, 64 and 200, or the first 576
abbrev wide : ℕ → ℕ
wide i = 640

abbrev few : ℕ → ℕ → Bool
few i p = eqb p 3 || eqb p 64 || eqb p 200

abbrev many : ℕ → ℕ → Bool
many i p = ltb p 576

rows : T (all
    -- three ids: 11 and 21 go on, in their order, to a smaller level; the run is built with two levels, where there is room for them
    (equal (remaining digits three 1) (11 ∷ 21 ∷ [])
    ∷ equal (remaining digits three 2) []
    ∷ equal (span digits three 0 ∷ span digits three 1 ∷ []) (10 ∷ 9 ∷ [])
    ∷ not (bit digits three 0 1)
    ∷ bit digits three 0 2
    ∷ bit digits three 1 1
    ∷ ends (run digits (room 19 2) three 4) (built 2)
    ∷ ends (run digits (room 19 2) three 2) (built 2)
    ∷ ends (run digits (room 18 2) three 4) (no_room 1)
    ∷ ends (run digits (room 19 1) three 4) (no_room 1)
    ∷ ends (run digits (room 9 2) three 4) (no_room 0)
    ∷ ends (run digits (room 19 2) three 1) (ids_left 2)
    -- their rows go on from level to level; a foreign id has no row, or the row of another
    ∷ equal (shown (find digits three 2 32)) (0 ∷ 0 ∷ 2 ∷ [])
    ∷ equal (shown (find digits three 2 11)) (1 ∷ 1 ∷ 1 ∷ [])
    ∷ equal (shown (find digits three 2 21)) (2 ∷ 1 ∷ 2 ∷ [])
    ∷ equal (shown (find digits three 2 45)) []
    ∷ equal (shown (find digits three 2 92)) (0 ∷ 0 ∷ 2 ∷ [])
    ∷ equal (row_list digits three 2) (32 ∷ 11 ∷ 21 ∷ [])
    -- a bit that three ids share stays clear
    ∷ not (bit digits shared 0 1)
    ∷ equal (remaining digits shared 1) shared
    -- an id given twice is left to the end
    ∷ ends (run digits (room 100 10) twice 3) (ids_left 2)
    -- no ids: one level, and no row
    ∷ ends (run digits (room 7 1) [] 4) (built 1)
    ∷ ends (run digits (room 6 1) [] 4) (no_room 0)
    ∷ equal (shown (find digits [] 1 5)) []
    -- rows and samples of given bits
    ∷ equal (row_at wide few 1 3 ∷ row_at wide few 1 64 ∷ row_at wide few 1 200 ∷ []) (3 ∷ 4 ∷ 5 ∷ [])
    ∷ equal (sample wide many 0 0 ∷ sample wide many 0 1 ∷ sample wide many 1 1 ∷ []) (0 ∷ 512 ∷ 1088 ∷ [])
    ∷ equal (row_at wide many 0 512 ∷ row_at wide many 0 513 ∷ []) (512 ∷ 513 ∷ [])
    ∷ []))
unfolding remaining first run_from
rows = tt

-- the rule is sound, so demand 3 holds of its runs
sound : Sound digits
sound = record { within = λ i s x h. mod-lt (x / 10 ^ i) h; positive = λ n. omega arith }

three_built_lem : run digits (room 19 2) three 100 ≡ built 2
unfolding remaining run_from
three_built_lem = refl

three_perfect : Perfect digits three 2
three_perfect = (demand3 digits (room 19 2) three sound 100 (lit< tt)).perfect 2 three_built_lem
