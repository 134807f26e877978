-- Worked examples of the last check and the row list, where 10 to 19 have the rows 0 to 9 and 20 shares the row of 12: one table of tests, which antt
-- computes. Assumes nothing.
use Prim.Native.Nat.{ℕ, ◌-◌}
use mathlib.Core.Bool.{Bool, cond, ◌&&◌}
use mathlib.Core.List.{List, [], ◌∷◌}
use mathlib.Core.Option.{Option, none, some}
use lib.Dec.{T, eqb, leb}
use Rattle.laws.specs.Tables.{all, equal}
use Rattle.rows.specs.Rows.{apart, listed, rows_by}

abbrev row : ℕ → Option ℕ
row x = cond (eqb x 20) (some 2) (cond (leb 10 x && leb x 19) (some (x - 10)) none)

-- the call on three rows, with a place more in each store: this refusal number, these rows and these marks
abbrev is : List ℕ → ℕ → List ℕ → List ℕ → Bool
is ids refusal rows marks =
    let x = rows_by row 3 ids (7 ∷ 7 ∷ 7 ∷ 7 ∷ []) (5 ∷ 5 ∷ []) in
    eqb x.refusal refusal && (equal x.after.rows rows && equal x.after.marks marks)

table : T (all
    (is (12 ∷ 10 ∷ 11 ∷ []) 0 (10 ∷ 11 ∷ 12 ∷ 7 ∷ []) (0 ∷ 5 ∷ [])
    ∷ is (20 ∷ 10 ∷ 11 ∷ []) 0 (10 ∷ 11 ∷ 20 ∷ 7 ∷ []) (0 ∷ 5 ∷ [])
    ∷ is (12 ∷ 10 ∷ 20 ∷ []) 12 (7 ∷ 7 ∷ 7 ∷ 7 ∷ []) (0 ∷ 5 ∷ [])
    ∷ is (12 ∷ 10 ∷ 10 ∷ []) 12 (7 ∷ 7 ∷ 7 ∷ 7 ∷ []) (0 ∷ 5 ∷ [])
    ∷ is (12 ∷ 10 ∷ 21 ∷ []) 12 (7 ∷ 7 ∷ 7 ∷ 7 ∷ []) (0 ∷ 5 ∷ [])
    ∷ is (12 ∷ 10 ∷ []) 12 (7 ∷ 7 ∷ 7 ∷ 7 ∷ []) (0 ∷ 5 ∷ [])
    ∷ is (12 ∷ 10 ∷ 11 ∷ 21 ∷ []) 12 (7 ∷ 7 ∷ 7 ∷ 7 ∷ []) (0 ∷ 5 ∷ [])
    ∷ []))
unfolding apart listed rows_by
table = tt
