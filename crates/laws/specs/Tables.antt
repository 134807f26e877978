-- Tables of worked examples: each row is a test, which antt computes.
use Rattle.std.specs.Prelude.{ℕ, Bool, true, false, ◌&&◌, List, [], ◌∷◌, eqb}

-- every row holds
abbrev pub all : List Bool → Bool
all [] = true
all (row ∷ rows) = row && all rows

-- two lists are the same
abbrev pub equal : List ℕ → List ℕ → Bool
equal [] [] = true
equal [] (y ∷ ys) = false
equal (x ∷ xs) [] = false
equal (x ∷ xs) (y ∷ ys) = eqb x y && equal xs ys
