-- Worked examples of the calls, both sides of each line: one table of tests, which antt computes. Assumes nothing.
use Prim.Native.Nat.{ℕ, ◌+◌, ◌-◌, ◌^◌}
use mathlib.Core.Bool.{Bool, ◌&&◌}
use mathlib.Core.List.{List, [], ◌∷◌}
use lib.Dec.{T, eqb}
use Rattle.bounds.specs.Bounds.{max_bits}
use Rattle.laws.specs.Bits.{bit_at, has, packed}
use Rattle.laws.specs.Tables.{all, equal}
use Rattle.bitvector.specs.Sets.{stored}
use Rattle.refusal.specs.Answers.{Outcome}
use Rattle.bitvector.specs.Calls.{roomy, sound, new_call, ones_call, is_empty_call, len_call}
use Rattle.bitvector.specs.Calls.{contains_call, insert_call, remove_call, insert_all_call, eq_left_call, members_call}

-- an outcome is this refusal number and this value, and where the call writes a store, leaves this in it
abbrev says : {After : Type 0} → Outcome After → ℕ → ℕ → Bool
says x refusal value = eqb x.refusal refusal && eqb x.value value

abbrev is : Outcome (List ℕ) → ℕ → ℕ → List ℕ → Bool
is x refusal value store = says x refusal value && equal x.after store

rows : T (all
    (is (new_call (max_bits + 1) []) 10 0 []
    ∷ is (new_call 65 (9 ∷ 9 ∷ 9 ∷ [])) 0 0 (0 ∷ 0 ∷ 9 ∷ [])
    ∷ is (ones_call 64 (9 ∷ 9 ∷ [])) 0 0 ((2 ^ 64 - 1) ∷ 9 ∷ [])
    ∷ is (ones_call 65 (9 ∷ 9 ∷ 9 ∷ [])) 0 0 ((2 ^ 64 - 1) ∷ 1 ∷ 9 ∷ [])
    ∷ is (ones_call 65 (9 ∷ [])) 10 0 (9 ∷ [])
    ∷ says (is_empty_call 65 (0 ∷ 0 ∷ 9 ∷ [])) 0 1
    ∷ says (is_empty_call 65 (0 ∷ 1 ∷ [])) 0 0
    ∷ says (len_call 65 (7 ∷ 1 ∷ 9 ∷ [])) 0 4
    ∷ says (len_call 65 (7 ∷ 2 ∷ [])) 10 0
    ∷ says (contains_call 65 (0 ∷ 1 ∷ []) 64) 0 1
    ∷ is (insert_call 255 (0 ∷ 0 ∷ 0 ∷ 0 ∷ []) 254) 0 1 (0 ∷ 0 ∷ 0 ∷ 2 ^ 62 ∷ [])
    ∷ is (insert_call 255 (0 ∷ 0 ∷ 0 ∷ 0 ∷ []) 255) 9 0 (0 ∷ 0 ∷ 0 ∷ 0 ∷ [])
    ∷ is (insert_call 255 (0 ∷ 0 ∷ 0 ∷ 2 ^ 63 ∷ []) 255) 10 0 (0 ∷ 0 ∷ 0 ∷ 2 ^ 63 ∷ [])
    ∷ is (insert_call 8 (6 ∷ []) 2) 0 0 (6 ∷ [])
    ∷ is (remove_call 8 (6 ∷ []) 2) 0 1 (2 ∷ [])
    ∷ is (insert_all_call 64 (1 ∷ []) 64 (3 ∷ [])) 0 1 (3 ∷ [])
    ∷ is (insert_all_call 64 (3 ∷ []) 64 (1 ∷ [])) 0 0 (3 ∷ [])
    ∷ is (insert_all_call 64 (1 ∷ []) 63 (3 ∷ [])) 10 0 (1 ∷ [])
    ∷ says (eq_left_call 0 [] 0 [] 0) 0 1
    ∷ says (eq_left_call 65 (5 ∷ 1 ∷ []) 66 (5 ∷ 0 ∷ []) 64) 0 1
    ∷ says (eq_left_call 65 (5 ∷ 1 ∷ []) 66 (5 ∷ 0 ∷ []) 65) 0 0
    ∷ says (eq_left_call 65 (5 ∷ 1 ∷ []) 66 (5 ∷ 0 ∷ []) 66) 9 0
    ∷ is (members_call 130 (1 ∷ 2 ^ 63 ∷ 2 ∷ []) (7 ∷ 7 ∷ 7 ∷ 7 ∷ [])) 0 3 (0 ∷ 127 ∷ 129 ∷ 7 ∷ [])
    ∷ is (members_call 130 (1 ∷ 2 ^ 63 ∷ 2 ∷ []) (7 ∷ 7 ∷ [])) 11 0 (7 ∷ 7 ∷ [])
    ∷ []))
unfolding bit_at has packed stored roomy sound
rows = tt
