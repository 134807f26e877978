-- The public calls: the checks in their order, then the act on the plain set. Each call is one outcome, made from what the call was given.
use Rattle.std.specs.Prelude.{ℕ, ◌+◌, ◌-◌, ◌*◌, Bool, not, ◌&&◌, List, ◌++◌, eqb, leb, ltb, length, drop}
use Rattle.bounds.specs.Bounds.{max_bits}
use Rattle.refusal.specs.declared.Refusal.TheVariants.{BitOutside, UnfitSet, ShortOutput}
use Rattle.refusal.specs.Answers.{Outcome, Untouched, untouched, answered, refused, check}
use Rattle.laws.specs.Counting.{one, rank}
use Rattle.laws.specs.Bits.{has, words_for}
use Rattle.bitvector.specs.Sets.{empty_set, all_below, plus, minus, union, same_below, rising, set_of, stored}

-- ---- checks

-- 10: the capacity is within the bound, and the store has the words that it needs
unfoldable pub roomy : ℕ → List ℕ → Bool
roomy capacity ws = leb capacity max_bits && leb (words_for capacity) (length ws)

-- 10: and no bit at or past the capacity is set in the last needed word
unfoldable pub sound : ℕ → List ℕ → Bool
sound capacity ws = roomy capacity ws && eqb (rank (λ k. has ws (capacity + k)) (64 * words_for capacity - capacity)) 0

-- the checks of a call on one bit, which leave these stores
abbrev pub on_bit : {After : Type 0} → ℕ → List ℕ → ℕ → After → Outcome After → Outcome After
on_bit capacity ws bit s next = check (sound capacity ws) UnfitSet (refused s) (check (ltb bit capacity) BitOutside (refused s) next)

-- ---- calls

abbrev pub new_call : ℕ → List ℕ → Outcome (List ℕ)
new_call capacity ws =
    check (roomy capacity ws) UnfitSet (refused ws)
    (answered 0 (stored capacity empty_set ws))

abbrev pub ones_call : ℕ → List ℕ → Outcome (List ℕ)
ones_call capacity ws =
    check (roomy capacity ws) UnfitSet (refused ws)
    (answered 0 (stored capacity (all_below capacity) ws))

-- yes: there is no number in the set
abbrev pub is_empty_call : ℕ → List ℕ → Outcome Untouched
is_empty_call capacity ws =
    check (sound capacity ws) UnfitSet (refused untouched)
    (answered (one (eqb (rank (set_of capacity ws) capacity) 0)) untouched)

-- how many numbers are in the set
abbrev pub len_call : ℕ → List ℕ → Outcome Untouched
len_call capacity ws =
    check (sound capacity ws) UnfitSet (refused untouched)
    (answered (rank (set_of capacity ws) capacity) untouched)

-- yes: the bit is there
abbrev pub contains_call : ℕ → List ℕ → ℕ → Outcome Untouched
contains_call capacity ws bit =
    on_bit capacity ws bit untouched
    (answered (one (set_of capacity ws bit)) untouched)

-- yes: the bit was new
abbrev pub insert_call : ℕ → List ℕ → ℕ → Outcome (List ℕ)
insert_call capacity ws bit =
    on_bit capacity ws bit ws
    (answered (one (not (set_of capacity ws bit))) (stored capacity (plus (set_of capacity ws) bit) ws))

-- yes: the bit was there
abbrev pub remove_call : ℕ → List ℕ → ℕ → Outcome (List ℕ)
remove_call capacity ws bit =
    on_bit capacity ws bit ws
    (answered (one (set_of capacity ws bit)) (stored capacity (minus (set_of capacity ws) bit) ws))

-- yes: the set has changed
abbrev pub insert_all_call : ℕ → List ℕ → ℕ → List ℕ → Outcome (List ℕ)
insert_all_call capacity ws capacity₂ us =
    let s = set_of capacity ws in
    let t = union s (set_of capacity₂ us) in
    check (sound capacity ws && (sound capacity₂ us && eqb capacity capacity₂)) UnfitSet (refused ws)
    (answered (one (not (same_below s t capacity))) (stored capacity t ws))

-- yes: the two sets have the same numbers below the bit
abbrev pub eq_left_call : ℕ → List ℕ → ℕ → List ℕ → ℕ → Outcome Untouched
eq_left_call capacity ws capacity₂ us bit =
    check (sound capacity ws && sound capacity₂ us) UnfitSet (refused untouched)
    (check (leb bit capacity && leb bit capacity₂) BitOutside (refused untouched)
    (answered (one (same_below (set_of capacity ws) (set_of capacity₂ us) bit)) untouched))

-- the members go to the front of the member store, and how many they are is the answer
abbrev pub members_call : ℕ → List ℕ → List ℕ → Outcome (List ℕ)
members_call capacity ws out =
    let s = set_of capacity ws in
    let size = rank s capacity in
    check (sound capacity ws) UnfitSet (refused out)
    (check (leb size (length out)) ShortOutput (refused out)
    (answered size (rising s capacity ++ drop size out)))
