-- The one number that an answer is to a host: a value, 2^64 - 1 for none, 2^64 - 1 - r for refusal r.
use Rattle.std.specs.Prelude.{ℕ, ◌-◌, Bool, cond, eqb, leb, Option, None, Some, Result, Ok, Err}
use Rattle.bounds.specs.Bounds.{max_bits}
use Rattle.laws.specs.Counting.{one}
use Rattle.refusal.specs.Table.{number_of}
use Rattle.refusal.specs.declared.Refusal.{Refusal}
use Rattle.refusal.specs.Answers.{Outcome, untouched, told}
use Rattle.finding.specs.declared.Place.{Place}
use Rattle.finding.specs.Find.{Answer, found, nothing, refused}

abbrev pub none_number : ℕ
none_number = 18446744073709551615

abbrev pub refused_number : ℕ → ℕ
refused_number r = none_number - r

-- by the refusal's number, 0 for none, and the value where there is none
abbrev pub number_for : ℕ → ℕ → ℕ
number_for r value = cond (eqb r 0) value (refused_number r)

abbrev pub of_outcome : {After : Type 0} → Outcome After → ℕ
of_outcome o = number_for o.refusal o.value

-- the row of a lookup, none, or the refusal
abbrev pub of_answer : Answer → ℕ
of_answer (found p) = p.row
of_answer nothing = none_number
of_answer (refused r value) = refused_number r

-- the value that a refusal carries, else 0
abbrev pub value_in : {A : Type 0} → Result A Refusal → ℕ
value_in answer = (told (λ _. 0) answer untouched).value

-- the number of the code's results, where what is answered has a number: done is 0, yes is 1, no is 0, a count is itself
abbrev pub of_told : {A : Type 0} → (A → ℕ) → Result A Refusal → ℕ
of_told number answer = of_outcome (told number answer untouched)

abbrev pub of_made : {A : Type 0} → Result A Refusal → ℕ
of_made = of_told (λ _. 0)

abbrev pub of_said : Result Bool Refusal → ℕ
of_said = of_told one

abbrev pub of_counted : Result ℕ Refusal → ℕ
of_counted = of_told (λ n. n)

-- ---- how a host reads a number: up to the bit bound it is a value. proofs/Readings.antt shows that no call's answer is read as another.

pub data Reading : Type 0 where
  value : ℕ → Reading
  no_row : Reading
  refusal : ℕ → Reading

unfoldable pub reading : ℕ → Reading
reading n = cond (leb n max_bits) (value n) (cond (eqb n none_number) no_row (refusal (none_number - n)))

-- what has to be read of each answer
abbrev pub told_as : {A : Type 0} → (A → ℕ) → Result A Refusal → Reading
told_as number (Ok a) = value (number a)
told_as number (Err r) = refusal (number_of r)

abbrev pub told_made : {A : Type 0} → Result A Refusal → Reading
told_made = told_as (λ _. 0)

abbrev pub told_said : Result Bool Refusal → Reading
told_said = told_as one

abbrev pub told_counted : Result ℕ Refusal → Reading
told_counted = told_as (λ n. n)

abbrev pub told_found : Result (Option Place) Refusal → Reading
told_found (Ok (Some p)) = value p.row
told_found (Ok None) = no_row
told_found (Err r) = refusal (number_of r)
