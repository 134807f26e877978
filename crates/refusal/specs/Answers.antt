-- What a call leaves behind, as its promise says it: the refusal by its number, the value of the answer, and the stores that the call may write.
use Rattle.std.specs.Prelude.{ℕ, Bool, cond, Result, Ok, Err}
use Rattle.laws.specs.Counting.{one}
use Rattle.refusal.specs.Table.{number_of, value_of}
use Rattle.refusal.specs.declared.Refusal.{Refusal}

-- the refusal's number, 0 for none; the value of the answer; the stores that the call may write, after it. A store that it only reads is lent by `&`, and stays.
pub record Outcome (After : Type 0) : Type 0 where
  pub refusal : ℕ
  pub value : ℕ
  pub after : After

-- the stores of a call that writes none
abbrev pub Untouched : Type 0
Untouched = Unit {0}

abbrev pub untouched : Untouched
untouched = tt

module _ {After : Type 0} where
  abbrev pub answered : ℕ → After → Outcome After
  answered v s = record { refusal = 0; value = v; after = s }

  abbrev pub refused : After → Refusal → Outcome After
  refused s r = record { refusal = number_of r; value = value_of r; after = s }

  -- the outcome of a result, beside the stores, where `value` is the number of what is answered
  abbrev pub told : {A : Type 0} → (A → ℕ) → Result A Refusal → After → Outcome After
  told value (Ok a) s = answered (value a) s
  told value (Err r) s = refused s r

  -- done is 0, yes is 1, no is 0, a count is itself
  abbrev pub made : Result Unit Refusal → After → Outcome After
  made = told (λ _. 0)

  abbrev pub said : Result Bool Refusal → After → Outcome After
  said = told one

  abbrev pub counted : Result ℕ Refusal → After → Outcome After
  counted = told (λ n. n)

-- A check in its turn: where the test fails, the refusal for its reason, and else what comes next.
abbrev pub check : {A : Type 0} → Bool → Refusal → (Refusal → A) → A → A
check test reason refuse next = cond test next (refuse reason)
