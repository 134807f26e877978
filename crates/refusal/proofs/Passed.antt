-- A check that does not refuse is passed. Assumes nothing.
use mathlib.Core.Path.{◌≡◌, refl}
use mathlib.Core.Bool.{Bool, true, false}
use Rattle.std.specs.Prelude.{Result, Ok, Err}
use Rattle.refusal.specs.Answers.{Outcome, refused, check}
use Rattle.refusal.specs.declared.Refusal.{Refusal}
use Rattle.refusal.proofs.Apart.{not_none}

-- of any answer, where no refusal is what is known of it
passed_by : {A : Type 0} (P : A → Type 0) (test : Bool) (reason : Refusal) (refuse : Refusal → A) (next : A) → (P (refuse reason) → ⊥)
    → P (check test reason refuse next) → (test ≡ true) × P next
passed_by P true reason refuse next never p = (refl, p)
passed_by P false reason refuse next never p = absurd (never p)

-- of an outcome that is not refused
pub check_passed : {After : Type 0} (test : Bool) (reason : Refusal) (s : After) (next : Outcome After)
    → (check test reason (refused s) next).refusal ≡ 0 → (test ≡ true) × (next.refusal ≡ 0)
check_passed {After} test reason s next e = passed_by (λ (x : Outcome After). x.refusal ≡ 0) test reason (refused s) next (not_none reason) e

-- of checks whose result is no refusal
pub ok_passed : {A : Type 0} {a : A} (test : Bool) (reason : Refusal) (next : Result A Refusal) → check test reason Err next ≡ Ok a → (test ≡ true) × (next ≡ Ok a)
ok_passed {A} {a} test reason next e = passed_by (λ (m : Result A Refusal). m ≡ Ok a) test reason Err next (λ d. cc) e
