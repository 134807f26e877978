-- The number of an answer, whatever the stores beside it. Assumes nothing.
use mathlib.Core.Path.{◌≡◌, refl, sym, ap, ap₂, ◌∙◌}
use Prim.Native.Nat.{ℕ}
use borrow.Author.Tests.{ne_eqb}
use Rattle.std.specs.Prelude.{Result, Ok, Err}
use Rattle.refusal.specs.Table.{number_of}
use Rattle.refusal.specs.Answers.{Outcome, told}
use Rattle.refusal.specs.declared.Refusal.{Refusal}
use Rattle.refusal.proofs.Apart.{not_none}
use Rattle.refusal.proofs.Once.{told_after}
use Rattle.host.specs.Numbers.{refused_number, number_for, of_outcome, of_told}
use Rattle.host.specs.Flat.{Seen, seen, seen_of}

-- no refusal has number 0
pub refused-number : (r : Refusal) (value : ℕ) → number_for (number_of r) value ≡ refused_number (number_of r)
refused-number r value = rw (ne_eqb (number_of r) 0 (not_none r))

module _ {A After : Type 0} (value : A → ℕ) where
  -- the number of an outcome does not depend on the stores
  told-number : (answer : Result A Refusal) (s : After) → of_told value answer ≡ of_outcome (told value answer s)
  told-number (Ok a) s = refl
  told-number (Err r) s = refl

  -- the number and the stores of an outcome are what a host sees of it
  pub told-seen : {n : ℕ} {s : After} {o : Outcome After} (answer : Result A Refusal) → n ≡ of_told value answer → told value answer s ≡ o → seen n s ≡ seen_of o
  told-seen {s = s} answer e h = ap₂ seen (e ∙ told-number answer s) (sym (told_after value answer s)) ∙ ap seen_of h

-- No room for a second answer: what a host sees, the number and every word of every store, is the same in any two calls that meet one promise. The promise
-- of each call is `seen number stores ≡ x`, with an x of the values at entry.
pub seen_once : {After : Type 0} (x : Seen After) (m n : ℕ) (s t : After) → seen m s ≡ x → seen n t ≡ x → (m ≡ n) × (s ≡ t)
seen_once {After} x m n s t e f = (ap (λ (y : Seen After). y.number) (e ∙ sym f), ap (λ (y : Seen After). y.after) (e ∙ sym f))
