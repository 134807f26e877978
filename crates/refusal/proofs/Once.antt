-- No room for a second answer: where the promise of a call is an outcome, two answers with their stores that meet it are equal. Assumes nothing.
use mathlib.Core.Path.{◌≡◌, refl, sym, ap, ◌∙◌}
use mathlib.Core.Bool.{Bool, true, false, cond}
use Prim.Native.Nat.{ℕ}
use lib.Dec.{eqb}
use Rattle.std.specs.Prelude.{Result, Ok, Err}
use Rattle.laws.specs.Counting.{one}
use Rattle.refusal.specs.Answers.{Outcome, told, made, said, counted}
use Rattle.refusal.specs.declared.Refusal.{Refusal}
use Rattle.refusal.proofs.Apart.{answer_back, refused_back}

-- where answer and stores can be read back from an outcome, two that have the same outcome are equal
pub once_by : {A Left Out : Type 0} (f : A → Left → Out) (answer : Out → A) (left : Out → Left) → ((a : A) (s : Left) → answer (f a s) ≡ a)
    → ((a : A) (s : Left) → left (f a s) ≡ s) → (x : Out) (a b : A) (s t : Left) → f a s ≡ x → f b t ≡ x → (a ≡ b) × (s ≡ t)
once_by f answer left answer_back left_back x a b s t e g = (
  sym (answer_back a s) ∙ ap answer (e ∙ sym g) ∙ answer_back b t,
  sym (left_back a s) ∙ ap left (e ∙ sym g) ∙ left_back b t,
)

-- what is answered and left, if it is the outcome x, is the same
abbrev pub Once : (After A : Type 0) → (A → After → Outcome After) → Outcome After → Type 0
Once After A f x = (a b : A) (s t : After) → f a s ≡ x → f b t ≡ x → (a ≡ b) × (s ≡ t)

-- the result that an outcome is read back as, where what is answered is read back from the outcome
abbrev pub result_in : {A After : Type 0} → (Outcome After → A) → Outcome After → Result A Refusal
result_in back x = answer_back (Ok (back x)) Err x.refusal x.value

-- the stores beside a result are those of its outcome
pub told_after : {A After : Type 0} (value : A → ℕ) (a : Result A Refusal) (s : After) → (told value a s).after ≡ s
told_after value (Ok a) s = refl
told_after value (Err r) s = refl

module _ (After : Type 0) where
  -- of a result, where what is answered can be read back from its number
  module _ {A : Type 0} (value : A → ℕ) (back : ℕ → A) (back_value : (a : A) → back (value a) ≡ a) where
    told_answer : (a : Result A Refusal) (s : After) → result_in (λ x. back x.value) (told value a s) ≡ a
    told_answer (Ok a) s = ap Ok (back_value a)
    told_answer (Err r) s = refused_back _ Err r

    pub told_once : (x : Outcome After) → Once After (Result A Refusal) (told value) x
    told_once = once_by (told value) (result_in (λ x. back x.value)) (λ x. x.after) told_answer (told_after value)

  pub made_once : (x : Outcome After) → Once After (Result Unit Refusal) made x
  made_once = told_once (λ _. 0) (λ _. tt) (λ _. refl)

  pub said_once : (x : Outcome After) → Once After (Result Bool Refusal) said x
  said_once = told_once one (λ v. cond (eqb v 0) false true) back_one
    where
      back_one : (b : Bool) → cond (eqb (one b) 0) false true ≡ b
      back_one true = refl
      back_one false = refl

  pub counted_once : (x : Outcome After) → Once After (Result ℕ Refusal) counted x
  counted_once = told_once (λ n. n) (λ n. n) (λ n. refl)
