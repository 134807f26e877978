-- A number stands for a kind exactly if it is the number of that kind. Assumes nothing.
use Rattle.std.proofs.Common.{◌≡◌, ℕ, ◌^◌, ◌<◌, Bool, true, false, ◌⊎◌, Result, Ok, Err, sym, refl, ap, ◌∙◌, inl, inr, lit<, ne_eqb}
use mathlib.Core.Bool.{false≢true}
use native.Mathlib.Decide.{ℕ_discrete}
use Rattle.mixer.specs.Kinds.{kind_number, kind_of}
use Rattle.mixer.specs.declared.Kind.{Kind}
use Rattle.mixer.specs.declared.Kind.TheVariants.{Plain}
use Rattle.refusal.specs.declared.Refusal.{Refusal}
use Rattle.refusal.specs.declared.Refusal.TheVariants.{UnknownKind}

-- the number of each kind stands for it
pub number_known : (kind : Kind) → kind_of (kind_number kind) ≡ Ok kind
unfolding kind_of
number_known Plain = refl

-- any number is that of a kind, or refused
pub number_or_not : (number : ℕ) → ((kind : Kind) × (number ≡ kind_number kind)) ⊎ (kind_of number ≡ Err UnknownKind)
unfolding kind_of
number_or_not number = elim (ℕ_discrete number (kind_number Plain)) [
  | yes e ↦ inl (Plain, e)
  | no n ↦ inr (rw (ne_eqb number (kind_number Plain) n))
]

-- the number of the kind that is found, and whether one is
abbrev number_in : Result Kind Refusal → ℕ
number_in (Ok kind) = kind_number kind
number_in (Err why) = 0

abbrev is_known : Result Kind Refusal → Bool
is_known (Ok kind) = true
is_known (Err why) = false

-- the number that stands for a kind is that kind's
pub known_number : (number : ℕ) (kind : Kind) → kind_of number ≡ Ok kind → number ≡ kind_number kind
known_number number kind e = elim (number_or_not number) [
  | inl (k, f) ↦ f ∙ ap number_in (sym (number_known k) ∙ sym (ap kind_of f) ∙ e)
  | inr u ↦ absurd (false≢true (ap is_known (sym u ∙ e)))
]

-- and is a word
number_word : (kind : Kind) → kind_number kind < 2 ^ 64
number_word Plain = lit< tt

pub known_word : (number : ℕ) (kind : Kind) → kind_of number ≡ Ok kind → number < 2 ^ 64
known_word number kind e = rw (known_number number kind e) (number_word kind)
