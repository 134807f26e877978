-- The kinds of hash: which are known, by their numbers.
use Rattle.std.specs.Prelude.{ℕ, cond, ◌==◌, Result, Ok, Err}
use Rattle.mixer.specs.declared.Kind.{Kind}
use Rattle.mixer.specs.declared.Kind.TheVariants.{Plain}
use Rattle.refusal.specs.declared.Refusal.{Refusal}
use Rattle.refusal.specs.declared.Refusal.TheVariants.{UnknownKind}

-- the number of each kind
abbrev pub kind_number : Kind → ℕ
kind_number Plain = 0

-- the kind that a number stands for: every other number is refused
unfoldable pub kind_of : ℕ → Result Kind Refusal
kind_of number = cond (number == kind_number Plain) (Ok Plain) (Err UnknownKind)
