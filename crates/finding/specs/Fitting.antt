-- What makes a head and its stores an index: its kind is known, and it fits them.
use Rattle.std.specs.Prelude.{ℕ, Result, Ok, Err}
use Rattle.mixer.specs.Kinds.{kind_of}
use Rattle.mixer.specs.declared.Kind.{Kind}
use Rattle.head.specs.KindCheck.{check_kind}
use Rattle.head.specs.Layout.{fit}
use Rattle.head.specs.declared.Head.{Head}
use Rattle.refusal.specs.Answers.{check}
use Rattle.refusal.specs.declared.Refusal.{Refusal}
use Rattle.refusal.specs.declared.Refusal.TheVariants.{UnfitHead}

-- The kind of a head that fits stores of so many words and samples: an unknown kind is refused first, then what does not fit.
unfoldable pub kind_fitting : Head → ℕ → ℕ → Result Kind Refusal
kind_fitting head word_room sample_room =
    check_kind (kind_of head.kind) Err λ kind.
    check (fit head.count head.levels head.sizes word_room sample_room) UnfitHead Err (Ok kind)
