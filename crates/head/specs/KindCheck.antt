-- Refusal 16: the check of a kind.
use Rattle.std.specs.Prelude.{Result, Ok, Err}
use Rattle.refusal.specs.declared.Refusal.{Refusal}
use Rattle.mixer.specs.declared.Kind.{Kind}

-- A check of the kind in its turn: where it is unknown, the refusal for that reason, and else what comes next, by the kind.
abbrev pub check_kind : {A : Type 0} → Result Kind Refusal → (Refusal → A) → (Kind → A) → A
check_kind (Err why) refuse next = refuse why
check_kind (Ok kind) refuse next = next kind
