-- An outcome that is not refused has a known kind. Assumes nothing.
use mathlib.Core.Path.{◌≡◌, refl}
use Rattle.std.specs.Prelude.{Result, Ok, Err}
use Rattle.refusal.specs.Answers.{Outcome, refused}
use Rattle.refusal.specs.declared.Refusal.{Refusal}
use Rattle.refusal.proofs.Apart.{not_none}
use Rattle.mixer.specs.declared.Kind.{Kind}
use Rattle.head.specs.KindCheck.{check_kind}

pub kind_passed : {After : Type 0} (of : Result Kind Refusal) (s : After) (next : Kind → Outcome After)
    → (check_kind of (refused s) next).refusal ≡ 0 → (kind : Kind) × (of ≡ Ok kind) × ((next kind).refusal ≡ 0)
kind_passed (Err why) s next e = absurd (not_none why e)
kind_passed (Ok kind) s next e = (kind, refl, e)
