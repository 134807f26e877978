-- A lookup of any number in any head and stores: refused where the kind is unknown or the head does not fit, else answered by its levels.
use Rattle.std.specs.Prelude.{ℕ, List, length}
use Rattle.mixer.specs.Kinds.{kind_of}
use Rattle.head.specs.KindCheck.{check_kind}
use Rattle.head.specs.Index.{positions}
use Rattle.refusal.specs.Answers.{check}
use Rattle.refusal.specs.declared.Refusal.TheVariants.{UnfitHead}
use Rattle.head.specs.Layout.{size_at, fit}
use Rattle.head.specs.declared.Head.{Head}
use Rattle.finding.specs.Find.{Answer, refused_for, find_in}

unfoldable pub lookup_call : Head → List ℕ → List ℕ → ℕ → Answer
lookup_call head ws ss x =
    check_kind (kind_of head.kind) refused_for λ kind.
    check (fit head.count head.levels head.sizes (length ws) (length ss)) UnfitHead refused_for
    (find_in (positions kind) head.count (size_at head.sizes) ws ss x head.levels)
