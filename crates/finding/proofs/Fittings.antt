-- A call that begins with an index: what it refuses, and what comes next, by the kind of the head that fits. Assumes nothing.
use Rattle.std.proofs.Common.{◌≡◌, ℕ, refl, true, false, Bool, Result, Ok, Err}
use Rattle.mixer.specs.Kinds.{kind_of}
use Rattle.mixer.specs.declared.Kind.{Kind}
use Rattle.head.specs.KindCheck.{check_kind}
use Rattle.head.specs.Layout.{fit}
use Rattle.head.specs.declared.Head.{Head}
use Rattle.refusal.specs.Answers.{check}
use Rattle.refusal.specs.declared.Refusal.{Refusal}
use Rattle.refusal.specs.declared.Refusal.TheVariants.{UnfitHead}
use Rattle.finding.specs.Fitting.{kind_fitting}

module _ {A : Type 0} (refuse : Refusal → A) (next : Kind → A) where
  -- the two checks, and what comes next
  abbrev checked : Result Kind Refusal → Bool → A
  checked of fits = check_kind of refuse λ kind. check fits UnfitHead refuse (next kind)

  checks : (of : Result Kind Refusal) (fits : Bool) → check_kind (check_kind of Err λ kind. check fits UnfitHead Err (Ok kind)) refuse next ≡ checked of fits
  checks (Err why) fits = refl
  checks (Ok kind) true = refl
  checks (Ok kind) false = refl

  module _ (head : Head) (word_room sample_room : ℕ) where
    pub by_fitting : check_kind (kind_fitting head word_room sample_room) refuse next
        ≡ (check_kind (kind_of head.kind) refuse λ kind. check (fit head.count head.levels head.sizes word_room sample_room) UnfitHead refuse (next kind))
    unfolding kind_fitting
    by_fitting = checks (kind_of head.kind) (fit head.count head.levels head.sizes word_room sample_room)
