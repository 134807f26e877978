-- A lookup, by whether the kind is known and the head fits. Assumes nothing.
use mathlib.Core.Path.{◌≡◌}
use mathlib.Core.Bool.{true, false}
use mathlib.Core.List.{List}
use Prim.Native.Nat.{ℕ}
use lib.ListN.{length}
use Rattle.mixer.specs.Kinds.{kind_of}
use Rattle.mixer.specs.declared.Kind.{Kind}
use Rattle.std.specs.Prelude.{Ok, Err}
use Rattle.head.specs.Index.{positions}
use Rattle.refusal.specs.declared.Refusal.{Refusal}
use Rattle.refusal.specs.declared.Refusal.TheVariants.{UnfitHead, UnknownKind}
use Rattle.head.specs.Layout.{size_at, fit}
use Rattle.head.specs.declared.Head.{Head}
use Rattle.head.specs.KindCheck.{check_kind}
use Rattle.finding.specs.Fitting.{kind_fitting}
use Rattle.finding.proofs.Fittings.{by_fitting}
use Rattle.finding.specs.Find.{refused_for, find_in}
use Rattle.lookup.specs.Lookup.{lookup_call}

-- by the kind of the index, if there is one
module _ (head : Head) (ws ss : List ℕ) (x : ℕ) where
  lookup_by : check_kind (kind_fitting head (length ws) (length ss)) refused_for (λ kind. find_in (positions kind) head.count (size_at head.sizes) ws ss x head.levels)
      ≡ lookup_call head ws ss x
  unfolding lookup_call
  lookup_by = by_fitting refused_for (λ kind. find_in (positions kind) head.count (size_at head.sizes) ws ss x head.levels) head (length ws) (length ss)

  pub lookup_refused : (why : Refusal) → kind_fitting head (length ws) (length ss) ≡ Err why → refused_for why ≡ lookup_call head ws ss x
  lookup_refused why e = rw e at lookup_by

  pub lookup_found : (kind : Kind) → kind_fitting head (length ws) (length ss) ≡ Ok kind
      → find_in (positions kind) head.count (size_at head.sizes) ws ss x head.levels ≡ lookup_call head ws ss x
  lookup_found kind e = rw e at lookup_by

module _ (head : Head) (ws ss : List ℕ) (x : ℕ) where
  pub lookup_unknown : kind_of head.kind ≡ Err UnknownKind → refused_for UnknownKind ≡ lookup_call head ws ss x
  unfolding lookup_call
  lookup_unknown u = rw u

  module _ (kind : Kind) (k : kind_of head.kind ≡ Ok kind) where
    pub lookup-fit : fit head.count head.levels head.sizes (length ws) (length ss) ≡ true
        → find_in (positions kind) head.count (size_at head.sizes) ws ss x head.levels ≡ lookup_call head ws ss x
    unfolding lookup_call
    lookup-fit e = rw (k, e)

    pub lookup_unfit : fit head.count head.levels head.sizes (length ws) (length ss) ≡ false → refused_for UnfitHead ≡ lookup_call head ws ss x
    unfolding lookup_call
    lookup_unfit e = rw (k, e)
