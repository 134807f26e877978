-- What the promise of `rows` says: after a call that is not refused, at each row stands the id that lookup sends there. Assumes nothing.
use mathlib.Core.Path.{◌≡◌, ap, ◌∙◌}
use mathlib.Core.Bool.{true, ◌&&◌}
use mathlib.Core.List.{List}
use mathlib.Core.Option.{Option, some}
use Prim.Native.Nat.{ℕ, ◌≤◌, ◌<◌}
use borrow.Author.Tests.{eqb-true, leb-true}
use lib.Dec.{eqb, leb}
use lib.ListN.{length, get_or, drop, get_or-append}
use Rattle.laws.specs.Bits.{words_for}
use Rattle.laws.proofs.Cases.{both}
use Rattle.mixer.specs.Kinds.{kind_of}
use Rattle.mixer.specs.declared.Kind.{Kind}
use Rattle.std.specs.Prelude.{Ok}
use Rattle.head.specs.Layout.{fit}
use Rattle.lookup.specs.Lookup.{lookup_call}
use Rattle.rows.specs.Rows.{apart, listed, rows_by, rows_call}
use Rattle.finding.specs.Find.{row_in}
use Rattle.refusal.specs.declared.Refusal.TheVariants.{UnfitHead, ShortOutput, WrongIds}
use Rattle.refusal.proofs.Passed.{check_passed}
use Rattle.head.proofs.KindPassed.{kind_passed}
use Rattle.head.specs.declared.Head.{Head}
use Rattle.lookup.proofs.Lookups.{lookup-fit}
use Rattle.finding.proofs.Told.{found_below}
use Rattle.rows.proofs.Lists.{listed-length, listed-row}

by_rows : (row : ℕ → Option ℕ) (count : ℕ) → ((x r : ℕ) → row x ≡ some r → r < count) → (ids rows marks : List ℕ)
    → (rows_by row count ids rows marks).refusal ≡ 0 → count ≤ length rows → (k : ℕ) → k < count → row (get_or (rows_by row count ids rows marks).after.rows k 0) ≡ some k
unfolding rows_by
by_rows row count below ids rows marks done room k l =
    let t = (check_passed (eqb (length ids) count && apart row ids count) WrongIds _ _ done).0 in
    let n = eqb-true (length ids) count (both (eqb (length ids) count) (apart row ids count) t).0 in
    let e = (both (eqb (length ids) count) (apart row ids count) t).1 in
    let len = listed-length row count below ids rows n e room in
    rw (t, get_or-append (listed row ids count) (drop count rows) 0 k (rw len l)) (listed-row row count below ids rows n e room k l)

module _ (head : Head) (ws ss ids rows marks : List ℕ) where
  abbrev count : ℕ
  count = head.count

  abbrev row : ℕ → Option ℕ
  row x = row_in (lookup_call head ws ss x)

  row_below : (kind : Kind) → kind_of head.kind ≡ Ok kind → fit count head.levels head.sizes (length ws) (length ss) ≡ true → (x r : ℕ) → row x ≡ some r → r < count
  row_below kind f e x r q = found_below _ count _ ws ss x _ r (ap row_in (lookup-fit head ws ss x kind f e) ∙ q)

  pub rows_hold : (rows_call head ws ss ids rows marks).refusal ≡ 0 → (k : ℕ) → k < count → row (get_or (rows_call head ws ss ids rows marks).after.rows k 0) ≡ some k
  unfolding rows_call
  rows_hold done k l =
      let (kind, f, done₁) = kind_passed (kind_of head.kind) _ _ done in
      let (e, done₂) = check_passed (fit count head.levels head.sizes (length ws) (length ss)) UnfitHead _ _ done₁ in
      let (t, done₃) = check_passed (leb count (length rows) && leb (words_for count) (length marks)) ShortOutput _ _ done₂ in
      let room = leb-true count (length rows) (both (leb count (length rows)) (leb (words_for count) (length marks)) t).0 in
      rw (f, e, t) (by_rows row count (row_below kind f e) ids rows marks done₃ room k l)
