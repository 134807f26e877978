-- The call `rows`, case by case. Assumes nothing.
use mathlib.Core.Path.{◌≡◌, sym, ap, ap₂, ◌∙◌, fun_ext}
use mathlib.Core.Bool.{true, false, ◌&&◌}
use lib.Dec.{leb}
use mathlib.Core.List.{List, ◌++◌}
use mathlib.Core.Option.{Option, some}
use Prim.Native.Nat.{ℕ, ◌/◌, ◌≤◌, ◌<◌}
use native.Mathlib.Nat.{zero-div}
use native.Mathlib.Omega.{arith}
use borrow.Author.Tests.{eq-eqb, ne_eqb, le-leb, lt-leb}
use lib.ListN.{length, drop, get_or, replicate, length-replicate, get_or-replicate, get_or-append}
use lib.Seq.{drop_at}
use Rattle.laws.specs.Bits.{words_for}
use Rattle.laws.proofs.Words.{has_clear}
use Rattle.refusal.specs.declared.Refusal.TheVariants.{ShortOutput, WrongIds, UnknownKind}
use Rattle.refusal.specs.declared.Refusal.{Refusal}
use Rattle.refusal.specs.Answers.{Outcome, made, refused, check}
use Rattle.finding.specs.Find.{row_in}
use Rattle.mixer.specs.Kinds.{kind_of}
use Rattle.mixer.specs.declared.Kind.{Kind}
use Rattle.std.specs.Prelude.{Ok, Err}
use Rattle.head.specs.KindCheck.{check_kind}
use Rattle.finding.specs.Fitting.{kind_fitting}
use Rattle.finding.specs.declared.Index.{Index}
use Rattle.finding.proofs.Fittings.{by_fitting}
use Rattle.lookup.specs.Lookup.{lookup_call}
use Rattle.laws.specs.Stores.{zeros}
use Rattle.rows.specs.Rows.{apart, RowStores, row_stores, clear_marks, rows_by, rows_call}
use Rattle.rows.specs.Passes.{row_by, Unmarked, with_ids}
use Rattle.head.specs.declared.Head.{Head}
use Rattle.lookup.proofs.Lookups.{lookup_found}
use Rattle.rows.proofs.Lists.{all_listed}

-- ---- the marks, cleared

module _ (count : ℕ) (marks : List ℕ) where
  pub marks_clear : Unmarked count (clear_marks count marks)
  marks_clear = record {
    clear = λ k l.
        let n : ℕ = words_for count in
        let z : get_or (clear_marks count marks) (k / 64) 0 ≡ 0 =
        get_or-append (zeros n) (drop n marks) 0 (k / 64) (rw (length-replicate {A = ℕ} n 0) (omega arith))
        ∙ get_or-replicate n (k / 64) 0 0 (omega arith) in
        has_clear (clear_marks count marks) k (λ d. let e = rw (z, zero-div) at d in omega arith);
  }

  marks_past : drop (words_for count) (clear_marks count marks) ≡ drop (words_for count) marks
  marks_past = drop_at (zeros (words_for count)) _ (words_for count) (length-replicate (words_for count) 0)

  pub clears : (need : ℕ) (once : List ℕ) → need ≡ words_for count → once ≡ replicate need 0 ++ drop need marks → once ≡ clear_marks count marks
  clears need once n e = e ∙ ap (λ (k : ℕ). replicate k 0 ++ drop k marks) n

  -- once more, after a change of the needed ones only
  pub clears_again : (need : ℕ) (used again : List ℕ) → need ≡ words_for count
      → drop (words_for count) used ≡ drop (words_for count) (clear_marks count marks) → again ≡ replicate need 0 ++ drop need used → again ≡ clear_marks count marks
  clears_again need used again n p e =
      e ∙ ap (λ (k : ℕ). replicate k 0 ++ drop k used) n ∙ ap (λ (l : List ℕ). zeros (words_for count) ++ l) (p ∙ marks_past)

-- ---- the last check, and the row list

module _ (row : ℕ → Option ℕ) (count : ℕ) (ids rows marks after : List ℕ) (clear : after ≡ clear_marks count marks) where
  pub wrong_number : (length ids ≡ count → ⊥) → made (Err WrongIds) (row_stores rows after) ≡ rows_by row count ids rows marks
  unfolding rows_by
  wrong_number n = rw (clear, ne_eqb (length ids) count n)

  pub wrong_ids : length ids ≡ count → apart row ids count ≡ false → made (Err WrongIds) (row_stores rows after) ≡ rows_by row count ids rows marks
  unfolding rows_by
  wrong_ids n e = rw (clear, eq-eqb (length ids) count n, e)

  pub right_ids : ((x r : ℕ) → row x ≡ some r → r < count) → count ≤ length rows → length ids ≡ count → apart row ids count ≡ true
      → (store : List ℕ) → store ≡ with_ids row ids rows → made (Ok tt) (row_stores store after) ≡ rows_by row count ids rows marks
  unfolding rows_by
  right_ids below room n e store w =
      rw (clear, eq-eqb (length ids) count n, e)
      (ap (λ (l : List ℕ). made (Ok tt) (row_stores l (clear_marks count marks))) (w ∙ all_listed row count below ids rows n e room))

-- ---- the checks before

module _ (head : Head) (ws ss ids rows marks : List ℕ) where
  abbrev as_they_were : Refusal → Outcome RowStores
  as_they_were = refused (row_stores rows marks)

  abbrev next : Outcome RowStores
  next =
      check (leb head.count (length rows) && leb (words_for head.count) (length marks)) ShortOutput as_they_were
      (rows_by (λ x. row_in (lookup_call head ws ss x)) head.count ids rows marks)

  -- by the kind of the index, if there is one
  call_by : check_kind (kind_fitting head (length ws) (length ss)) as_they_were (λ kind. next) ≡ rows_call head ws ss ids rows marks
  unfolding rows_call
  call_by = by_fitting as_they_were (λ kind. next) head (length ws) (length ss)

  pub call_refused : (why : Refusal) → kind_fitting head (length ws) (length ss) ≡ Err why
      → made (Err why) (row_stores rows marks) ≡ rows_call head ws ss ids rows marks
  call_refused why e = rw e at call_by

  pub call_unknown : kind_of head.kind ≡ Err UnknownKind → made (Err UnknownKind) (row_stores rows marks) ≡ rows_call head ws ss ids rows marks
  unfolding rows_call
  call_unknown u = rw u

  module _ (kind : Kind) (k : kind_fitting head (length ws) (length ss) ≡ Ok kind) where
    call_next : next ≡ rows_call head ws ss ids rows marks
    call_next = rw k at call_by

    pub rows_short : length rows < head.count → made (Err ShortOutput) (row_stores rows marks) ≡ rows_call head ws ss ids rows marks
    rows_short h = rw (lt-leb head.count (length rows) h) at call_next

    pub marks_short : head.count ≤ length rows → length marks < words_for head.count
        → made (Err ShortOutput) (row_stores rows marks) ≡ rows_call head ws ss ids rows marks
    marks_short h l = rw (le-leb head.count (length rows) h, lt-leb (words_for head.count) (length marks) l) at call_next

    -- by an index of the same head and stores
    module _ (index : Index) (q : kind ≡ index.kind) (h : index.head.now ≡ head) (w : index.words.now ≡ ws) (s : index.samples.now ≡ ss) where
      row_same : (x : ℕ) → row_by index x ≡ row_in (lookup_call head ws ss x)
      unfolding row_by
      row_same x = ap row_in (rw (h, w, s, sym q) (lookup_found head ws ss x kind k))

      pub stores-fit : head.count ≤ length rows → words_for head.count ≤ length marks
          → rows_by (row_by index) index.head.now.count ids rows marks ≡ rows_call head ws ss ids rows marks
      stores-fit room marks_room =
          ap₂ (λ (row : ℕ → Option ℕ) (n : ℕ). rows_by row n ids rows marks) (fun_ext row_same) (ap (λ (of : Head). of.count) h)
          ∙ (rw (le-leb head.count (length rows) room, le-leb (words_for head.count) (length marks) marks_room) at call_next)
