-- A row list: the checks in their order, then at each row the id that lookup sends there.
use Rattle.std.specs.Prelude.{ℕ, Bool, true, false, ◌&&◌, List, ◌++◌, eqb, leb, length, drop}
use Rattle.std.proofs.Math.Option.{Option, none, some}
use Rattle.laws.specs.Counting.{tally, rank, sift, chain}
use Rattle.laws.specs.Bits.{words_for}
use Rattle.laws.specs.Stores.{zeros}
use Rattle.refusal.specs.Answers.{Outcome, answered, refused, check}
use Rattle.refusal.specs.declared.Refusal.TheVariants.{UnfitHead, ShortOutput, WrongIds}
use Rattle.mixer.specs.Kinds.{kind_of}
use Rattle.head.specs.KindCheck.{check_kind}
use Rattle.head.specs.Layout.{fit}
use Rattle.head.specs.declared.Head.{Head}
use Rattle.finding.specs.Find.{row_in}
use Rattle.lookup.specs.Lookup.{lookup_call}

-- ---- the row of an id

-- whether there is none, and whether it is row k
abbrev pub is_none : Option ℕ → Bool
is_none none = true
is_none (some r) = false

abbrev pub is_row : ℕ → Option ℕ → Bool
is_row k none = false
is_row k (some r) = eqb r k

-- ---- the rows of some ids, where `row` sends each number to its row, if it has one

module _ (row : ℕ → Option ℕ) (ids : List ℕ) where
  -- how many ids have no row, and how many are sent to row k
  abbrev pub rowless : ℕ
  rowless = tally (λ x. is_none (row x)) ids

  abbrev pub sent : ℕ → ℕ
  sent k = tally (λ x. is_row k (row x)) ids

  -- whether every id has a row and no two share one of the rows below the count
  unfoldable pub apart : ℕ → Bool
  apart count = eqb rowless 0 && eqb (rank (λ k. leb 2 (sent k)) count) 0

  -- the row list: at each row the id that is sent there
  unfoldable pub listed : ℕ → List ℕ
  listed count = chain (λ k. sift (λ x. is_row k (row x)) ids) count

-- ---- the call

-- the stores that a row list may write
pub record RowStores : Type 0 where
  pub rows : List ℕ
  pub marks : List ℕ

abbrev pub row_stores : List ℕ → List ℕ → RowStores
row_stores rows marks = record { rows = rows; marks = marks }

-- the mark store with the needed marks 0, and the others as they were
abbrev pub clear_marks : ℕ → List ℕ → List ℕ
clear_marks count marks = zeros (words_for count) ++ drop (words_for count) marks

-- The last check, and the row list at the front of the row store, where the rest is as it was.
unfoldable pub rows_by : (ℕ → Option ℕ) → ℕ → List ℕ → List ℕ → List ℕ → Outcome RowStores
rows_by row count ids rows marks =
    check (eqb (length ids) count && apart row ids count) WrongIds (refused (row_stores rows (clear_marks count marks)))
    (answered 0 (row_stores (listed row ids count ++ drop count rows) (clear_marks count marks)))

-- The row list of the ids by lookup: first the checks of the kind, of the head and of the stores.
unfoldable pub rows_call : Head → List ℕ → List ℕ → List ℕ → List ℕ → List ℕ → Outcome RowStores
rows_call head ws ss ids rows marks =
    let count = head.count in
    let as-they-were = refused (row_stores rows marks) in
    check_kind (kind_of head.kind) as-they-were λ kind.
    check (fit count head.levels head.sizes (length ws) (length ss)) UnfitHead as-they-were
    (check (leb count (length rows) && leb (words_for count) (length marks)) ShortOutput as-they-were
    (rows_by (λ x. row_in (lookup_call head ws ss x)) count ids rows marks))
