-- The steps of a row list, by an index: one pass marks the rows of the ids, the other writes each id at its row.
use Rattle.std.specs.Prelude.{ℕ, ◌<◌, ◌≡◌, Bool, false, not, List, [], ◌∷◌, set, drop}
use Rattle.std.proofs.Math.Option.{Option, none, some}
use Rattle.laws.specs.Bits.{has, words_for, with_bit}
use Rattle.head.specs.Index.{positions}
use Rattle.head.specs.Layout.{size_at}
use Rattle.finding.specs.Find.{row_in, find_in}
use Rattle.finding.specs.declared.Index.{Index}
use Rattle.rows.specs.Rows.{apart}

-- the row of a number, by an index: its kind, its head and its stores
unfoldable pub row_by : Index → ℕ → Option ℕ
row_by index x =
    let head = index.head.now in
    row_in (find_in (positions index.kind) head.count (size_at head.sizes) index.words.now index.samples.now x head.levels)

-- ---- marks

-- no row below the count is marked
pub record Unmarked (count : ℕ) (marks : List ℕ) : Type 0 where
  pub clear : (k : ℕ) → k < count → has marks k ≡ false

-- whether there is a row that is not marked yet, and the marks with it
abbrev pub is_new : Option ℕ → List ℕ → Bool
is_new none marks = false
is_new (some r) marks = not (has marks r)

abbrev pub with_row : Option ℕ → List ℕ → List ℕ
with_row none marks = marks
with_row (some r) marks = with_bit marks r

-- one id: it is told whether its row is new, and its row is marked
pub record Marked (row : Option ℕ) (marks : List ℕ) (told : Bool) (after : List ℕ) : Type 0 where
  pub new : told ≡ is_new row marks
  pub marks_are : after ≡ with_row row marks

-- all ids: it is told whether they are apart, and no mark past the needed ones changes
pub record Checked (row : ℕ → Option ℕ) (ids : List ℕ) (count : ℕ) (marks : List ℕ) (told : Bool) (after : List ℕ) : Type 0 where
  pub are_apart : told ≡ apart row ids count
  pub past : drop (words_for count) after ≡ drop (words_for count) marks

-- ---- rows

-- the row store with an id at its row, and with each id at its row in turn
abbrev pub with_id : Option ℕ → ℕ → List ℕ → List ℕ
with_id none x rows = rows
with_id (some r) x rows = set rows r x

unfoldable pub with_ids : (ℕ → Option ℕ) → List ℕ → List ℕ → List ℕ
with_ids row [] rows = rows
with_ids row (x ∷ xs) rows = with_ids row xs (with_id (row x) x rows)
