-- The check that ids are apart, by marks, over any rule that sends numbers to rows below a count: the ids passed are apart, and the marks are their rows.
-- Assumes nothing.
use mathlib.Core.Path.{◌≡◌, refl, sym, ap, ◌∙◌}
use mathlib.Core.Bool.{Bool, true, false, ◌||◌, false≢true}
use mathlib.Core.List.{List, []}
use mathlib.Core.Option.{Option, none, some}
use Prim.Native.Nat.{ℕ, suc, ◌+◌, ◌≤◌, ◌<◌}
use native.Mathlib.Nat.{add-zero}
use native.Mathlib.Numerals.{add-one}
use native.Mathlib.Decide.{ℕ_discrete}
use native.Mathlib.Omega.{arith}
use borrow.Author.Tests.{eq-eqb, ne_eqb, not-true, not-false}
use lib.Dec.{eqb}
use lib.ListN.{length, get_or, take, drop, take-append-drop}
use lib.Seq.{take-length}
use Rattle.laws.specs.Counting.{one, total}
use Rattle.laws.specs.Bits.{has, words_for}
use Rattle.laws.proofs.Counts.{total-append, total-take}
use Rattle.laws.proofs.Words.{with_put, put_drop, with_has}
use Rattle.rows.specs.Rows.{is_none, is_row, rowless, sent}
use Rattle.rows.specs.Passes.{is_new, with_row, Marked, Checked, Unmarked}
use Rattle.rows.proofs.Lists.{apart_known, apart_is, not_apart}

-- ---- all ids

-- the part of a list that is passed counts no more than the list
passed_le : (w : ℕ → ℕ) (xs : List ℕ) (k : ℕ) → total w (take k xs) ≤ total w xs
passed_le w xs k = omega (arith, total-append w (take k xs) (drop k xs), ap (total w) (take-append-drop k xs))

-- the ids passed all have rows, the marks below the count are their rows, one for one, and those past the needed ones are as they were
pub record Marking (row : ℕ → Option ℕ) (count : ℕ) (marks passed now : List ℕ) : Type 0 where
  pub all_rows : rowless row passed ≡ 0
  pub each : (k : ℕ) → k < count → one (has now k) ≡ sent row passed k
  pub past : drop (words_for count) now ≡ drop (words_for count) marks

pub marking_none : (row : ℕ → Option ℕ) (count : ℕ) (marks : List ℕ) → Unmarked count marks → Marking row count marks [] marks
marking_none row count marks u = record { all_rows = refl; each = λ k l. ap one (u.clear k l); past = refl }

-- one row more
added : (now : List ℕ) (r k : ℕ) → has now r ≡ false → one (eqb k r || has now k) ≡ one (has now k) + one (eqb r k)
added now r k e =
    elim (ℕ_discrete k r) [
      | yes q ↦ rw (q, e, eq-eqb r r refl)
      | no n ↦ rw (ne_eqb k r n, ne_eqb r k (λ q. n (sym q))) (sym (add-zero _))
    ]

module _ (row : ℕ → Option ℕ) (count : ℕ) (below : (x r : ℕ) → row x ≡ some r → r < count) (marks ids now : List ℕ) (i : ℕ) (h : i < length ids)
    (m : Marking row count marks (take i ids) now) where
  abbrev id : ℕ
  id = get_or ids i 0

  rowless_more : rowless row (take (suc i) ids) ≡ one (is_none (row id))
  rowless_more = total-take (λ x. one (is_none (row x))) ids i h ∙ omega (arith, m.all_rows)

  sent_more : (k : ℕ) → k < count → sent row (take (suc i) ids) k ≡ one (has now k) + one (is_row k (row id))
  sent_more k l = total-take (λ x. one (is_row k (row x))) ids i h ∙ omega (arith, m.each k l)

  -- no mark past the needed ones changes
  still_past : (o : Option ℕ) → row id ≡ o → drop (words_for count) (with_row o now) ≡ drop (words_for count) marks
  still_past none e = m.past
  still_past (some r) e = let b = below id r e in put_drop (with_put now r) (words_for count) (omega arith) ∙ m.past

  -- a new row is marked
  pub marking_more : (told : Bool) (after : List ℕ) → words_for count ≤ length now → Marked (row id) now told after → told ≡ true
      → Marking row count marks (take (i + 1) ids) after
  marking_more told after room d t = rw (add-one i, d.marks_are) (go (row id) refl (sym d.new ∙ t))
    where
      go : (o : Option ℕ) → row id ≡ o → is_new o now ≡ true → Marking row count marks (take (suc i) ids) (with_row o now)
      go none e q = absurd (false≢true q)
      go (some r) e q =
          let b = below id r e in
          record {
            all_rows = rowless_more ∙ ap (λ (o : Option ℕ). one (is_none o)) e;
            each = λ k l.
                ap one (with_has now r (omega arith) k) ∙ added now r k (not-true (has now r) q)
                ∙ sym (sent_more k l ∙ ap (λ (o : Option ℕ). one (has now k) + one (is_row k o)) e);
            past = still_past (some r) e;
          }

  -- no row, or a row that is marked: the ids are not apart
  pub marking_ends : (told : Bool) (after : List ℕ) → Marked (row id) now told after → told ≡ false → Checked row ids count marks false after
  marking_ends told after d t = record {
    are_apart = sym (not_apart row ids count (λ a. let k = apart_known row ids count a in go k.0 k.1 (row id) refl (sym d.new ∙ t)));
    past = rw d.marks_are (still_past (row id) refl);
  }
    where
      go : rowless row ids ≡ 0 → ((k : ℕ) → k < count → sent row ids k ≤ 1) → (o : Option ℕ) → row id ≡ o → is_new o now ≡ false → ⊥
      go z f none e q =
          omega (arith, passed_le (λ x. one (is_none (row x))) ids (suc i), rowless_more, ap (λ (o : Option ℕ). one (is_none o)) e)
      go z f (some r) e q =
          let b = below id r e in
          omega (
            arith,
            f r b,
            passed_le (λ x. one (is_row r (row x))) ids (suc i),
            sent_more r b,
            ap (λ (o : Option ℕ). one (is_row r o)) e,
            ap one (eq-eqb r r refl),
            ap one (not-false (has now r) q),
          )

-- all ids are passed: they are apart
pub marking_all : (row : ℕ → Option ℕ) (count : ℕ) (marks ids now : List ℕ) (i : ℕ) → i ≡ length ids → Marking row count marks (take i ids) now
    → Checked row ids count marks true now
marking_all row count marks ids now i e m =
    let all : take i ids ≡ ids = rw e (take-length ids) in
    let k = rw all at m in
    record { are_apart = sym (apart_is row ids count k.all_rows (λ j l. omega (arith, k.each j l, go (has now j)))); past = m.past }
  where
    go : (t : Bool) → one t ≤ 1
    go true = omega arith
    go false = omega arith
