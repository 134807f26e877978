-- `rows::list_rows` meets its contract. Assumes nothing.
use mathlib.Core.Path.{sym, ap, ◌∙◌}
use lib.ListN.{drop}
use Rattle.laws.specs.Bits.{words_for}
use Rattle.rows.proofs.Sent.{row_below}
use Rattle.rows.proofs.RowCalls.{marks_clear, clears, clears_again, wrong_number, wrong_ids, right_ids}
use Rattle.rows.proofs.list_rows.Goals as goal

pub returns-then-ids-index : goal.returns-then-ids-index
returns-then-ids-index c = wrong_number _ _ _ _ _ _ (clears _ _ _ _ c.u64s-need.ensures c.fill.ensures) c.if-ids-index.true

pub are_apart-apart-requires-clause-unmarked : goal.are_apart-apart-requires-clause-unmarked
are_apart-apart-requires-clause-unmarked c = rw (clears _ _ _ _ c.u64s-need.ensures c.fill.ensures) (marks_clear _ _)

-- the needed marks are cleared, and cleared again after the first pass
pub returns-then-not-apart : goal.returns-then-not-apart
returns-then-not-apart c =
    let once = clears _ _ _ _ c.u64s-need.ensures c.fill.ensures in
    let again = clears_again _ _ _ _ _ c.u64s-need.ensures (c.are_apart-apart.ensures.past ∙ ap (drop (words_for c.args.index.now.head.now.count)) once) c.fill-2.ensures in
    wrong_ids _ _ _ _ _ _ again c.if-ids-index.false (sym c.are_apart-apart.ensures.are_apart ∙ c.if-not-apart.true)

pub returns : goal.returns
returns c =
    let once = clears _ _ _ _ c.u64s-need.ensures c.fill.ensures in
    let again = clears_again _ _ _ _ _ c.u64s-need.ensures (c.are_apart-apart.ensures.past ∙ ap (drop (words_for c.args.index.now.head.now.count)) once) c.fill-2.ensures in
    right_ids _ _ _ _ _ _ again (row_below _) c.requires.rows_fit c.if-ids-index.false
    (sym c.are_apart-apart.ensures.are_apart ∙ c.if-not-apart.false) _ c.write_rows.ensures
