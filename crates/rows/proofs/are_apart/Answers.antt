-- `rows::are_apart` meets its contract: the ids passed are apart, and the marks are their rows. Assumes nothing.
use native.Mathlib.Omega.{arith}
use Rattle.rows.proofs.Sent.{row_below}
use Rattle.rows.proofs.Marks.{marking_more, marking_ends, marking_all}
use Rattle.rows.proofs.are_apart.Goals as goal

pub returns-then-not-mark_row : goal.returns-then-not-mark_row
returns-then-not-mark_row c =
    let l = c.loop-id in
    marking_ends _ _ (row_below _) _ _ _ l.id-index (omega arith) l.invariant _ _ c.mark_row.ensures c.if-not-mark_row.true

pub loop-id-preserved : goal.loop-id-preserved
loop-id-preserved c =
    let l = c.loop-id in
    marking_more _ _ (row_below _) _ _ _ l.id-index (omega arith) l.invariant _ _ (omega arith) c.mark_row.ensures c.if-not-mark_row.false

pub returns : goal.returns
returns c = marking_all _ _ _ _ _ c.loop-id.id-index (omega arith) c.loop-id.invariant
