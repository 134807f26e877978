-- `rows::rows` meets its contract. Assumes nothing.
use mathlib.Core.Path.{refl, ◌∙◌}
use native.Mathlib.Omega.{arith}
use Rattle.rows.proofs.RowCalls.{rows_short, marks_short, stores-fit}
use Rattle.rows.proofs.rows.Goals.{then-rows-head-via-then-rows-head, then-rows-head-via-else-rows-head+then-marks-u64s}
use Rattle.rows.proofs.rows.Goals as goal

pub returns-then-rows-head : goal.returns-then-rows-head
returns-then-rows-head c =
    let (k, h, w, s) = c.in_ok-index.ensures.ok in
    elim c.then-rows-head.branch [
      | then-rows-head-via-then-rows-head w ↦ rows_short _ _ _ _ _ _ _ k (omega (arith, w.if-rows-head))
      | then-rows-head-via-else-rows-head+then-marks-u64s w ↦ marks_short _ _ _ _ _ _ _ k (omega (arith, w.if-rows-head)) (omega (arith, w.u64s.ensures, w.if-marks-u64s))
    ]

pub returns : goal.returns
returns c =
    let (k, h, w, s) = c.in_ok-index.ensures.ok in
    c.list_rows.ensures ∙ stores-fit _ _ _ _ _ _ _ k c.in_ok-index.index refl h w s (omega arith) (omega (arith, c.u64s.ensures))
