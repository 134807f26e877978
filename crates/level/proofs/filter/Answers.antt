-- `level::filter` meets its contract. Assumes nothing.
use native.Mathlib.Omega.{arith}
use Rattle.level.proofs.Filtering.{kept_le, filter_out, filter_in}
use Rattle.level.proofs.filter.Goals.{then-filter_one, else-filter_one}
use Rattle.level.proofs.filter.Goals as goal

pub bounds-ids-kept : goal.bounds-ids-kept
bounds-ids-kept c = omega (arith, kept_le c.loop-i.invariant (omega arith))

pub loop-i-preserved : goal.loop-i-preserved
loop-i-preserved c =
    let t = c.loop-i.invariant in
    let u = c.filter_one.ensures in
    elim c.if-filter_one.branch [
      | then-filter_one w ↦ rw (w.ids-is, w.kept-is) (filter_in t (omega arith) u w.if-filter_one.true)
      | else-filter_one w ↦ rw (w.ids-is, w.kept-is) (filter_out t (omega arith) u w.if-filter_one.false)
    ]
