-- `rows::are_apart` meets its contract: the ids passed are apart, and the marks are their rows. Assumes nothing.
use lib.ListN.{take}
use Rattle.rows.specs.Passes.{row_by}
use Rattle.rows.proofs.Marks.{Marking}
use Rattle.rows.proofs.are_apart.Given as goal

abbrev pub invariant-loop-id : goal.invariant-loop-id
invariant-loop-id l = Marking (row_by l.index) l.index.head.now.count l.initial.marks (take l.id-index l.ids) l.marks
