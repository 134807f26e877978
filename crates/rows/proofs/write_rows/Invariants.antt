-- `rows::write_rows` meets its contract: the ids that are left, written from here on, give the whole. Assumes nothing.
use mathlib.Core.Path.{◌≡◌}
use lib.ListN.{drop}
use Rattle.rows.specs.Passes.{row_by, with_ids}
use Rattle.rows.proofs.write_rows.Given as goal

abbrev pub invariant-loop-id : goal.invariant-loop-id
invariant-loop-id l = with_ids (row_by l.index) (drop l.id-index l.ids) l.rows ≡ with_ids (row_by l.index) l.ids l.initial.rows
