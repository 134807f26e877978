-- `host::index::shawltide_rows` meets its contract. Assumes nothing.
use Rattle.host.proofs.Flats.{rows_unheaded, rows_headed}
use Rattle.host.proofs.index.shawltide_rows.Goals as goal

pub returns-in_default : goal.returns-in_default
returns-in_default c = rows_unheaded _ _ _ _ _ _ c.in_default.ensures c.refused.ensures

pub returns : goal.returns
returns c = rows_headed _ _ _ _ _ _ _ c.in-Some.ensures c.number.ensures c.rows.ensures
