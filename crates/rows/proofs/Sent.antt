-- The row of a number by an index is below the count. Assumes nothing.
use mathlib.Core.Path.{◌≡◌}
use mathlib.Core.Option.{some}
use Prim.Native.Nat.{ℕ, ◌<◌}
use Rattle.mixer.specs.Position.{position}
use Rattle.finding.specs.declared.Index.{Index}
use Rattle.finding.proofs.Told.{found_below}
use Rattle.rows.specs.Passes.{row_by}

pub row_below : (index : Index) (x r : ℕ) → row_by index x ≡ some r → r < index.head.now.count
unfolding row_by
row_below index x r e = found_below (position index.kind) _ _ _ _ x _ r e
