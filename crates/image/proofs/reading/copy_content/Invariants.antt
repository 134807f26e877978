-- `image::reading::copy_content` meets its contract: the first i places are copied. Assumes nothing.
use mathlib.Core.Path.{◌≡◌}
use Rattle.laws.specs.Stores.{fronted}
use Rattle.image.specs.Image.{content_from}
use Rattle.image.proofs.reading.copy_content.Given as goal

abbrev pub invariant-loop-i : goal.invariant-loop-i
invariant-loop-i l = l.place-items ≡ fronted (content_from l.image l.from l.i) l.initial.place-items
