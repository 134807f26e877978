-- `image::content::Content::write_blocks` meets its contract: the first b blocks are written. Assumes nothing.
use mathlib.Core.Path.{◌≡◌}
use Rattle.image.specs.Steps.{content}
use Rattle.image.proofs.BlockSteps.{blocks_in}
use Rattle.image.proofs.content.Content.write_blocks.Given as goal

abbrev pub invariant-loop-b : goal.invariant-loop-b
invariant-loop-b l = l.image ≡ blocks_in (content l.self) l.initial.image l.b
