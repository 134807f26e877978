-- `image::content::Content::write_blocks` meets its contract: the first b blocks are written. Assumes nothing.
use native.Mathlib.Omega.{arith}
use Rattle.image.proofs.BlockSteps.{blocks_none, blocks_more}
use Rattle.image.proofs.content.Content.write_blocks.Goals as goal

pub loop-b-init : goal.loop-b-init
loop-b-init c = blocks_none _ _

pub loop-b-preserved : goal.loop-b-preserved
loop-b-preserved c = let l = c.loop-b in blocks_more _ _ l.b _ l.invariant _ (omega (arith, c.requires)) c.write_block.ensures
