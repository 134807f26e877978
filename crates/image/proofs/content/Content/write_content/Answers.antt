-- `image::content::Content::write_content` meets its contract: the first k words of the content are written. Assumes nothing.
use mathlib.Core.Path.{◌≡◌}
use native.Mathlib.Omega.{arith}
use Rattle.block.specs.Block.{block_content}
use Rattle.image.proofs.BlockSteps.{contented_none, contented_more, contented_all}
use Rattle.image.proofs.content.Content.write_content.Goals as goal

pub loop-k-init : goal.loop-k-init
loop-k-init c = contented_none _ _ _ _ c.check_step-check.ensures

pub loop-k-preserved : goal.loop-k-preserved
loop-k-preserved c =
    let l = c.loop-k in
    contented_more _ _ _ c.requires l.k _ _ _ _ _ (omega arith) l.invariant c.word-word.ensures c.put_word.ensures c.check_step-check-in-loop-k.ensures

pub returns : goal.returns
returns c = let l = c.loop-k in let e : l.k ≡ block_content = omega arith in contented_all _ _ _ _ _ (rw e at l.invariant)
