-- `block::content_at` meets its contract. Assumes nothing.
use Rattle.block.specs.Block.{content_at}
use Rattle.block.proofs.content_at.Goals as goal

pub returns : goal.returns
unfolding content_at
returns c = c.word_at.ensures
