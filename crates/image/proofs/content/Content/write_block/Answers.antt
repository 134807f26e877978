-- `image::content::Content::write_block` meets its contract. Assumes nothing.
use Rattle.image.proofs.BlockSteps.{block_written}
use Rattle.image.proofs.content.Content.write_block.Goals as goal

pub returns : goal.returns
returns c = block_written _ _ _ c.requires _ _ _ _ c.put_word.ensures c.write_content-check.ensures c.put_word-2.ensures
