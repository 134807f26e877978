-- `block::word_at` meets its contract: the chunk stands for the word. Assumes nothing.
use Rattle.std.proofs.Common.{arith, ◌∙◌}
use Rattle.block.proofs.Bytewise.{chunk_word}
use Rattle.block.proofs.word_at.Goals as goal

pub returns : goal.returns
returns c = c.from_le_bytes.ensures ∙ chunk_word _ _ _ c.as_chunks.ensures.front _ _ (omega arith)
