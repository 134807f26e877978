-- `block::check_at` meets its contract: a fold over the words of the block. Assumes nothing.
use Rattle.std.proofs.Common.{rules, arith, ◌+◌, ◌*◌, ap, ◌∙◌, w64}
use Rattle.std.proofs.lemmas.Iterator.{YieldsList-from_slice, YieldsList-from_map}
use Rattle.std.proofs.lemmas.Iterator.Consumers.{fold_from_yields_List, YieldsList-from_copied}
use Rattle.std.specs.List.{between}
use Rattle.std.specs.Int.{from_le_bytes}
use Rattle.block.specs.Block.{check_place, check_step, check_of}
use Rattle.block.proofs.Bytewise.{chunk_words}
use Rattle.block.proofs.Checks.{check_fold}
use Rattle.block.proofs.check_at.Goals as goal

pub returns : goal.returns
returns c =
    let chunks = c.as_chunks.ensures in
    fold_from_yields_List _ check_step 0 _ c.fold.ensures.ran
    (YieldsList-from_map _ (from_le_bytes w64) (YieldsList-from_copied (YieldsList-from_slice (between (64 * c.args.b) (64 * c.args.b + check_place) c.as_chunks.result.0.now) (cc))) c.map.ensures.closure (λ x r q k. search rules))
    (λ a x b q k. search rules)
    ∙ check_fold 0 _
    ∙ ap check_of (chunk_words _ _ _ chunks.front (64 * c.args.b) check_place chunks.front_len (omega arith))
