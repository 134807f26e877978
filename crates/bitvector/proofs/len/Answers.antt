-- `bitvector::len` meets its contract. Assumes nothing.
use mathlib.Core.Path.{◌∙◌}
use Rattle.bitvector.proofs.Fronts.{front_rank}
use Rattle.bitvector.proofs.Sizes.{all-counted}
use Rattle.bitvector.proofs.len.Goals as goal

pub returns : goal.returns
returns c =
    all-counted _ _ c.in_ok-check_sound.ensures.sound _
    (c.count_bits.ensures ∙ front_rank _ _ c.needed.ensures.front c.needed.ensures.count)
