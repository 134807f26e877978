-- `bitvector::is_empty` meets its contract. Assumes nothing.
use mathlib.Core.Path.{ap, ◌∙◌}
use Prim.Native.Nat.{ℕ}
use lib.Dec.{eqb}
use Rattle.bitvector.proofs.Fronts.{front_rank}
use Rattle.bitvector.proofs.Sizes.{all_clear}
use Rattle.bitvector.proofs.is_empty.Goals as goal

pub returns : goal.returns
returns c =
    let n = c.needed.ensures in
    all_clear _ _ c.in_ok-check_sound.ensures.sound _ (c.is_clear.ensures ∙ ap (λ (k : ℕ). eqb k 0) (front_rank _ _ n.front n.count))
