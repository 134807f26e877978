-- `build::check` meets its contract. Assumes nothing.
use Rattle.sizes.proofs.Sizes.{size_most}
use Rattle.build.proofs.check.Goals as goal

pub u64s-requires : goal.u64s-requires
u64s-requires c = rw c.size.ensures (size_most _ _ (record { above = cc; within = cc }) c.if-ids-gt-MAX_IDS.false)
