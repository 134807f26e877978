use Rattle.lookup_cases.proofs.Heads.{numbers_after}
use Rattle.lookup_cases.proofs.head.Goals as goal

pub returns : goal.returns
returns c = numbers_after c.args.ids c.args.sizes.now c.copy_from_slice.new.self c.copy_from_slice.ensures.after
