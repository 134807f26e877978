-- `bitvector::new` meets its contract. Assumes nothing.
use mathlib.Core.Path.{ap}
use Rattle.refusal.specs.Answers.{answered}
use Rattle.bitvector.proofs.Fills.{emptied}
use Rattle.bitvector.proofs.new.Goals as goal

pub returns : goal.returns
returns c = rw (c.in_ok-check_room.ensures.roomy, c.fill.ensures, c.u64s.ensures) (ap (answered 0) (emptied _ _))
