-- `level::Level::position` meets its contract. Assumes nothing.
use Rattle.mixer.proofs.Positions.{position-lt}
use Rattle.level.proofs.Level.position.Goals as goal

pub returns-clause-below : goal.returns-clause-below
returns-clause-below c = let s = c.args.self in rw c.hashmod.ensures (position-lt s.kind s.number s.size c.args.id s.positive)
