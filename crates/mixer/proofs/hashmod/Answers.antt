-- `mixer::hashmod` meets its contract. Assumes nothing.
use Rattle.mixer.specs.Position.{position}
use Rattle.mixer.proofs.hashmod.Goals as goal

pub returns : goal.returns
unfolding position
returns c = cc
