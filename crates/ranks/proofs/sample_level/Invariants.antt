-- `ranks::sample_level` meets its contract. Assumes nothing.
use Rattle.ranks.proofs.Samples.{Sampling}
use Rattle.ranks.proofs.sample_level.Given as goal

abbrev pub invariant-loop-j : goal.invariant-loop-j
invariant-loop-j l = let it = l.j-iterator in Sampling l.before l.words l.initial.samples it.count it.iter.rest.now it.iter.size l.ones l.samples
