-- `Head::measure` meets its contract: the loop walks over the used sizes. Assumes nothing.
use Rattle.head.proofs.Fits.{Walk}
use Rattle.head.proofs.Head.measure.Given as goal

abbrev pub invariant-loop-size : goal.invariant-loop-size
invariant-loop-size l = Walk l.self.sizes l.size-index l.words l.sampled
