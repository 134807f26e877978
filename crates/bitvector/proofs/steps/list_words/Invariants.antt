-- `bitvector::steps::list_words` meets its contract: the bits of the words so far are listed. Assumes nothing.
use Rattle.bitvector.specs.Steps.{PartListed}
use Rattle.bitvector.proofs.steps.list_words.Given as goal

abbrev pub invariant-loop-i : goal.invariant-loop-i
invariant-loop-i l = PartListed l.words l.i l.base l.place l.initial.out l.next l.out
