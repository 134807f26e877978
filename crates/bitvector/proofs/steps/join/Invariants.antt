-- `bitvector::steps::join` meets its contract: the words so far are joined. Assumes nothing.
use Rattle.bitvector.specs.Steps.{Joined}
use Rattle.bitvector.proofs.steps.join.Given as goal

abbrev pub invariant-loop-i : goal.invariant-loop-i
invariant-loop-i l = Joined l.i l.initial.words l.other l.new l.words
