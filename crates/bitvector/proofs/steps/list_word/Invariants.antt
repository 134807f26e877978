-- `bitvector::steps::list_word` meets its contract: what is listed so far, and what the digits that are left will add. Assumes nothing.
use mathlib.Core.Path.{◌≡◌}
use Prim.Native.Nat.{◌+◌}
use lib.Count.{ones}
use lib.Seq.{sets}
use Rattle.bitvector.specs.Steps.{numbers_in}
use Rattle.bitvector.proofs.steps.list_word.Given as goal

abbrev pub invariant-loop-rest : goal.invariant-loop-rest
invariant-loop-rest l = record {
  told : l.next + ones l.rest ≡ l.place + ones l.word;
  store : sets l.out l.next (numbers_in l.base l.rest) ≡ sets l.initial.out l.place (numbers_in l.base l.word);
}

abbrev pub decreases-loop-rest : goal.decreases-loop-rest
decreases-loop-rest l = l.rest
