-- `bitvector::steps::list_word` meets its contract. Assumes nothing.
use mathlib.Core.Path.{sym, ap, ◌∙◌}
use native.Mathlib.Numerals.{add-one}
use native.Mathlib.Omega.{arith}
use lib.Seq.{sets}
use Rattle.laws.proofs.Digits.{ones-zero}
use Rattle.bitvector.specs.Steps.{numbers_in}
use Rattle.bitvector.proofs.Rising.{numbers_pop, numbers_zero, turn}
use Rattle.bitvector.proofs.steps.list_word.Goals as goal

pub bounds-out-next : goal.bounds-out-next
bounds-out-next c = let t = turn c.loop-rest.rest (omega arith) c.loop-rest-test.true in omega arith

pub loop-rest-preserved : goal.loop-rest-preserved
loop-rest-preserved c =
    let l = c.loop-rest in
    let t = turn l.rest (omega arith) c.loop-rest-test.true in
    rw (t.cleared, add-one l.next)
    (record {
      told = omega arith;
      store = sym (ap (sets l.out l.next) (numbers_pop _ _ (omega arith) c.loop-rest-test.true)) ∙ l.invariant.store;
    })

pub returns : goal.returns
returns c =
    let l = c.loop-rest in
    let z = c.loop-rest-test.false in
    record {
      told = omega (arith, ones-zero l.rest z);
      store = sym (ap (sets l.out l.next) (ap (numbers_in _) z ∙ numbers_zero _)) ∙ l.invariant.store;
    }
