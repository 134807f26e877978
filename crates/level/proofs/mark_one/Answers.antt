-- `level::mark_one` meets its contract. Assumes nothing.
use mathlib.Core.Path.{sym, ◌∙◌}
use Rattle.laws.proofs.Words.{with_old}
use Rattle.mixer.specs.Position.{position}
use Rattle.level.specs.Level.{mark_stores}
use Rattle.level.proofs.Marking.{mark_none, mark_again, mark_first}
use Rattle.level.proofs.mark_one.Goals.{else-not-has_bit-via-then-not-has_bit+else-add_bit, else-not-has_bit-via-else-not-has_bit}
use Rattle.level.proofs.mark_one.Goals as goal

pub returns-then-add_bit : goal.returns-then-add_bit
returns-then-add_bit c =
    let bit = c.position-bit.ensures.is in
    let e = sym c.has_bit.ensures ∙ c.if-not-has_bit.true in
    let f = sym c.add_bit.ensures.old ∙ c.if-add_bit.true in
    cc (mark_again (position _ _ _) (mark_stores _ _) _ (rw bit at e) (rw bit at f), with_old _ _ f)

pub returns-else-not-has_bit : goal.returns-else-not-has_bit
returns-else-not-has_bit c =
    let bit = c.position-bit.ensures.is in
    elim c.else-not-has_bit.branch [
      | else-not-has_bit-via-then-not-has_bit+else-add_bit w ↦
          let e = sym c.has_bit.ensures ∙ w.if-not-has_bit.true in
          let f = sym w.add_bit.ensures.old ∙ w.if-add_bit.false in
          cc (mark_first (position _ _ _) (mark_stores _ _) _ (rw bit at e) (rw bit at f))
      | else-not-has_bit-via-else-not-has_bit w ↦
          let e = sym c.has_bit.ensures ∙ w.if-not-has_bit.false in
          cc (mark_none (position _ _ _) (mark_stores _ _) _ (rw bit at e))
    ]
