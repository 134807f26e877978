-- `bitvector::checks::check_sound` meets its contract. Assumes nothing.
use mathlib.Core.Path.{refl}
use native.Mathlib.Omega.{arith}
use borrow.Author.Tests.{eq-eqb, ne_eqb}
use Rattle.std.proofs.lemmas.Grind.{common_steps}
use Rattle.bitvector.specs.Calls.{sound}
use Rattle.bitvector.proofs.Soundness.{sound_whole, sound_part}
use Rattle.bitvector.proofs.checks.check_sound.Goals as goal
use Rattle.bitvector.proofs.checks.check_sound.Goals.{else-past-gt0-via-then-past-gt0+else-words-capacity-ne0, else-past-gt0-via-else-past-gt0}

pub returns-in_err-check_room : goal.returns-in_err-check_room
unfolding sound
returns-in_err-check_room c = grind (arith, common_steps)

pub returns-then-words-capacity-ne0 : goal.returns-then-words-capacity-ne0
returns-then-words-capacity-ne0 c =
    rw (sound_part _ _ c.in_ok-check_room.ensures.roomy (λ i. (c.type_inv.words i).fits) (omega arith), ne_eqb _ _ c.if-words-capacity-ne0.true)
    (record { answer = refl; sound = tt; room = tt })

pub returns : goal.returns
returns c =
    let r = c.in_ok-check_room.ensures in
    elim c.else-past-gt0.branch [
      | else-past-gt0-via-then-past-gt0+else-words-capacity-ne0 w ↦
          rw (sound_part _ _ r.roomy (λ i. (c.type_inv.words i).fits) (omega arith), eq-eqb _ _ w.if-words-capacity-ne0.false)
          (record { answer = refl; sound = refl; room = r.room })
      | else-past-gt0-via-else-past-gt0 w ↦ rw (sound_whole _ _ r.roomy (omega arith)) (record { answer = refl; sound = refl; room = r.room })
    ]
