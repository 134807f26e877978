-- `level::place` meets its contract. Assumes nothing.
use native.Mathlib.Omega.{arith}
use lib.ListN.{length}
use lib.Seq.{take_all}
use Rattle.laws.specs.Bits.{Words}
use Rattle.mixer.proofs.Positions.{position-lt}
use Rattle.level.specs.Level.{mark_stores}
use Rattle.level.proofs.Placing.{placed}
use Rattle.level.proofs.place.Goals as goal

pub returns : goal.returns
returns c =
    let s = c.args.level in
    let ids = c.args.ids.now in
    let own : Words c.args.words.now = λ i. grind arith in
    let other : Words c.args.collide.now = λ i. grind arith in
    placed _ _ (λ id. position-lt s.kind s.number s.size id s.positive) (mark_stores _ _)
    (record {
      room = c.requires.0;
      own_clear = c.requires.1;
      other_clear = c.requires.2;
      own_words_lem = own;
      other_words = other;
    })
    _ _ (rw (take_all (length ids) ids (omega arith)) c.mark.ensures) c.filter.ensures
