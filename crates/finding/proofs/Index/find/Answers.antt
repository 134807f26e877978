-- `Index::find` meets its contract: no level before level i has the bit of the id. Assumes nothing.
use Rattle.std.proofs.Common.{arith, sym, ◌∙◌}
use Rattle.mixer.specs.Position.{position}
use Rattle.mixer.proofs.Positions.{position-lt}
use Rattle.head.proofs.Fits.{walk_more}
use Rattle.finding.proofs.Finds.{turn, spot_word, spot-sample, still_none, found_none, here_found}
use Rattle.finding.proofs.Index.find.Goals as goal

pub u64s-taken-requires : goal.u64s-taken-requires
u64s-taken-requires c = let t = turn _ _ _ _ _ _ _ _ c.args.self.now.fits (omega arith) c.loop-i.invariant.0 in omega (arith, t.size_is, t.most)

pub part-level-requires : goal.part-level-requires
part-level-requires c =
    let t = turn _ _ _ _ _ _ _ _ c.args.self.now.fits (omega arith) c.loop-i.invariant.0 in
    omega (arith, t.size_is, t.word_room, c.u64s-taken.ensures)

pub hashmod-position-requires : goal.hashmod-position-requires
hashmod-position-requires c = let t = turn _ _ _ _ _ _ _ _ c.args.self.now.fits (omega arith) c.loop-i.invariant.0 in omega (arith, t.size_is, t.most)

pub samples-ranked-requires : goal.samples-ranked-requires
samples-ranked-requires c =
    let t = turn _ _ _ _ _ _ _ _ c.args.self.now.fits (omega arith) c.loop-i.invariant.0 in
    omega (arith, t.size_is, t.most, c.u64s-taken.ensures)

pub has_bit-requires : goal.has_bit-requires
has_bit-requires c =
    let t = turn _ _ _ _ _ _ _ _ c.args.self.now.fits (omega arith) c.loop-i.invariant.0 in
    rw (c.hashmod-position.ensures, t.size_is) (spot_word _ _ _ _ _ _ _ t _ (position-lt _ _ _ _ (omega (arith, t.least))) _
    (rw (c.u64s-taken.ensures, t.size_is) at c.part-level.ensures))

pub part-samples-requires : goal.part-samples-requires
part-samples-requires c =
    let t = turn _ _ _ _ _ _ _ _ c.args.self.now.fits (omega arith) c.loop-i.invariant.0 in
    omega (arith, t.size_is, t.sample_room, c.u64s-taken.ensures, c.samples-ranked.ensures)

pub row_at-requires-clause-word_there : goal.row_at-requires-clause-word_there
row_at-requires-clause-word_there c =
    let t = turn _ _ _ _ _ _ _ _ c.args.self.now.fits (omega arith) c.loop-i.invariant.0 in
    rw (c.hashmod-position.ensures, t.size_is) (spot_word _ _ _ _ _ _ _ t _ (position-lt _ _ _ _ (omega (arith, t.least))) _
    (rw (c.u64s-taken.ensures, t.size_is) at c.part-level.ensures))

pub row_at-requires-clause-sample_there : goal.row_at-requires-clause-sample_there
row_at-requires-clause-sample_there c =
    let t = turn _ _ _ _ _ _ _ _ c.args.self.now.fits (omega arith) c.loop-i.invariant.0 in
    rw (c.hashmod-position.ensures, t.size_is) (spot-sample _ _ _ _ _ _ _ t _ (position-lt _ _ _ _ (omega (arith, t.least))) _
    (rw (c.samples-ranked.ensures, c.u64s-taken.ensures, t.size_is) at c.part-samples.ensures))

pub returns-then-has_bit : goal.returns-then-has_bit
returns-then-has_bit c =
    let t = turn _ _ _ _ _ _ _ _ c.args.self.now.fits (omega arith) c.loop-i.invariant.0 in
    c.row_at.ensures
    ∙ here_found (position c.args.self.now.kind) _ _ _ _ _ c.args.id _ _ _ t _ _
    (rw (c.u64s-taken.ensures, t.size_is) at c.part-level.ensures)
    (rw t.size_is at c.hashmod-position.ensures)
    _
    c.has_bit.ensures
    c.if-has_bit.true
    c.loop-i.invariant.1
    _
    (rw (c.samples-ranked.ensures, c.u64s-taken.ensures, t.size_is) at c.part-samples.ensures)

pub loop-i-preserved : goal.loop-i-preserved
loop-i-preserved c =
    let w = c.loop-i.invariant.0 in
    let t = turn _ _ _ _ _ _ _ _ c.args.self.now.fits (omega arith) w in (
      walk_more _ _ _ _ _ _ w t.least t.most (rw t.size_is at c.u64s-taken.ensures) (rw (c.u64s-taken.ensures, t.size_is) at c.samples-ranked.ensures),
      still_none (position c.args.self.now.kind) c.args.self.now.head.now.count _ _ _ _ c.args.id _ _ _ t _ _
          (rw (c.u64s-taken.ensures, t.size_is) at c.part-level.ensures)
          (rw t.size_is at c.hashmod-position.ensures)
          _
          c.has_bit.ensures
          c.if-has_bit.false
          c.loop-i.invariant.1,
    )

pub returns : goal.returns
returns c = sym (found_none (position c.args.self.now.kind) _ _ _ _ c.args.id _ (λ m h. c.loop-i.invariant.1 m (omega (arith, h))))
