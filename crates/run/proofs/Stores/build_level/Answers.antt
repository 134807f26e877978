-- `run::Stores::build_level` meets its contract. Assumes nothing.
use native.Mathlib.Omega.{arith}
use Rattle.head.specs.Index.{positions}
use Rattle.sizes.proofs.Sizes.{size_least}
use Rattle.run.proofs.Turns.{size_small, words_short, samples_short, placeable, sampleable, placed}
use Rattle.run.proofs.Stores.build_level.Goals as goal
use Rattle.run.proofs.Stores.build_level.Goals.{then-word_room-taken-via-then-word_room-taken, then-word_room-taken-via-else-word_room-taken+then-sample_room-ranked}

pub u64s-taken-requires : goal.u64s-taken-requires
u64s-taken-requires c = size_small _ _ _ c.requires c.size-size.ensures

pub samples-ranked-requires : goal.samples-ranked-requires
samples-ranked-requires c = omega (arith, size_small _ _ _ c.requires c.size-size.ensures, c.u64s-taken.ensures)

pub returns-then-word_room-taken-clause-turn : goal.returns-then-word_room-taken-clause-turn
returns-then-word_room-taken-clause-turn c =
    elim c.then-word_room-taken.branch [
      | then-word_room-taken-via-then-word_room-taken w ↦
          words_short _ _ _ c.requires c.size-size.ensures c.u64s-taken.ensures c.samples-ranked.ensures (positions c.args.kind) w.if-word_room-taken.true
      | then-word_room-taken-via-else-word_room-taken+then-sample_room-ranked w ↦
          samples_short _ _ _ c.requires c.size-size.ensures c.u64s-taken.ensures c.samples-ranked.ensures (positions c.args.kind) w.if-sample_room-ranked.true
    ]

pub invariant_of-level : goal.invariant_of-level
invariant_of-level c = record {
  positive = omega (arith, c.size-size.ensures, size_least c.args.gamma c.args.at.remaining);
  bound = size_small _ _ _ c.requires c.size-size.ensures;
}

pub place_at-remaining-requires : goal.place_at-remaining-requires
place_at-remaining-requires c =
    placeable _ _ _ c.requires c.size-size.ensures c.u64s-taken.ensures c.samples-ranked.ensures (omega arith)

pub sample_at-set-requires : goal.sample_at-set-requires
sample_at-set-requires c =
    sampleable _ _ _ c.requires c.size-size.ensures c.u64s-taken.ensures c.samples-ranked.ensures (positions c.args.kind) (omega arith)
    (omega arith) c.place_at-remaining.ensures.placed

pub returns-clause-turn : goal.returns-clause-turn
returns-clause-turn c =
    placed _ _ _ c.requires c.size-size.ensures c.u64s-taken.ensures c.samples-ranked.ensures (positions c.args.kind) (omega arith)
    (omega arith) c.place_at-remaining.ensures.placed c.sample_at-set.ensures.sampled
