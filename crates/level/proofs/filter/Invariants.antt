-- The loop of `level::filter`: the ids before `i` are filtered. Assumes nothing.
use Rattle.mixer.specs.Position.{position}
use Rattle.level.specs.Level.{Filtered}
use Rattle.level.proofs.filter.Given as goal

abbrev pub invariant-loop-i : goal.invariant-loop-i
invariant-loop-i l =
    Filtered (position l.level.kind l.level.number l.level.size) l.collide l.i l.initial.words l.initial.ids l.kept l.words l.ids
