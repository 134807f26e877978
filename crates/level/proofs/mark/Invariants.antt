-- The loop of `level::mark`: the ids so far are marked. Assumes nothing.
use mathlib.Core.Path.{◌≡◌}
use lib.ListN.{take}
use Rattle.mixer.specs.Position.{position}
use Rattle.level.specs.Level.{mark_stores, mark_all}
use Rattle.level.proofs.mark.Given as goal

abbrev pub invariant-loop-id : goal.invariant-loop-id
invariant-loop-id l =
    mark_stores l.words l.collide
    ≡ mark_all (position l.level.kind l.level.number l.level.size) (mark_stores l.initial.words l.initial.collide) (take l.id-index l.ids)
