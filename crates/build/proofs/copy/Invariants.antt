-- The loop of `build::copy`: the first i ids stand at the front. Assumes nothing.
use mathlib.Core.Path.{◌≡◌}
use lib.ListN.{take}
use Rattle.laws.specs.Stores.{fronted}
use Rattle.build.proofs.copy.Given as goal

abbrev pub invariant-loop-i : goal.invariant-loop-i
invariant-loop-i l = l.rest ≡ fronted (take l.i l.ids) l.initial.rest
