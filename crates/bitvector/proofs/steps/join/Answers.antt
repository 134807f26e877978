-- `bitvector::steps::join` meets its contract. Assumes nothing.
use mathlib.Core.Path.{refl}
use Prim.Native.Nat.{◌^◌, ◌<◌}
use native.Mathlib.Omega.{arith}
use lib.ListN.{get_or}
use Rattle.laws.specs.Bits.{packed}
use Rattle.bitvector.proofs.Joining.{join_turn}
use Rattle.bitvector.proofs.steps.join.Goals as goal

pub loop-i-init : goal.loop-i-init
unfolding packed
loop-i-init c = record { new = refl; words = refl }

pub loop-i-preserved : goal.loop-i-preserved
loop-i-preserved c =
    let l = c.loop-i in
    let hx : get_or l.words l.i 0 < 2 ^ 64 = omega arith in
    let hu = (c.type_inv.other l.i).fits in
    join_turn _ _ l.words l.i l.new (omega arith) l.invariant hx hu
