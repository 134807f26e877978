-- One more id is copied by `build::copy`: it stands behind the first i. Assumes nothing.
use mathlib.Core.List.{List, ◌∷◌, [], ◌++◌}
use mathlib.Core.Path.{◌≡◌}
use Prim.Native.Nat.{ℕ, ◌<◌}
use native.Mathlib.Numerals.{add-one}
use native.Mathlib.Omega.{arith}
use lib.ListN.{length, take, set}
use lib.Seq.{take-suc, length-take-le}
use Rattle.laws.specs.Stores.{fronted}
use Rattle.laws.proofs.Parts.{front_more}
use Rattle.build.proofs.copy.Goals as goal

copied : (front store : List ℕ) (i v : ℕ) {now : List ℕ} → length front ≡ i → i < length store → now ≡ fronted front store
    → set now i v ≡ fronted (front ++ (v ∷ [])) store
copied front store i v l h e = rw (e, ← l) (front_more front store v (omega arith))

pub loop-i-preserved : goal.loop-i-preserved
loop-i-preserved c =
    let l = c.loop-i in
    let ids = c.args.ids.now in
    rw (add-one l.i, take-suc ids l.i 0 (omega arith)) (copied (take l.i ids) _ l.i _ (length-take-le l.i ids (omega arith)) (omega arith) l.invariant)
