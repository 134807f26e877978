-- `ranks::ones_from` meets its contract. Assumes nothing.
use mathlib.Core.Path.{◌≡◌, ap, ◌∙◌}
use Prim.Native.Nat.{ℕ, ◌+◌, ◌*◌}
use native.Mathlib.Omega.{arith}
use Rattle.laws.specs.Counting.{rank}
use Rattle.laws.specs.Bits.{has}
use Rattle.laws.proofs.Sums.{rank-le}
use Rattle.laws.proofs.Ones.{rank_next}
use Rattle.ranks.proofs.Ones.{counted_from, counted_own}
use Rattle.ranks.proofs.ones_from.Goals as goal

pub overflow_add-ones : goal.overflow_add-ones
overflow_add-ones c =
    let i : ℕ = c.loop-i.i in
    let ws = c.args.words.now in
    omega (arith, rank_next ws (λ j. (c.type_inv.words j).fits) i, rank-le (has ws) (64 * (i + 1)))

pub loop-i-preserved : goal.loop-i-preserved
loop-i-preserved c =
    let ws = c.args.words.now in
    (c.loop-i.invariant.0, omega (arith, rank_next ws (λ j. (c.type_inv.words j).fits) c.loop-i.i))

pub overflow_add-ones-then-below-gt0 : goal.overflow_add-ones-then-below-gt0
overflow_add-ones-then-below-gt0 c =
    let a = c.args in
    let l = c.loop-i in
    omega (arith, counted_own a.words.now a.position l.i _ _ (omega arith) l.invariant.1, rank-le (has a.words.now) a.position)

pub returns-then-below-gt0 : goal.returns-then-below-gt0
returns-then-below-gt0 c =
    let l = c.loop-i in
    counted_from _ _ _ _ l.invariant.0 (counted_own _ _ l.i _ _ (omega arith) l.invariant.1)

pub returns-else-below-gt0 : goal.returns-else-below-gt0
returns-else-below-gt0 c =
    let a = c.args in
    let l = c.loop-i in
    let e : 64 * l.i ≡ a.position = omega arith in
    counted_from _ _ _ _ l.invariant.0 (l.invariant.1 ∙ ap (rank (has a.words.now)) e)
