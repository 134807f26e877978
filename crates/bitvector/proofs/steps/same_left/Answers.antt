-- `bitvector::steps::same_left` meets its contract. Assumes nothing.
use mathlib.Core.Path.{◌≡◌, sym, ap, ◌∙◌}
use Prim.Native.Nat.{ℕ, ◌*◌, ◌/◌}
use native.Mathlib.Omega.{arith}
use borrow.Author.Tests.{eq-eqb}
use Rattle.laws.specs.Bits.{has}
use Rattle.bitvector.specs.Sets.{same_below}
use Rattle.bitvector.proofs.Agreement.{still_same, no_more, last_part}
use Rattle.bitvector.proofs.steps.same_left.Goals as goal

pub returns-then-words-i : goal.returns-then-words-i
returns-then-words-i c =
    let i : ℕ = c.loop-i.i in
    let hw = (c.type_inv.words i).fits in
    let hu = (c.type_inv.other i).fits in
    sym (no_more _ _ i hw hu c.args.bit (omega arith) c.loop-i.invariant c.if-words-i.true)

pub loop-i-preserved : goal.loop-i-preserved
loop-i-preserved c =
    let i : ℕ = c.loop-i.i in
    let hw = (c.type_inv.words i).fits in
    let hu = (c.type_inv.other i).fits in
    still_same _ _ i hw hu c.loop-i.invariant c.if-words-i.false

pub returns-then-part-eq0 : goal.returns-then-part-eq0
returns-then-part-eq0 c =
    let a = c.args in
    let e : a.bit ≡ 64 * c.loop-i.i = omega arith in
    eq-eqb _ _ c.if-part-eq0.true ∙ sym (ap (same_below (has a.words.now) (has a.other.now)) e ∙ c.loop-i.invariant)

pub returns-else-part-eq0 : goal.returns-else-part-eq0
returns-else-part-eq0 c =
    let a = c.args in
    let e : a.bit / 64 ≡ c.loop-i.i = omega arith in
    sym (last_part _ _ a.bit (ap (λ (k : ℕ). same_below (has a.words.now) (has a.other.now) (64 * k)) e ∙ c.loop-i.invariant))
