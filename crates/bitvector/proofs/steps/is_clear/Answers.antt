-- `bitvector::steps::is_clear` meets its contract. Assumes nothing.
use mathlib.Core.Path.{◌≡◌, sym, ap, ◌∙◌}
use Prim.Native.Nat.{ℕ, ◌*◌}
use native.Mathlib.Omega.{arith}
use borrow.Author.Tests.{eq-eqb}
use lib.ListN.{length}
use Rattle.laws.specs.Counting.{rank}
use Rattle.laws.specs.Bits.{has}
use Rattle.bitvector.proofs.Sizes.{one_found, none_yet}
use Rattle.bitvector.proofs.steps.is_clear.Goals as goal

pub returns-then-word-ne0 : goal.returns-then-word-ne0
returns-then-word-ne0 c = sym (one_found _ (λ i. (c.type_inv.words i).fits) c.loop-word.word-index (omega arith) c.if-word-ne0.true)

pub loop-word-preserved : goal.loop-word-preserved
loop-word-preserved c = none_yet _ (λ i. (c.type_inv.words i).fits) c.loop-word.word-index c.loop-word.invariant (omega arith)

pub returns : goal.returns
returns c =
    let ws = c.args.words.now in
    let e : length ws ≡ c.loop-word.word-index = omega arith in
    sym (eq-eqb _ 0 (ap (λ (k : ℕ). rank (has ws) (64 * k)) e ∙ c.loop-word.invariant))
