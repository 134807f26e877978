-- `bitvector::steps::has_at_most` meets its contract. Assumes nothing.
use mathlib.Core.Path.{sym, ◌∙◌}
use Prim.Native.Nat.{◌*◌, ◌≤◌}
use native.Mathlib.Omega.{arith}
use borrow.Author.Tests.{le-leb}
use lib.ListN.{length}
use Rattle.laws.specs.Counting.{rank}
use Rattle.laws.specs.Bits.{has}
use Rattle.laws.proofs.Sums.{rank-le}
use Rattle.bitvector.proofs.steps.has_at_most.Goals as goal

pub returns-then-words-most : goal.returns-then-words-most
returns-then-words-most c =
    let ws = c.args.words.now in
    let few : rank (has ws) (64 * length ws) ≤ c.args.most = omega (arith, rank-le (has ws) (64 * length ws)) in
    le-leb _ _ c.if-words-most.true ∙ sym (le-leb _ _ few)
