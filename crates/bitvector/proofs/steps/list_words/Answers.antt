-- `bitvector::steps::list_words` meets its contract. Assumes nothing.
use Prim.Native.Nat.{ℕ, ◌+◌, ◌*◌}
use native.Mathlib.Omega.{arith}
use lib.ListN.{length}
use Rattle.laws.specs.Counting.{one}
use Rattle.laws.specs.Bits.{has}
use Rattle.laws.proofs.Sums.{sum_mono}
use Rattle.laws.proofs.Ones.{rank_next}
use Rattle.bitvector.proofs.Rising.{part_none, part_turn}
use Rattle.bitvector.proofs.steps.list_words.Goals as goal

pub loop-i-init : goal.loop-i-init
loop-i-init c = part_none _ _ _ _

pub list_word-next-requires : goal.list_word-next-requires
list_word-next-requires c =
    let ws = c.args.words.now in
    let i : ℕ = c.loop-i.i in
    let all = sum_mono (λ p. one (has ws p)) {m = 64 * (i + 1)} {n = 64 * length ws} (omega arith) in
    (omega arith, omega (arith, all, rank_next ws (λ j. (c.type_inv.words j).fits) i))

pub loop-i-preserved : goal.loop-i-preserved
loop-i-preserved c = part_turn _ _ _ _ (λ j. (c.type_inv.words j).fits) c.loop-i.i c.loop-i.invariant c.list_word-next.ensures
