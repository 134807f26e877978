-- `bitvector::steps::count_sparse` meets its contract. Assumes nothing.
use Prim.Native.Nat.{ℕ, ◌+◌, ◌*◌}
use native.Mathlib.Omega.{arith}
use lib.ListN.{length}
use Rattle.laws.specs.Bits.{has}
use Rattle.laws.proofs.Sums.{rank-le}
use Rattle.bitvector.proofs.Sizes.{none_there}
use Rattle.bitvector.proofs.Fronts.{group_at, grouped, past_groups}
use Rattle.bitvector.proofs.steps.count_sparse.Goals as goal
use Rattle.bitvector.proofs.steps.count_sparse.Goals.{then-any_bit, else-any_bit}

pub overflow_add-count : goal.overflow_add-count
overflow_add-count c =
    let ws = c.args.words.now in
    let g : ℕ = c.loop-group.group-index in
    omega (arith, grouped (group_at ws c.as_chunks.ensures.front g (omega arith)), c.count_bits-count.ensures, rank-le (has ws) (64 * ((g + 1) * 8)))

pub loop-group-preserved : goal.loop-group-preserved
loop-group-preserved c =
    let more = grouped (group_at c.args.words.now c.as_chunks.ensures.front c.loop-group.group-index (omega arith)) in
    elim c.if-any_bit.branch [
      | then-any_bit w ↦ omega (arith, more, w.count_bits-count.ensures)
      | else-any_bit w ↦ omega (arith, more, none_there _ c.any_bit.ensures w.if-any_bit.false)
    ]

pub overflow_add-result : goal.overflow_add-result
overflow_add-result c =
    let ws = c.args.words.now in
    omega (arith, past_groups ws c.as_chunks.ensures.back c.loop-group.group-index (omega arith), c.count_bits.ensures, rank-le (has ws) (64 * length ws))

pub returns : goal.returns
returns c = omega (arith, past_groups c.args.words.now c.as_chunks.ensures.back c.loop-group.group-index (omega arith), c.count_bits.ensures)
