-- `bitvector::steps::list_bits` meets its contract. Assumes nothing.
use mathlib.Core.Path.{◌≡◌}
use mathlib.Core.List.{[]}
use Prim.Native.Nat.{ℕ, ◌+◌, ◌*◌, ◌/◌}
use native.Mathlib.Omega.{arith}
use lib.ListN.{length, get_or}
use Rattle.laws.specs.Counting.{one}
use Rattle.laws.specs.Bits.{has}
use Rattle.laws.proofs.Sums.{sum_mono}
use Rattle.bitvector.proofs.Sizes.{none_there}
use Rattle.bitvector.proofs.Fronts.{part_rank, group_at, grouped, rest_part, past_groups}
use Rattle.bitvector.proofs.Rising.{front_length, part_span, front_on, front_over}
use Rattle.bitvector.proofs.steps.list_bits.Goals as goal
use Rattle.bitvector.proofs.steps.list_bits.Goals.{then-any_bit, else-any_bit}

pub list_words-next-requires-clause-out_fits : goal.list_words-next-requires-clause-out_fits
list_words-next-requires-clause-out_fits c =
    let ws = c.args.words.now in
    let l = c.loop-g in
    let all = sum_mono (λ p. one (has ws p)) {m = 64 * ((l.g + 1) * 8)} {n = 64 * length ws} (omega arith) in
    omega (arith, all, grouped (group_at ws c.as_chunks.ensures.front l.g (omega arith)), l.invariant.told, front_length l.invariant)

pub loop-g-preserved : goal.loop-g-preserved
loop-g-preserved c =
    let l = c.loop-g in
    let x = group_at c.args.words.now c.as_chunks.ensures.front l.g (omega arith) in
    let end : (l.g + 1) * 8 ≡ l.g * 8 + length (get_or c.as_chunks.result.0.now l.g []) = omega (arith, x.eight) in
    rw end
    (elim c.if-any_bit.branch [
      | then-any_bit w ↦ rw (w.next-is, w.out-is) (front_on _ _ _ _ _ _ (omega arith) l.invariant (part_span x.part w.list_words-next.ensures))
      | else-any_bit w ↦ rw (w.next-is, w.out-is) (front_over _ _ _ _ _ _ (omega arith) l.invariant (omega (arith, part_rank x.part, none_there _ c.any_bit.ensures w.if-any_bit.false)))
    ])

pub list_words-requires-clause-out_fits : goal.list_words-requires-clause-out_fits
list_words-requires-clause-out_fits c =
    let l = c.loop-g in
    omega (arith, past_groups c.args.words.now c.as_chunks.ensures.back l.g (omega arith), l.invariant.told, front_length l.invariant)

pub returns : goal.returns
returns c =
    let ws = c.args.words.now in
    let g : ℕ = c.loop-g.g in
    let all : length c.as_chunks.result.0.now ≡ g = omega arith in
    let past : length ws / 8 ≡ g = omega arith in
    let end : length ws ≡ g * 8 + length c.as_chunks.result.1.now = omega arith in
    rw end (front_on _ _ _ _ _ _ (omega arith) c.loop-g.invariant (part_span (rest_part ws (g * 8) (rw past at c.as_chunks.ensures.back)) (rw all at c.list_words.ensures)))
