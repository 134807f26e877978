-- The ones of a list of words, word by word, are the numbers of its set bits; and those of a part, of the bits that it holds. Assumes nothing.
use mathlib.Core.Path.{◌≡◌, refl, sym, ap, ◌∙◌}
use mathlib.Core.List.{List, ◌++◌}
use Prim.Native.Nat.{ℕ, zero, suc, ◌+◌, ◌-◌, ◌*◌, ◌/◌, ◌%◌, ◌^◌, ◌≤◌, ◌<◌}
use native.Mathlib.Numerals.{add-one}
use native.Mathlib.Omega.{arith}
use lib.Count.{ones}
use lib.ListN.{length, take, drop, length-take, length-drop, take-append-drop}
use lib.Seq.{take_all, get_or-drop}
use Rattle.std.specs.List.{sum_by}
use Rattle.std.proofs.lemmas.List.Sums.{sum_by_more}
use Rattle.laws.specs.Counting.{one, rank}
use Rattle.laws.specs.Bits.{has, bit_at, Words}
use Rattle.laws.proofs.Ones.{rank_next}
use Rattle.laws.proofs.Sums.{rank-le, rank_same, sum_split}
use Rattle.laws.proofs.Words.{has-append}

ones_to : (ws : List ℕ) → Words ws → (i : ℕ) → i ≤ length ws → sum_by ones (take i ws) ≡ rank (has ws) (64 * i)
ones_to ws f zero h = refl
ones_to ws f (suc i) h = rw (← add-one i) (omega (arith, ones_to ws f i (omega arith), sum_by_more ones ws i 0 (omega arith), rank_next ws f i))

module _ (ws : List ℕ) (f : Words ws) where
  pub ones_sum : sum_by ones ws ≡ rank (has ws) (64 * length ws)
  ones_sum = ap (sum_by ones) (sym (take_all (length ws) ws (omega arith))) ∙ ones_to ws f (length ws) (omega arith)

  pub ones_fit : 64 * length ws < 2 ^ 64 → sum_by ones ws < 2 ^ 64
  ones_fit h = omega (arith, ones_sum, rank-le (has ws) (64 * length ws))

-- ---- a part of the words

has-drop : (ws : List ℕ) (s b : ℕ) → has (drop s ws) b ≡ has ws (64 * s + b)
unfolding has bit_at
has-drop ws s b =
    let i : s + b / 64 ≡ (64 * s + b) / 64 = omega arith in
    let k : b % 64 ≡ (64 * s + b) % 64 = omega arith in
    rw (get_or-drop s ws (b / 64) 0, i, k)

-- the set bits before a part and those in it
pub rank_part : (ws : List ℕ) (s : ℕ) (part past : List ℕ) → drop s ws ≡ part ++ past
    → rank (has ws) (64 * s) + rank (has part) (64 * length part) ≡ rank (has ws) (64 * (s + length part))
rank_part ws s part past e =
    let n : 64 * (s + length part) ≡ 64 * s + 64 * length part = omega arith in
    omega (
      arith,
      ap (rank (has ws)) n,
      sum_split (λ b. one (has ws b)) (64 * s) (64 * length part),
      rank_same (has part) (λ b. has ws (64 * s + b)) (64 * length part)
          (λ b h. sym (has-append part past b (omega arith)) ∙ ap (λ (l : List ℕ). has l b) (sym e) ∙ has-drop ws s b),
    )

-- the words from one place up to another, as `&words[s..i]` has them
pub rank_between : (ws : List ℕ) (s i : ℕ) → s ≤ i → i ≤ length ws
    → rank (has ws) (64 * s) + rank (has (take (i - s) (drop s ws))) (64 * length (take (i - s) (drop s ws))) ≡ rank (has ws) (64 * i)
rank_between ws s i h l =
    let part : List ℕ = take (i - s) (drop s ws) in
    let e : s + length part ≡ i = simp (length-take, length-drop) (omega arith) in
    rank_part ws s part (drop (i - s) (drop s ws)) (sym (take-append-drop (i - s) (drop s ws))) ∙ ap (λ (n : ℕ). rank (has ws) (64 * n)) e
