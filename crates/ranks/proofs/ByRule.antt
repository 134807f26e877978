-- The samples and ranks of a level's words are those of the level rule, for a reader of the same bits. Assumes nothing.
use mathlib.Core.Path.{◌≡◌, sym, ap, ◌∙◌}
use mathlib.Core.Bool.{Bool, false}
use mathlib.Core.List.{List}
use Prim.Native.Nat.{ℕ, suc, ◌+◌, ◌-◌, ◌*◌, ◌/◌, ◌%◌, ◌≤◌, ◌<◌}
use native.Mathlib.Omega.{arith}
use lib.ListN.{length, get_or}
use Rattle.bounds.specs.Bounds.{sample_bits}
use Rattle.laws.specs.Counting.{one, rank}
use Rattle.laws.specs.Bits.{has}
use Rattle.laws.proofs.Sums.{sum_split, rank_same, rank_none}
use Rattle.sizes.specs.Sizes.{samples_for}
use Rattle.rule.specs.Rule.{base, row_at, sample}
use Rattle.rule.proofs.Reader.{row_by_sample}
use Rattle.ranks.specs.Ranks.{set_bits, samples_of, ones_from}
use Rattle.ranks.proofs.Samples.{sample_at}

module _ (span : ℕ → ℕ) (bits : ℕ → ℕ → Bool) (i : ℕ) (ws : List ℕ) where
  -- the rule's sample at position / 512 and the ones from there on are the rule's row
  pub row_from_sample : (p : ℕ) → ((q : ℕ) → q < p → bits i q ≡ has ws q) → sample span bits i (p / sample_bits) + ones_from ws p ≡ row_at span bits i p
  unfolding ones_from
  row_from_sample p e =
      ap (λ (n : ℕ). sample span bits i (p / sample_bits) + n) (rank_same _ _ (p % sample_bits) (λ k h. sym (e (sample_bits * (p / sample_bits) + k) (omega arith))))
      ∙ sym (row_by_sample span bits i p)

  -- sample j of the words is the rule's
  pub sample_by_rule : (j : ℕ) → j < samples_for (length ws) → ((q : ℕ) → q < sample_bits * j → bits i q ≡ has ws q)
      → get_or (samples_of (base span bits i) ws) j 0 ≡ sample span bits i j
  sample_by_rule j h e =
      sample_at (base span bits i) ws (samples_for (length ws)) j h
      ∙ ap (λ (n : ℕ). base span bits i + n) (sym (rank_same (bits i) (has ws) (sample_bits * j) e))

  -- the set bits before the next level, where no bit past the level's size is set
  pub next_base : span i ≤ 64 * length ws → ((q : ℕ) → q < span i → bits i q ≡ has ws q)
      → ((q : ℕ) → span i ≤ q → q < 64 * length ws → has ws q ≡ false) → base span bits i + set_bits ws ≡ base span bits (suc i)
  unfolding set_bits
  next_base h e z =
      let s : ℕ = span i in
      let past : ℕ = 64 * length ws - s in
      let l : s + past ≡ 64 * length ws = omega arith in
      omega (
        arith,
        rank_same (bits i) (has ws) s e,
        ap (rank (has ws)) l,
        sum_split (λ q. one (has ws q)) s past,
        rank_none (λ k. has ws (s + k)) past (λ k m. z (s + k) (omega arith) (omega arith)),
      )
