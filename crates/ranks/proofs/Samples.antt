-- The laws of a level's samples: what each is, that they come from the words' bits alone, and how they are written one by one. Assumes nothing.
use mathlib.Core.Path.{◌≡◌, refl, sym, ap, ◌∙◌}
use mathlib.Core.List.{List, [], ◌∷◌, ◌++◌, append_assoc}
use Prim.Native.Nat.{ℕ, suc, ◌+◌, ◌-◌, ◌*◌, ◌/◌, ◌^◌, ◌≤◌, ◌<◌, min}
use native.Mathlib.Nat.{add-zero}
use native.Mathlib.Numerals.{add-one}
use native.Mathlib.Omega.{arith}
use lib.Dec.{lit<}
use lib.ListN.{length, get_or, take, drop, set, length-append, length-drop}
use lib.Seq.{drop-cons, set_at, take_at, drop_at, drop-drop}
use Rattle.bounds.specs.Bounds.{sample_bits, sample_words}
use Rattle.laws.specs.Counting.{rank}
use Rattle.laws.specs.Bits.{has}
use Rattle.laws.proofs.Sums.{rank-le, rank_same, sum_ones}
use Rattle.laws.proofs.Chains.{chain_same, length-chain, chain_at}
use Rattle.sizes.specs.Sizes.{samples_for}
use Rattle.words.proofs.Ones.{rank_part}
use Rattle.ranks.specs.Ranks.{set_bits, first_samples, samples_of, ones_from}
use Rattle.ranks.specs.Sampling.{with_samples, Sampled}
use Rattle.ranks.proofs.Ones.{rank_from}

module _ (before : ℕ) (ws : List ℕ) where
  pub length-first : (n : ℕ) → length (first_samples before ws n) ≡ n
  unfolding first_samples
  length-first n = length-chain _ n ∙ sum_ones n

  pub length_samples : length (samples_of before ws) ≡ samples_for (length ws)
  length_samples = length-first (samples_for (length ws))

  -- sample j
  pub sample_at : (n j : ℕ) → j < n → get_or (first_samples before ws n) j 0 ≡ before + rank (has ws) (sample_bits * j)
  unfolding first_samples
  sample_at n j l =
      rw (sum_ones j, add-zero j) at (chain_at (λ j. (before + rank (has ws) (sample_bits * j)) ∷ []) (λ j. 1) (λ j. refl) n j 0 l (lit< tt))

  -- a position's sample and the ones from there on are the set bits before it, in all earlier levels and in its own
  pub rank_by_sample : (p : ℕ) → p < 64 * length ws → get_or (samples_of before ws) (p / sample_bits) 0 + ones_from ws p ≡ before + rank (has ws) p
  rank_by_sample p h = omega (arith, sample_at (samples_for (length ws)) (p / sample_bits) (omega arith), rank_from ws p)

-- ---- from the words' bits alone

-- words with the same bits have the same samples
pub samples_by_bits : (before : ℕ) (us vs : List ℕ) → length us ≡ length vs → ((b : ℕ) → b < 64 * length us → has us b ≡ has vs b)
    → samples_of before us ≡ samples_of before vs
unfolding first_samples
samples_by_bits before us vs l e =
    ap (λ (n : ℕ). first_samples before us (samples_for n)) l
    ∙ chain_same _ _ (samples_for (length vs)) (λ j h. ap (λ (n : ℕ). (before + n) ∷ []) (rank_same _ _ (sample_bits * j) (λ b m. e b (omega arith))))

module _ (before : ℕ) (ws store : List ℕ) where
  -- the level's part of the store is its samples, whatever the store held
  pub sampled_part : take (samples_for (length ws)) (with_samples before ws store) ≡ samples_of before ws
  sampled_part = take_at (samples_of before ws) (drop (samples_for (length ws)) store) (samples_for (length ws)) (length_samples before ws)

  -- and writing them again changes nothing
  pub sampled_again : with_samples before ws (with_samples before ws store) ≡ with_samples before ws store
  sampled_again =
      ap (λ (l : List ℕ). samples_of before ws ++ l)
      (drop_at (samples_of before ws) (drop (samples_for (length ws)) store) (samples_for (length ws)) (length_samples before ws))

  -- ---- sample by sample

  -- the store once n samples are written
  abbrev pub sampled_to : ℕ → List ℕ
  sampled_to n = first_samples before ws n ++ drop n store

  pub sampled_none : sampled_to 0 ≡ store
  unfolding first_samples
  sampled_none = refl

  pub length_sampled : (n : ℕ) → n ≤ length store → {now : List ℕ} → now ≡ sampled_to n → length now ≡ length store
  length_sampled n h e = rw e (simp (length-append, length-drop, length-first) (omega arith))

  sampled_next : (j v : ℕ) → j < length store → v ≡ before + rank (has ws) (sample_bits * j) → set (sampled_to j) j v ≡ sampled_to (j + 1)
  unfolding first_samples
  sampled_next j v l e =
      rw (add-one j, e, drop-cons store j 0 l, append_assoc)
      (set_at (first_samples before ws j) _ (drop (suc j) store) _ j (length-first before ws j))

  -- where the groups of words come to after j of them
  abbrev pub taken : ℕ → ℕ
  taken j = min (sample_words * j) (length ws)

  -- After j groups: the words that are left to cut and how long a group is, the set bits before those words, and the store with a sample for each group.
  pub record Sampling (j : ℕ) (left : List ℕ) (size ones : ℕ) (now : List ℕ) : Type 0 where
    pub left_is : left ≡ drop (taken j) ws
    pub size_is : size ≡ sample_words
    pub near : sample_words * j < length ws + sample_words
    pub ones_are : ones ≡ before + rank (has ws) (64 * taken j)
    pub store_is : now ≡ sampled_to j

  pub sampling_none : Sampling 0 ws sample_words before store
  sampling_none =
      let none : taken 0 ≡ 0 = omega arith in
      record {
        left_is = ap (λ (n : ℕ). drop n ws) (sym none);
        size_is = refl;
        near = omega arith;
        ones_are = omega (arith, ap (λ (n : ℕ). rank (has ws) (64 * n)) none);
        store_is = sym sampled_none;
      }

  module _ (room : samples_for (length ws) ≤ length store) (j : ℕ) (left : List ℕ) (size ones : ℕ) (now : List ℕ) (t : Sampling j left size ones now) where
    left_length : length left ≡ length ws - taken j
    left_length = ap length t.left_is ∙ length-drop (taken j) ws

    -- a group more
    module _ (group past : List ℕ) (cut : left ≡ group ++ past) (long : length group ≡ min size (length left)) (some : 0 < length left) where
      group-taken : taken j + length group ≡ taken (j + 1)
      group-taken = omega (arith, left_length, t.size_is)

      group_ones : ones + rank (has group) (64 * length group) ≡ before + rank (has ws) (64 * taken (j + 1))
      group_ones =
          omega (arith, t.ones_are, rank_part ws (taken j) group past (sym t.left_is ∙ cut), ap (λ (n : ℕ). rank (has ws) (64 * n)) group-taken)

      pub group_fits : before + 64 * length ws < 2 ^ 64 → ones + rank (has group) (64 * length group) < 2 ^ 64
      group_fits h = omega (arith, group_ones, rank-le (has ws) (64 * taken (j + 1)))

      pub sampling_next : Sampling (j + 1) past size (ones + rank (has group) (64 * length group)) (set now j ones)
      sampling_next = record {
        left_is =
            sym (drop_at group past (length group) refl) ∙ ap (drop (length group)) (sym cut ∙ t.left_is)
            ∙ drop-drop (length group) (taken j) ws ∙ ap (λ (n : ℕ). drop n ws) group-taken;
        size_is = t.size_is;
        near = omega (arith, left_length);
        ones_are = group_ones;
        store_is =
            let at : 64 * taken j ≡ sample_bits * j = omega (arith, left_length) in
            rw t.store_is (sampled_next j ones (omega (arith, left_length)) (t.ones_are ∙ ap (λ (n : ℕ). before + rank (has ws) n) at));
      }

    -- none are left: all samples are written
    pub sampling_end : length left ≡ 0 → Sampled before ws store ones now
    unfolding set_bits
    sampling_end e =
        let all : taken j ≡ length ws = omega (arith, left_length) in
        let n : j ≡ samples_for (length ws) = omega (arith, left_length, t.near) in
        record {
          store_is = t.store_is ∙ ap sampled_to n;
          answer_is = t.ones_are ∙ ap (λ (n : ℕ). before + rank (has ws) (64 * n)) all;
        }
