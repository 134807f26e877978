-- The index that an accepted build leaves, read back: its head fits, each level's part of the stores is that level's words and samples, and a lookup answers
-- as the level rule does. Assumes nothing.
use mathlib.Core.Path.{◌≡◌, refl, sym, ap, ap₂, ◌∙◌}
use mathlib.Core.Bool.{Bool, true, false}
use mathlib.Core.List.{List, [], ◌∷◌, ◌++◌, append_assoc}
use mathlib.Core.Option.{Option, none, some}
use Prim.Native.Nat.{ℕ, zero, suc, ◌+◌, ◌/◌, ◌≤◌, ◌<◌}
use native.Mathlib.Nat.{add-zero}
use native.Mathlib.Omega.{arith}
use lib.Dec.{lit<}
use lib.Ieee.{Float}
use lib.ListN.{length, get_or, take, drop, get_or-append}
use lib.Seq.{take_at, drop_at}
use Rattle.bounds.specs.Bounds.{max_ids, level_limit, sample_bits}
use Rattle.demands.specs.Levels.{EachLevel, EachLevelLeft, set_before, samples_by, FromWords}
use Rattle.laws.specs.Counting.{sum, chain}
use Rattle.laws.specs.Bits.{has, words_for}
use Rattle.laws.proofs.Chains.{length-chain, chain_at, chain_same}
use Rattle.laws.proofs.Cases.{Tri, lt, eq, gt, tri}
use Rattle.laws.proofs.Packing.{packed-has}
use Rattle.laws.proofs.Sums.{sum_same, sum_ones}
use Rattle.mixer.specs.declared.Kind.{Kind}
use Rattle.mixer.proofs.KindNumbers.{number_known}
use Rattle.mixer.specs.Position.{position}
use Rattle.laws.specs.Stores.{filled}
use Rattle.head.specs.Index.{rule_of, room_of, words_at, samples_at, index_words, index_samples, index_sizes, index_head}
use Rattle.head.specs.Layout.{samples_of_size, size_at, level_words, level_samples, fit}
use Rattle.finding.specs.Find.{Answer, found, nothing, level_answer, find_in}
use Rattle.lookup.specs.Lookup.{lookup_call}
use Rattle.head.specs.declared.Head.{Head}
use Rattle.lookup.proofs.Lookups.{lookup-fit}
use Rattle.finding.proofs.Finds.{row_good}
use Rattle.head.proofs.Fits.{fit_is}
use Rattle.head.proofs.Indexes.{length-filled, length_words_at, length_samples_at, length_words, length_samples_to, length_sizes, rule_sound}
use Rattle.ranks.specs.Ranks.{set_bits, samples_of, ones_from}
use Rattle.ranks.proofs.ByRule.{next_base}
use Rattle.ranks.proofs.Samples.{rank_by_sample}
use Rattle.rule.specs.Rule.{Rule, Room, RowPlace, remaining, span, bit, start, ones, base, row_at, first, place, find, run, built}
use Rattle.rule.proofs.Level.{unset_past}
use Rattle.rule.proofs.Levels.{remaining_fewer, levels, all_accounted, spot-lt}
use Rattle.rule.proofs.Reader.{SameLevels, base_agrees, first-has, lookup_agrees, lookup-lt}
use Rattle.rule.proofs.Run.{built_known, room_words, room_samples}
use Rattle.sizes.specs.Gamma.{Allowed}
use Rattle.sizes.proofs.Sizes.{size_least, size_most, size_mono}

-- ---- the levels of an index's rule

pub each_level : (kind : Kind) (gamma : Float) (ids : List ℕ) → EachLevel kind gamma ids
each_level kind gamma ids =
    let l = levels (rule_of kind gamma) ids (rule_sound kind gamma) in
    record { balance = l.balance; no_rise = l.no_rise (λ m n h k. size_mono gamma m n h) }

-- ---- one of several lists that lie one after another in a store

block_part : (f : ℕ → List ℕ) (w : ℕ → ℕ) → ((i : ℕ) → length (f i) ≡ w i) → (n i : ℕ) → i < n → (past : List ℕ)
    → take (w i) (drop (sum w i) (chain f n ++ past)) ≡ f i
block_part f w e zero i h past = absurd (omega arith)
block_part f w e (suc n) i h past = rw (append_assoc (chain f n) (f n) past) (go (tri i n) (λ q. block_part f w e n i q (f n ++ past)))
  where
    len : length (chain f n) ≡ sum w n
    len = length-chain f n ∙ sum_same _ _ n (λ j l. e j)

    go : Tri i n → (i < n → take (w i) (drop (sum w i) (chain f n ++ (f n ++ past))) ≡ f i)
        → take (w i) (drop (sum w i) (chain f n ++ (f n ++ past))) ≡ f i
    go (lt q) r = r q
    go (eq q) r = rw q (ap (take (w n)) (drop_at (chain f n) (f n ++ past) (sum w n) len) ∙ take_at (f n) past (w n) (e n))
    go (gt q) r = absurd (omega arith)

-- ---- what the run's end says

pub record Finished (rule : Rule) (room : Room) (ids : List ℕ) (n : ℕ) : Type 0 where
  pub some_level : 1 ≤ n
  pub few_levels : n ≤ level_limit
  pub none_left : remaining rule ids n ≡ []
  pub in_words : start room.words (span rule ids) n ≤ room.word_room
  pub in_samples : start room.samples (span rule ids) n ≤ room.sample_room

pub run_done : (rule : Rule) (room : Room) (ids : List ℕ) (n : ℕ) → run rule room ids level_limit ≡ built n → Finished rule room ids n
run_done rule room ids n ran =
    let k = built_known rule room ids level_limit n ran in
    rw (← k.1) (record {
      some_level = omega arith;
      few_levels = k.2;
      none_left = k.5;
      in_words = room_words rule room ids (suc k.0) k.4;
      in_samples = room_samples rule room ids (suc k.0) k.4;
    })

-- ---- the index of n levels that a build leaves

abbrev pub built_head : Kind → Float → List ℕ → ℕ → Head
built_head kind gamma ids n = index_head (rule_of kind gamma) ids kind n

abbrev pub words_in : Kind → Float → List ℕ → ℕ → ℕ → List ℕ
words_in kind gamma ids n room = filled (index_words (rule_of kind gamma) ids n) room

abbrev pub samples_in : Kind → Float → List ℕ → ℕ → ℕ → List ℕ
samples_in kind gamma ids n room = filled (index_samples (rule_of kind gamma) ids n) room

-- a lookup's answer, where the level rule finds a place or none
abbrev pub as_answer : Option RowPlace → Answer
as_answer none = nothing
as_answer (some u) = found u

module _ (kind : Kind) (gamma : Float) (ids : List ℕ) (word_room sample_room n : ℕ) where
  -- by the rule: the size and the bits of each level
  abbrev rule : Rule
  rule = rule_of kind gamma

  abbrev Span : ℕ → ℕ
  Span = span rule ids

  abbrev Bits : ℕ → ℕ → Bool
  Bits = bit rule ids

  -- by the head and the stores
  abbrev Words : List ℕ
  Words = words_in kind gamma ids n word_room

  abbrev Samples : List ℕ
  Samples = samples_in kind gamma ids n sample_room

  abbrev Size : ℕ → ℕ
  Size = size_at (built_head kind gamma ids n).sizes

  abbrev Read : ℕ → ℕ → Bool
  Read i = has (level_words Size Words i)

  -- ---- its parts

  size_is : (i : ℕ) → i < n → Size i ≡ Span i
  unfolding index_sizes
  size_is i h =
      get_or-append (index_sizes rule ids n) _ 0 i (omega (arith, length_sizes rule ids n))
      ∙ (rw (sum_ones i, add-zero i) at (chain_at (λ j. Span j ∷ []) (λ j. 1) (λ j. refl) n i 0 h (lit< tt)))

  start_is : (need : ℕ → ℕ) (i : ℕ) → i ≤ n → start need Size i ≡ start need Span i
  start_is need i h = sum_same _ _ i (λ j l. ap need (size_is j (omega arith)))

  words_are : (i : ℕ) → i < n → level_words Size Words i ≡ words_at rule ids i
  unfolding index_words
  words_are i h =
      ap₂ (λ (k at : ℕ). take k (drop at Words)) (ap words_for (size_is i h)) (start_is words_for i (omega arith))
      ∙ block_part (words_at rule ids) (λ j. words_for (Span j)) (length_words_at rule ids) n i h _

  samples_are : (i : ℕ) → i < n → level_samples Size Samples i ≡ samples_at rule ids i
  unfolding index_samples
  samples_are i h =
      ap₂ (λ (k at : ℕ). take k (drop at Samples)) (ap samples_of_size (size_is i h)) (start_is samples_of_size i (omega arith))
      ∙ block_part (samples_at rule ids) (λ j. samples_of_size (Span j)) (length_samples_at rule ids) n i h _

  -- a reader has the levels of the rule
  same_levels : SameLevels Size Span Read Bits n
  same_levels = record {
    sizes = size_is;
    bits = λ i p h l.
        ap (λ (ws : List ℕ). has ws p) (words_are i h) ∙ packed-has (words_for (Span i)) (Bits i) p (omega (arith, size_is i h));
  }

  pos_lt : (i x : ℕ) → i < n → position kind i (Size i) x < Size i
  pos_lt i x h = rw (size_is i h) (spot-lt rule ids (rule_sound kind gamma) i x)

  -- ---- samples from the words

  bit_past : (i q : ℕ) → Span i ≤ q → Bits i q ≡ false
  bit_past i q h = unset_past (rule.pos i (Span i)) (remaining rule ids i) (Span i) (spot-lt rule ids (rule_sound kind gamma) i) q h

  set_before_lem : (i : ℕ) → i ≤ n → set_before (built_head kind gamma ids n) Words i ≡ base Span Bits i
  set_before_lem zero h = refl
  set_before_lem (suc i) h =
      let m : ℕ = words_for (Span i) in
      let l : length (words_at rule ids i) ≡ m = length_words_at rule ids i in
      omega (
        arith,
        set_before_lem i (omega arith),
        ap set_bits (words_are i h),
        next_base Span Bits i (words_at rule ids i) (omega arith) (λ q k. sym (packed-has m (Bits i) q (omega arith)))
            (λ q k t. packed-has m (Bits i) q (omega arith) ∙ bit_past i q k),
      )

  -- ---- each level

  set_here : (i : ℕ) → i < n → set_bits (level_words Size Words i) ≡ ones Span Bits i
  set_here i h = omega (arith, set_before_lem i (omega arith), set_before_lem (suc i) h)

  pub levels_left : EachLevelLeft kind gamma ids (built_head kind gamma ids n) (words_in kind gamma ids n word_room)
  levels_left = record {
    balance = λ i h. omega (arith, set_here i h, (each_level kind gamma ids).balance i);
    no_rise = λ i j h l. omega (arith, size_is i (omega arith), size_is j l, (each_level kind gamma ids).no_rise i j h);
  }

  samples_by_lem : (i : ℕ) → i < n → samples_at rule ids i ≡ samples_by (built_head kind gamma ids n) Words i
  samples_by_lem i h = sym (ap₂ (λ (b : ℕ) (ws : List ℕ). samples_of b ws) (set_before_lem i (omega arith)) (words_are i h))

  module _ (done : Finished (rule_of kind gamma) (room_of word_room sample_room) ids n) where
    words_long : length Words ≡ word_room
    words_long = length-filled (index_words rule ids n) word_room (rw (length_words rule ids n) done.in_words)

    samples_long : length Samples ≡ sample_room
    samples_long = length-filled (index_samples rule ids n) sample_room (rw (length_samples_to rule ids n) done.in_samples)

    pub from_words : FromWords (built_head kind gamma ids n) (words_in kind gamma ids n word_room) (samples_in kind gamma ids n sample_room)
    unfolding index_samples
    from_words = record {
      level = λ i h. samples_are i h ∙ samples_by_lem i h;
      store = ap₂ filled (chain_same _ _ n samples_by_lem) (sym samples_long);
    }

    module _ (allowed : Allowed gamma) (few : length ids ≤ max_ids) where
      -- ---- it fits

      fewer : (i : ℕ) → length (remaining rule ids i) ≤ length ids
      unfolding remaining
      fewer i = remaining_fewer rule ids 0 i (omega arith)

      pub index_fits : fit (length ids) n (built_head kind gamma ids n).sizes (length (words_in kind gamma ids n word_room)) (length (samples_in kind gamma ids n sample_room)) ≡ true
      index_fits =
          rw (words_long, samples_long) (fit_is (length ids) n (built_head kind gamma ids n).sizes word_room sample_room (record {
            bounds = record {
              some_level = done.some_level;
              few_levels = omega (arith, done.few_levels);
              size_least = λ i h. rw (size_is i h) (size_least gamma (length (remaining rule ids i)));
              size_most = λ i h. rw (size_is i h) (size_most gamma (length (remaining rule ids i)) allowed (omega (arith, fewer i)));
              few_ids = few;
            };
            word_room = rw (start_is words_for n (omega arith)) done.in_words;
            sample_room = rw (start_is samples_of_size n (omega arith)) done.in_samples;
          }))

      -- ---- a lookup answers as the rule does

      base_is : (i : ℕ) → i ≤ n → base Size Read i ≡ base Span Bits i
      base_is = base_agrees Size Span Read Bits n same_levels

      all_set : base Size Read n ≡ length ids
      all_set = omega (arith, base_is n (omega arith), all_accounted rule ids (rule_sound kind gamma) n, ap length done.none_left)

      -- the first level that has the bit of x gives the row that a reader has by the sizes and bits alone
      level_is : (x i : ℕ) → first (position kind) Size Read n 0 x ≡ some i
          → level_answer (position kind) (length ids) Size Words Samples x (some i) ≡ as_answer (place (position kind) Size Read x (some i))
      level_is x i e =
          let h : i < n = omega (arith, (first-has (position kind) Size Read n 0 i x e).1) in
          let p : ℕ = position kind i (Size i) x in
          let ws : List ℕ = level_words Size Words i in
          let ss : List ℕ = level_samples Size Samples i in
          let before : ℕ = base Size Read i in
          let l : length ws ≡ words_for (Span i) = ap length (words_are i h) ∙ length_words_at rule ids i in
          let sampled : ss ≡ samples_of before ws
          = samples_are i h ∙ sym (ap₂ (λ (b : ℕ) (us : List ℕ). samples_of b us) (base_is i (omega arith)) (words_are i h)) in
          let row_is : get_or ss (p / sample_bits) 0 + ones_from ws p ≡ row_at Size Read i p
          = rw sampled (rank_by_sample before ws p (omega (arith, pos_lt i x h, size_is i h))) in
          let u : RowPlace = record { row = row_at Size Read i p; level = i; position = p } in
          let row_lt : u.row < base Size Read n = lookup-lt (position kind) Size Read n pos_lt x {u = u} (ap (place (position kind) Size Read x) e) in
          row_good (length ids) ws ss i p (omega (arith, all_set)) (omega (arith, all_set))
          ∙ ap (λ (k : ℕ). found (record { row = k; level = i; position = p })) row_is

      pub lookup_is : (x : ℕ)
          → lookup_call (built_head kind gamma ids n) (words_in kind gamma ids n word_room) (samples_in kind gamma ids n sample_room) x ≡ as_answer (find (rule_of kind gamma) ids n x)
      unfolding find_in
      lookup_is x =
          sym (lookup-fit (built_head kind gamma ids n) Words Samples x kind (number_known kind) index_fits)
          ∙ go (first (position kind) Size Read n 0 x) refl
          ∙ ap as_answer (lookup_agrees Size Span Read Bits n same_levels (position kind) pos_lt x)
        where
          go : (o : Option ℕ) → first (position kind) Size Read n 0 x ≡ o
              → level_answer (position kind) (length ids) Size Words Samples x o ≡ as_answer (place (position kind) Size Read x o)
          go none e = refl
          go (some i) e = level_is x i e
