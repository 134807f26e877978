-- The walk through the levels of a head that fits, by any rule of positions below the size: what it asks, and what it answers. Assumes nothing.
use mathlib.Core.Path.{◌≡◌, sym, ap, ap₂, ◌∙◌}
use mathlib.Core.Bool.{Bool, true, false}
use mathlib.Core.List.{List}
use mathlib.Core.Logic.{inl, inr}
use Prim.Native.Nat.{ℕ, suc, ◌+◌, ◌/◌, ◌≤◌, ◌<◌}
use native.Mathlib.Nat.{eq-or-lt_of_le, le_of_suc-le-suc}
use native.Mathlib.Numerals.{add-one}
use native.Mathlib.Omega.{arith}
use lib.ListN.{length, get_or, take, drop, length-take, length-drop}
use lib.Seq.{get_or-take}
use borrow.Author.Tests.{le-leb, lt-ltb}
use Rattle.bounds.specs.Bounds.{max_ids, max_bits, min_bits, sample_bits}
use Rattle.laws.specs.Bits.{has, words_for}
use Rattle.laws.proofs.Sums.{sum_mono}
use Rattle.ranks.specs.Ranks.{ones_from}
use Rattle.rule.proofs.Reader.{first_is, first_none}
use Rattle.head.specs.Layout.{samples_of_size, size_at, level_words, level_samples, fit}
use Rattle.finding.specs.Find.{found, nothing, row_answer, level_answer, find_in}
use Rattle.head.proofs.Fits.{fit_known, Walk}

-- ---- the row of a set bit

pub row_good : (count : ℕ) (ws ss : List ℕ) (i p : ℕ) → get_or ss (p / sample_bits) 0 ≤ max_ids → get_or ss (p / sample_bits) 0 + ones_from ws p < count
    → row_answer count ws ss i p ≡ found (record { row = get_or ss (p / sample_bits) 0 + ones_from ws p; level = i; position = p })
unfolding row_answer
row_good count ws ss i p s h = rw (le-leb (get_or ss (p / sample_bits) 0) max_ids s, lt-ltb (get_or ss (p / sample_bits) 0 + ones_from ws p) count h)

-- ---- one level of a head that fits, where the levels before it are walked over

-- its size, and its part of each store
pub record Turn (levels : ℕ) (sizes ws ss : List ℕ) (i at sampled : ℕ) : Type 0 where
  pub here : i < levels
  pub size_is : get_or (take levels sizes) i 0 ≡ size_at sizes i
  pub least : min_bits ≤ size_at sizes i
  pub most : size_at sizes i ≤ max_bits
  pub word_room : at + words_for (size_at sizes i) ≤ length ws
  pub sample_room : sampled + samples_of_size (size_at sizes i) ≤ length ss
  pub words_are : take (words_for (size_at sizes i)) (drop at ws) ≡ level_words (size_at sizes) ws i
  pub samples_are : take (samples_of_size (size_at sizes i)) (drop sampled ss) ≡ level_samples (size_at sizes) ss i

pub turn : (count levels : ℕ) (sizes ws ss : List ℕ) (i at sampled : ℕ) → fit count levels sizes (length ws) (length ss) ≡ true → i < length (take levels sizes)
    → Walk sizes i at sampled → Turn levels sizes ws ss i at sampled
turn count levels sizes ws ss i at sampled e l w =
    let f = fit_known _ _ _ _ _ e in
    let h : i < levels = omega (arith, length-take levels sizes) in
    record {
      here = h;
      size_is = get_or-take levels sizes i 0 h;
      least = f.bounds.size_least i h;
      most = f.bounds.size_most i h;
      word_room = omega (arith, f.word_room, w.words_are, sum_mono (λ j. words_for (size_at sizes j)) {m = suc i} {n = levels} h);
      sample_room = omega (arith, f.sample_room, w.samples_are, sum_mono (λ j. samples_of_size (size_at sizes j)) {m = suc i} {n = levels} h);
      words_are = ap (λ (k : ℕ). take (words_for (size_at sizes i)) (drop k ws)) w.words_are;
      samples_are = ap (λ (k : ℕ). take (samples_of_size (size_at sizes i)) (drop k ss)) w.samples_are;
    }

-- a position below the size has its word and its sample in the parts of the level
module _ (levels : ℕ) (sizes ws ss : List ℕ) (i at sampled : ℕ) (t : Turn levels sizes ws ss i at sampled) (p : ℕ) (below : p < size_at sizes i) where
  pub spot_word : (us : List ℕ) → us ≡ take (words_for (size_at sizes i)) (drop at ws) → p / 64 < length us
  spot_word us e = omega (arith, ap length e, length-take (words_for (size_at sizes i)) (drop at ws), length-drop at ws, t.word_room)

  pub spot-sample : (vs : List ℕ) → vs ≡ take (samples_of_size (size_at sizes i)) (drop sampled ss) → p / sample_bits < length vs
  spot-sample vs e = omega (arith, ap length e, length-take (samples_of_size (size_at sizes i)) (drop sampled ss), length-drop sampled ss, t.sample_room)

-- ---- the first level that has the bit

module _ (pos : (level size id : ℕ) → ℕ) (count : ℕ) (span : ℕ → ℕ) (ws ss : List ℕ) (x : ℕ) where
  abbrev pub bit_at : ℕ → Bool
  bit_at m = has (level_words span ws m) (pos m (span m) x)

  pub found_at : (levels i : ℕ) → i < levels → ((m : ℕ) → m < i → bit_at m ≡ false) → bit_at i ≡ true
      → find_in pos count span ws ss x levels ≡ row_answer count (level_words span ws i) (level_samples span ss i) i (pos i (span i) x)
  unfolding find_in
  found_at levels i h none_before here =
      ap (level_answer pos count span ws ss x)
      (first_is pos span (λ m. has (level_words span ws m)) levels 0 i x (omega arith) (omega arith) none_before here)

  pub found_none : (levels : ℕ) → ((m : ℕ) → m < levels → bit_at m ≡ false) → find_in pos count span ws ss x levels ≡ nothing
  unfolding find_in
  found_none levels none =
      ap (level_answer pos count span ws ss x) (first_none pos span (λ m. has (level_words span ws m)) levels 0 x (λ m h. none m (omega arith)))

-- ---- what a turn of the walk tells

module _ (pos : (level size id : ℕ) → ℕ) (count levels : ℕ) (sizes ws ss : List ℕ) (x i at sampled : ℕ) (t : Turn levels sizes ws ss i at sampled) (us : List ℕ) (p : ℕ)
    (us-are : us ≡ take (words_for (size_at sizes i)) (drop at ws)) (p-is : p ≡ pos i (size_at sizes i) x) (told : Bool) (has_it : told ≡ has us p) where
  bit_here : told ≡ bit_at pos count (size_at sizes) ws ss x i
  bit_here = has_it ∙ ap₂ has (us-are ∙ t.words_are) p-is

  pub not_here : told ≡ false → bit_at pos count (size_at sizes) ws ss x i ≡ false
  not_here f = sym bit_here ∙ f

  pub still_none : told ≡ false → ((m : ℕ) → m < i → bit_at pos count (size_at sizes) ws ss x m ≡ false) → (m : ℕ) → m < i + 1
      → bit_at pos count (size_at sizes) ws ss x m ≡ false
  still_none f before m h =
      elim (eq-or-lt_of_le (le_of_suc-le-suc (rw (add-one i) at h))) [
        | inl e ↦ rw e (not_here f)
        | inr l ↦ before m l
      ]

  pub here_found : told ≡ true → ((m : ℕ) → m < i → bit_at pos count (size_at sizes) ws ss x m ≡ false) → (vs : List ℕ)
      → vs ≡ take (samples_of_size (size_at sizes i)) (drop sampled ss)
      → row_answer count us vs i p ≡ find_in pos count (size_at sizes) ws ss x levels
  here_found f before vs vs-are =
      let u : us ≡ level_words (size_at sizes) ws i = us-are ∙ t.words_are in
      let v : vs ≡ level_samples (size_at sizes) ss i = vs-are ∙ t.samples_are in
      rw (u, v, p-is) (sym (found_at pos count (size_at sizes) ws ss x levels i t.here before (sym bit_here ∙ f)))
