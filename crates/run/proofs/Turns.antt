-- One level of a build, over plain lists: what its pieces ask, and what they leave together. Assumes nothing.
use mathlib.Core.Path.{◌≡◌, refl, sym, ap, ◌∙◌}
use mathlib.Core.Bool.{Bool, true, false, cond, and-false}
use mathlib.Core.List.{List, ◌++◌}
use Prim.Native.Nat.{ℕ, ◌+◌, ◌-◌, ◌≤◌, ◌<◌}
use native.Mathlib.Nat.{add-sub_of_le}
use native.Mathlib.Omega.{arith}
use borrow.Author.Tests.{le-leb, lt-leb}
use lib.Dec.{leb}
use Rattle.std.specs.Prelude.{Some, None}
use lib.Ieee.{Float}
use lib.ListN.{length, take, drop, replicate, length-append, length-take, length-drop, replicate-append-replicate}
use lib.Seq.{take_at, drop_at, length-take-le}
use Rattle.bounds.specs.Bounds.{max_bits}
use Rattle.laws.specs.Bits.{words_for, packed}
use Rattle.laws.proofs.Packing.{length-packed}
use Rattle.laws.proofs.Parts.{lent_from, drop_same}
use Rattle.ranks.specs.Ranks.{set_bits, samples_of}
use Rattle.rule.specs.Rule.{Rule, single}
use Rattle.sizes.specs.Sizes.{size_for, samples_for}
use Rattle.sizes.proofs.Sizes.{size_most}
use Rattle.head.specs.Layout.{samples_of_size}
use Rattle.run.specs.Stores.{Stores}
use Rattle.laws.specs.Stores.{zeros, pasted}
use Rattle.run.specs.Turn.{Placeable, PlacedAt, placed_words, Sampleable, SampledAt, TurnRoom, has_room, Turned, turned, next_placed, next_stores, level_turn}
use Rattle.run.specs.declared.Progress.{Progress}
use Rattle.run.specs.declared.Placed.{Placed}

module _ (size : ℕ) (at : Progress) (s : Stores) (p : Placeable size at s) where
  abbrev n : ℕ
  n = words_for size

  abbrev lent : List ℕ
  lent = take (length s.words - at.words) (drop at.words s.words)

  -- the level's words, which hold a plain set, stand in the words from its place on
  pub words_placed : (set : ℕ → Bool) {part : List ℕ} → part ≡ packed n set ++ drop n lent
      → take at.words s.words ++ (part ++ drop (length s.words - at.words) (drop at.words s.words)) ≡ pasted at.words (packed n set) s.words
  words_placed set e =
      lent_from (λ ws. packed n set ++ drop n ws) at.words s.words e
      ∙ ap (λ (k : ℕ). take at.words s.words ++ (packed n set ++ drop k (drop at.words s.words))) (sym (length-packed n set))

  -- the collide store is 0 again
  pub collide_again : (set : ℕ → Bool) {between after : List ℕ} (k : ℕ) → k ≡ n → between ≡ packed n set ++ drop n s.collide
      → after ≡ replicate k 0 ++ drop k between → after ≡ s.collide
  collide_again set k q e f =
      let m = length s.collide in
      f ∙ rw (q, e, drop_at (packed n set) (drop n s.collide) n (length-packed n set))
      (ap (λ (c : List ℕ). replicate n 0 ++ drop n c) p.clear_collide ∙ ap (λ (c : List ℕ). replicate n 0 ++ c) (drop_same n m 0 p.in_collide)
      ∙ replicate-append-replicate n (m - n) 0 ∙ ap zeros (add-sub_of_le p.in_collide) ∙ sym p.clear_collide)

-- ---- the whole level

-- what was pasted is there
part_pasted : (k : ℕ) (xs store : List ℕ) (n : ℕ) → k ≤ length store → length xs ≡ n → take n (drop k (pasted k xs store)) ≡ xs
part_pasted k xs store n h l =
    ap (take n) (drop_at (take k store) (xs ++ drop (length xs) (drop k store)) k (length-take-le k store h)) ∙ take_at xs (drop (length xs) (drop k store)) n l

length-pasted : (k : ℕ) (xs store : List ℕ) → k + length xs ≤ length store → length (pasted k xs store) ≡ length store
length-pasted k xs store h = simp (length-append, length-take, length-drop) (omega arith)

pub size_small : (gamma : Float) (at : Progress) (s : Stores) → TurnRoom gamma at s → {size : ℕ} → size ≡ size_for gamma at.remaining → size ≤ max_bits
size_small gamma at s r e = rw e (size_most gamma at.remaining r.allowed r.few_ids)

module _ (gamma : Float) (at : Progress) (s : Stores) (r : TurnRoom gamma at s) {size taken ranked : ℕ}
    (size_is : size ≡ size_for gamma at.remaining) (taken_is : taken ≡ words_for size) (ranked-is : ranked ≡ samples_for taken) where
  pub placeable : taken ≤ length s.words - at.words → Placeable size at s
  placeable word_room = record {
    in_store = r.in_rest;
    in_words = omega (arith, r.in_words);
    in_collide = rw size_is r.in_collide;
    clear_words = r.clear_words;
    clear_collide = r.clear_collide;
  }

  -- by any rule of positions
  module _ (pos : (level size id : ℕ) → ℕ) where
    abbrev rule : Rule
    rule = record { pos = pos; size = size_for gamma }

    no_room : has_room rule at s ≡ false → turned None s ≡ level_turn rule at s
    unfolding level_turn
    no_room f = rw f

    pub words_short : length s.words - at.words < taken → turned None s ≡ level_turn rule at s
    words_short h =
        no_room (rw (lt-leb (at.words + words_for (size_for gamma at.remaining)) (length s.words) (rw (← size_is, ← taken_is) (omega arith))))

    pub samples_short : length s.samples - at.samples < ranked → turned None s ≡ level_turn rule at s
    samples_short h =
        let q : length s.samples < at.samples + samples_of_size (size_for gamma at.remaining) = rw (← size_is, ← taken_is, ← ranked-is) (omega arith) in
        no_room (rw (lt-leb (at.samples + samples_of_size (size_for gamma at.remaining)) (length s.samples) q) (and-false (leb (at.words + words_for (size_for gamma at.remaining)) (length s.words))))

    module _ (word_room : taken ≤ length s.words - at.words) (sample_room : ranked ≤ length s.samples - at.samples) where
      module _ {told : ℕ} {s₁ : Stores} (p : PlacedAt (pos at.level size) size at s told s₁) where
        abbrev own : List ℕ
        own = packed (words_for size) (single (pos at.level size) (take at.remaining s.rest))

        own_length : length own ≡ taken
        own_length = length-packed (words_for size) (single (pos at.level size) (take at.remaining s.rest)) ∙ sym taken_is

        fits : at.words + length own ≤ length s.words
        fits = rw own_length (omega (arith, r.in_words))

        pub sampleable : Sampleable taken at s₁
        sampleable = record {
          in_words = rw (p.words_are, length-pasted at.words own s.words fits) (omega arith);
          few_words = omega (arith, size_small gamma at s r size_is);
          few_set = r.few_set;
          in_samples = rw p.samples_are (omega (arith, r.in_samples));
        }

        pub placed : {set : ℕ} {s₂ : Stores} → SampledAt taken at s₁ set s₂
            → turned (Some (record { size = size; next = record { level = at.level + 1; remaining = told; words = at.words + taken; samples = at.samples + ranked; set = set } })) s₂
            ≡ level_turn rule at s
        unfolding level_turn
        placed {set} {s₂} q =
            let w : placed_words taken at s₁ ≡ own
            = ap (λ (ws : List ℕ). take taken (drop at.words ws)) p.words_are ∙ part_pasted at.words own s.words taken r.in_words own_length in
            let samples_are : s₂.samples ≡ pasted at.samples (samples_of at.set own) s.samples
            = q.samples_are ∙ rw (w, p.samples_are) in
            let set_is : set ≡ at.set + set_bits own = q.set_is ∙ ap (λ (ws : List ℕ). at.set + set_bits ws) w in
            let h : at.words + words_for (size_for gamma at.remaining) ≤ length s.words = rw (← size_is, ← taken_is) (omega (arith, r.in_words)) in
            let k : at.samples + samples_of_size (size_for gamma at.remaining) ≤ length s.samples
            = rw (← size_is, ← taken_is, ← ranked-is) (omega (arith, r.in_samples)) in
            rw (
              samples_are,
              set_is,
              q.words_are ∙ p.words_are,
              q.collide_is ∙ p.collide_is,
              q.store_is ∙ p.store_is,
              p.count_is,
              ranked-is,
              taken_is,
              size_is,
              le-leb (at.words + words_for (size_for gamma at.remaining)) (length s.words) h,
              le-leb (at.samples + samples_of_size (size_for gamma at.remaining)) (length s.samples) k,
            )

-- ---- what a turn tells

same_inside : {a b : Placed} → Some a ≡ Some b → a ≡ b
same_inside e = cc

module _ (rule : Rule) (at : Progress) (s : Stores) where
  pub record IsPlaced (placed : Placed) (after : Stores) : Type 0 where
    pub has_room_lem : has_room rule at s ≡ true
    pub placed_is : placed ≡ next_placed rule at s
    pub stores_are : after ≡ next_stores rule at s

  pub turn_placed : {placed : Placed} {after : Stores} → turned (Some placed) after ≡ level_turn rule at s → IsPlaced placed after
  unfolding level_turn
  turn_placed {placed} {after} e = go (has_room rule at s) refl e
    where
      go : (b : Bool) → has_room rule at s ≡ b
          → turned (Some placed) after ≡ cond b (turned (Some (next_placed rule at s)) (next_stores rule at s)) (turned None s)
          → IsPlaced placed after
      go true h f =
          let t : Some placed ≡ Some (next_placed rule at s) = ap (λ (x : Turned). x.turn) f in
          record { has_room_lem = h; placed_is = same_inside t; stores_are = ap (λ (x : Turned). x.stores) f }
      go false h f =
          let t : Some placed ≡ None = ap (λ (x : Turned). x.turn) f in
          let z : ◌≡◌ {A = ℕ} 0 1 = cc in absurd (omega arith)

  pub turn_full : {after : Stores} → turned None after ≡ level_turn rule at s → (has_room rule at s ≡ false) × (after ≡ s)
  unfolding level_turn
  turn_full {after} e = go (has_room rule at s) refl e
    where
      go : (b : Bool) → has_room rule at s ≡ b
          → turned None after ≡ cond b (turned (Some (next_placed rule at s)) (next_stores rule at s)) (turned None s)
          → (has_room rule at s ≡ false) × (after ≡ s)
      go true h f =
          let t : None ≡ Some (next_placed rule at s) = ap (λ (x : Turned). x.turn) f in
          let z : ◌≡◌ {A = ℕ} 0 1 = cc in absurd (omega arith)
      go false h f = (h, ap (λ (x : Turned). x.stores) f)
