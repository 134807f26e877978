-- Filtering, bit by bit: of the positions that ids have, those that collide has leave the level; and the rest store as the loop compacts it. Assumes nothing.
use mathlib.Core.Path.{◌≡◌, refl, sym, ◌∙◌}
use mathlib.Core.Bool.{Bool, true, false, not, ◌||◌, ◌&&◌, and-true, and-false}
use mathlib.Core.List.{List, [], ◌∷◌, ◌++◌, append-nil}
use mathlib.Core.Logic.{◌≢◌}
use Prim.Native.Nat.{ℕ, ◌+◌, ◌/◌, ◌≤◌, ◌<◌}
use native.Mathlib.Numerals.{add-one}
use native.Mathlib.Decide.{ℕ_discrete}
use native.Mathlib.Omega.{arith}
use borrow.Author.Tests.{eq-eqb, ne_eqb}
use lib.Dec.{eqb}
use lib.ListN.{length, get_or, set, take, length-append, length-drop}
use lib.Seq.{length-take-le}
use Rattle.laws.specs.Counting.{hits, sift}
use Rattle.laws.specs.Bits.{has, words_for, without_bit}
use Rattle.laws.proofs.Counts.{length-sift, tally_not, sift-take}
use Rattle.laws.proofs.Words.{without_put}
use Rattle.level.specs.Level.{goes_on, filter_one, filter_all, OneFiltered, Filtered, met}
use Rattle.laws.proofs.Parts.{front_past, front_more}
use Rattle.level.proofs.Folds.{fold_next, fold_keeps}
use Rattle.level.proofs.Few.{any_more}
use Rattle.level.proofs.Kept.{Kept, kept_none, kept_more, kept_put, put_here, put_other}

-- ---- one id

module _ (g : ℕ → ℕ) (collide ws : List ℕ) (id : ℕ) where
  pub filter_on : goes_on g collide id ≡ true → filter_one g collide ws id ≡ without_bit ws (g id)
  unfolding filter_one
  filter_on e = rw e

  pub filter_off : goes_on g collide id ≡ false → filter_one g collide ws id ≡ ws
  unfolding filter_one
  filter_off e = rw e

  -- bit j leaves the level where it is the id's position and collide has it
  pub filtered : g id / 64 < length ws → (j : ℕ) → has (filter_one g collide ws id) j ≡ has ws j && not (eqb (g id) j && has collide j)
  filtered h j = elim (ℕ_discrete j (g id)) [ yes e ↦ rw e (here (goes_on g collide id) refl) | no n ↦ there n (goes_on g collide id) refl ]
    where
      here : (t : Bool) → goes_on g collide id ≡ t → has (filter_one g collide ws id) (g id) ≡ has ws (g id) && not (eqb (g id) (g id) && has collide (g id))
      here true e = rw (filter_on e, put_here (without_put ws (g id)) h, e, eq-eqb (g id) (g id) refl, and-false)
      here false e = rw (filter_off e, e, and-false, and-true)

      there : j ≢ g id → (t : Bool) → goes_on g collide id ≡ t → has (filter_one g collide ws id) j ≡ has ws j && not (eqb (g id) j && has collide j)
      there n true e = rw (filter_on e, put_other (without_put ws (g id)) h j n, ne_eqb (g id) j (λ q. n (sym q)), and-true)
      there n false e = rw (filter_off e, ne_eqb (g id) j (λ q. n (sym q)), and-true)

-- ---- a list of ids

module _ (g : ℕ → ℕ) (size : ℕ) (within : (id : ℕ) → g id < size) (collide : List ℕ) where
  pub filter_one_keeps : (ws : List ℕ) (id : ℕ) → Kept size ws (filter_one g collide ws id)
  filter_one_keeps ws id = go (goes_on g collide id) refl
    where
      go : (t : Bool) → goes_on g collide id ≡ t → Kept size ws (filter_one g collide ws id)
      go true e = rw (filter_on g collide ws id e) (kept_put size (without_put ws (g id)) (within id))
      go false e = rw (filter_off g collide ws id e) (kept_none size ws)

  pub filter_keeps : (ws ids : List ℕ) → Kept size ws (filter_all g collide ws ids)
  filter_keeps ws ids = fold_keeps (filter_one g collide) (Kept size ws) (λ us id k. kept_more size k (filter_one_keeps us id)) ids ws (kept_none size ws)

  -- bit j leaves the level where it is the position of an id and collide has it
  pub filtered_bits : (ws : List ℕ) → words_for size ≤ length ws → (ids : List ℕ) (j : ℕ)
      → has (filter_all g collide ws ids) j ≡ has ws j && not (met g ids j && has collide j)
  filtered_bits ws h [] j = sym (and-true (has ws j))
  filtered_bits ws h (id ∷ ids) j =
      filtered_bits (filter_one g collide ws id) (rw (filter_one_keeps ws id).same_length h) ids j
      ∙ rw (filtered g collide ws id (omega (arith, within id)) j, ← (any_more (eqb (g id) j) (hits g j ids)))
      (go (has ws j) (eqb (g id) j) (met g ids j) (has collide j))
    where
      go : (a s t c : Bool) → a && not (s && c) && not (t && c) ≡ a && not ((s || t) && c)
      go false s t c = refl
      go true false t c = refl
      go true true true true = refl
      go true true false true = refl
      go true true true false = refl
      go true true false false = refl

-- ---- the loop, after the first i ids of the rest store

pub filter_none : (g : ℕ → ℕ) (collide ws store : List ℕ) → Filtered g collide 0 ws store 0 ws store
filter_none g collide ws store = record { words_are = refl; store_is = refl; count_is = refl }

module _ {g : ℕ → ℕ} {collide ws store : List ℕ} {i kept : ℕ} {ws₁ store₁ : List ℕ} (t : Filtered g collide i ws store kept ws₁ store₁) where
  pub kept_le : i ≤ length store → kept ≤ i
  kept_le h =
      omega (arith, t.count_is, length-sift (goes_on g collide) (take i store), tally_not (goes_on g collide) (take i store), length-take-le i store h)

  pub kept_length : i ≤ length store → length store₁ ≡ length store
  kept_length h = rw (t.store_is, length-append, length-drop, ← t.count_is) (omega (arith, kept_le h))

  module _ (h : i < length store) {told : Bool} {ws₂ : List ℕ} (u : OneFiltered g collide ws₁ (get_or store₁ i 0) told ws₂) where
    -- the next id is still where it stood
    next_id : get_or store₁ i 0 ≡ get_or store i 0
    next_id = rw t.store_is (front_past (sift (goes_on g collide) (take i store)) store i (rw (← t.count_is) (kept_le (omega arith))))

    next_told : {b : Bool} → told ≡ b → goes_on g collide (get_or store i 0) ≡ b
    next_told e = rw next_id at (sym u.on ∙ e)

    next_words : ws₂ ≡ filter_all g collide ws (take (i + 1) store)
    next_words = fold_next (filter_one g collide) ws store i h t.words_are (rw next_id at u.words_are)

    pub filter_out : told ≡ false → Filtered g collide (i + 1) ws store kept ws₂ store₁
    filter_out e = record { words_are = next_words; store_is = rw same t.store_is; count_is = rw same t.count_is }
      where
        same : sift (goes_on g collide) (take (i + 1) store) ≡ sift (goes_on g collide) (take i store)
        same = rw (add-one i, sift-take (goes_on g collide) store i h, next_told e) (append-nil (sift (goes_on g collide) (take i store)))

    pub filter_in : told ≡ true → Filtered g collide (i + 1) ws store (kept + 1) ws₂ (set store₁ kept (get_or store₁ i 0))
    filter_in e = record {
      words_are = next_words;
      store_is =
          rw (next_id, more, t.store_is, t.count_is)
          (front_more (sift (goes_on g collide) (take i store)) store (get_or store i 0) (rw (← t.count_is) (omega (arith, kept_le (omega arith)))));
      count_is = rw (more, length-append, t.count_is);
    }
      where
        more : sift (goes_on g collide) (take (i + 1) store) ≡ sift (goes_on g collide) (take i store) ++ (get_or store i 0 ∷ [])
        more = rw (add-one i, sift-take (goes_on g collide) store i h, next_told e)
