-- Marking, bit by bit: the level has the positions that were met, collide those that were met again. Assumes nothing.
use mathlib.Core.Path.{◌≡◌, refl, sym, ◌∙◌}
use mathlib.Core.Bool.{Bool, true, false, not, ◌||◌, ◌&&◌, or-false, or-true}
use mathlib.Core.List.{List, [], ◌∷◌, ◌++◌, foldl-append}
use Prim.Native.Nat.{ℕ, ◌+◌, ◌*◌, ◌/◌, ◌<◌}
use mathlib.Core.Logic.{◌≢◌}
use native.Mathlib.Nat.{add-zero, zero-add, add_assoc}
use native.Mathlib.Decide.{ℕ_discrete}
use native.Mathlib.Omega.{arith}
use borrow.Author.Tests.{eq-eqb, ne_eqb}
use lib.Dec.{eqb, leb}
use lib.ListN.{length, drop}
use Rattle.laws.specs.Counting.{one, hits}
use Rattle.laws.specs.Bits.{has, Words, words_for, with_bit, packed}
use Rattle.laws.proofs.Words.{with_put}
use Rattle.level.specs.Level.{Room, ClearWords, MarkStores, mark_stores, mark_one, mark_all, met, shared}
use Rattle.level.proofs.Folds.{fold_keeps}
use Rattle.level.proofs.Few.{first_more, again_more}
use Rattle.level.proofs.Kept.{Kept, kept_none, kept_more, kept_put, holds, put_here, put_other, clear_has}

-- ---- one id

module _ (g : ℕ → ℕ) (s : MarkStores) (id : ℕ) where
  -- the three ways that it goes
  pub mark_none : has s.collide (g id) ≡ true → mark_one g s id ≡ s
  unfolding mark_one
  mark_none e = rw e

  pub mark_again : has s.collide (g id) ≡ false → has s.words (g id) ≡ true → mark_one g s id ≡ mark_stores s.words (with_bit s.collide (g id))
  unfolding mark_one
  mark_again e f = rw (e, f)

  pub mark_first : has s.collide (g id) ≡ false → has s.words (g id) ≡ false → mark_one g s id ≡ mark_stores (with_bit s.words (g id)) s.collide
  unfolding mark_one
  mark_first e f = rw (e, f)

  -- what holds after each of them holds after marking
  mark_cases : (P : MarkStores → Type 0) → P s → P (mark_stores s.words (with_bit s.collide (g id))) → P (mark_stores (with_bit s.words (g id)) s.collide)
      → P (mark_one g s id)
  mark_cases P none again first = go (has s.collide (g id)) refl (has s.words (g id)) refl
    where
      go : (t : Bool) → has s.collide (g id) ≡ t → (u : Bool) → has s.words (g id) ≡ u → P (mark_one g s id)
      go true e u f = rw (mark_none e) none
      go false e true f = rw (mark_again e f) again
      go false e false f = rw (mark_first e f) first

  -- what it does to bit j: the level gets the id's position unless collide has it, and collide gets it where the level has it
  pub record Marked (j : ℕ) : Type 0 where
    pub level_bit : has (mark_one g s id).words j ≡ has s.words j || (eqb (g id) j && not (has s.collide j))
    pub collide_bit : has (mark_one g s id).collide j ≡ has s.collide j || (eqb (g id) j && has s.words j)

  module _ (own_room : g id / 64 < length s.words) (collide_room : g id / 64 < length s.collide) where
    marked_here : Marked (g id)
    marked_here = go (has s.collide (g id)) refl (has s.words (g id)) refl
      where
        same : eqb (g id) (g id) ≡ true
        same = eq-eqb (g id) (g id) refl

        go : (t : Bool) → has s.collide (g id) ≡ t → (u : Bool) → has s.words (g id) ≡ u → Marked (g id)
        go true e u f = record { level_bit = rw (mark_none e, e, same, or-false); collide_bit = rw (mark_none e, e) }
        go false e true f = record {
          level_bit = rw (mark_again e f, f);
          collide_bit = rw (mark_again e f, e, f, same, put_here (with_put s.collide (g id)) collide_room);
        }
        go false e false f = record {
          level_bit = rw (mark_first e f, e, same, or-true, put_here (with_put s.words (g id)) own_room);
          collide_bit = rw (mark_first e f, e, f, same);
        }

    marked_there : (j : ℕ) → j ≢ g id → Marked j
    marked_there j n = record { level_bit = rw (other, or-false) same.0; collide_bit = rw (other, or-false) same.1 }
      where
        other : eqb (g id) j ≡ false
        other = ne_eqb (g id) j (λ e. n (sym e))

        same : (has (mark_one g s id).words j ≡ has s.words j) × (has (mark_one g s id).collide j ≡ has s.collide j)
        same =
            mark_cases (λ t. (has t.words j ≡ has s.words j) × (has t.collide j ≡ has s.collide j))
            (refl, refl)
            (refl, put_other (with_put s.collide (g id)) collide_room j n)
            (put_other (with_put s.words (g id)) own_room j n, refl)

    pub marked : (j : ℕ) → Marked j
    marked j = elim (ℕ_discrete j (g id)) [ yes e ↦ rw e marked_here | no n ↦ marked_there j n ]

-- ---- what both stores have, and keep

-- what a level begins with: room, and needed words that are 0
pub record Fresh (size : ℕ) (s : MarkStores) : Type 0 where
  pub room : Room size s
  pub own_clear : ClearWords (words_for size) s.words
  pub other_clear : ClearWords (words_for size) s.collide
  pub own_words_lem : Words s.words
  pub other_words : Words s.collide

pub record Both (size : ℕ) (s t : MarkStores) : Type 0 where
  pub own : Kept size s.words t.words
  pub other : Kept size s.collide t.collide

both_none : (size : ℕ) (s : MarkStores) → Both size s s
both_none size s = record { own = kept_none size s.words; other = kept_none size s.collide }

both_more : (size : ℕ) {s t u : MarkStores} → Both size s t → Both size t u → Both size s u
both_more size k l = record { own = kept_more size k.own l.own; other = kept_more size k.other l.other }

pub still_room : (size : ℕ) {s t : MarkStores} → Both size s t → Room size s → Room size t
still_room size k r = record { own = rw k.own.same_length r.own; other = rw k.other.same_length r.other }

-- ---- a list of ids

-- ids in two lists: the second after the first
pub mark_append : (g : ℕ → ℕ) (s : MarkStores) (xs ys : List ℕ) → mark_all g s (xs ++ ys) ≡ mark_all g (mark_all g s xs) ys
mark_append g s xs ys = foldl-append (mark_one g) s xs ys

-- bit j of the stores, where n of the ids have that position
pub record Met (j n : ℕ) (s : MarkStores) : Type 0 where
  pub level_bit : has s.words j ≡ leb 1 n
  pub collide_bit : has s.collide j ≡ leb 2 n

module _ (g : ℕ → ℕ) (size : ℕ) (within : (id : ℕ) → g id < size) where
  pub mark_one_keeps : (s : MarkStores) (id : ℕ) → Both size s (mark_one g s id)
  mark_one_keeps s id =
      let none = both_none size s in
      mark_cases g s id (Both size s)
      none
      (record { own = none.own; other = kept_put size (with_put s.collide (g id)) (within id) })
      (record { own = kept_put size (with_put s.words (g id)) (within id); other = none.other })

  pub mark_keeps : (s : MarkStores) (ids : List ℕ) → Both size s (mark_all g s ids)
  mark_keeps s ids = fold_keeps (mark_one g) (Both size s) (λ t id k. both_more size k (mark_one_keeps t id)) ids s (both_none size s)

  -- one id more, and a list of them
  pub met-one : (j n : ℕ) (s : MarkStores) (id : ℕ) → Room size s → Met j n s → Met j (n + one (eqb (g id) j)) (mark_one g s id)
  met-one j n s id r m =
      let h = marked g s id (omega (arith, within id, r.own)) (omega (arith, within id, r.other)) j in
      record {
        level_bit = h.level_bit ∙ rw (m.level_bit, m.collide_bit) (first_more n (eqb (g id) j));
        collide_bit = h.collide_bit ∙ rw (m.level_bit, m.collide_bit) (again_more n (eqb (g id) j));
      }

  pub met_all : (j n : ℕ) (s : MarkStores) (ids : List ℕ) → Room size s → Met j n s → Met j (n + hits g j ids) (mark_all g s ids)
  met_all j n s [] r m = rw (add-zero n) m
  met_all j n s (id ∷ ids) r m =
      rw (← (add_assoc n (one (eqb (g id) j)) (hits g j ids)))
      (met_all j (n + one (eqb (g id) j)) (mark_one g s id) ids (still_room size (mark_one_keeps s id) r) (met-one j n s id r m))

  -- from words that are 0: the level has what was met, collide what was met again
  module _ (s : MarkStores) (fresh : Fresh size s) (ids : List ℕ) where
    pub marked_bits : (j : ℕ) → j < 64 * words_for size → Met j (hits g j ids) (mark_all g s ids)
    marked_bits j h =
        let none : Met j 0 s = record {
          level_bit = clear_has (words_for size) s.words fresh.own_clear j h;
          collide_bit = clear_has (words_for size) s.collide fresh.other_clear j h;
        } in
        rw (zero-add (hits g j ids)) at (met_all j 0 s ids fresh.room none)

    pub marked_own : (mark_all g s ids).words ≡ packed (words_for size) (met g ids) ++ drop (words_for size) s.words
    marked_own = holds size (met g ids) fresh.room.own fresh.own_words_lem (mark_keeps s ids).own (λ j h. (marked_bits j h).level_bit)

    pub marked_collide : (mark_all g s ids).collide ≡ packed (words_for size) (shared g ids) ++ drop (words_for size) s.collide
    marked_collide = holds size (shared g ids) fresh.room.other fresh.other_words (mark_keeps s ids).other (λ j h. (marked_bits j h).collide_bit)
