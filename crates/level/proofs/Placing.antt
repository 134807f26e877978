-- A level's two passes leave what the level rule says. Assumes nothing.
use mathlib.Core.Path.{◌≡◌, refl, sym, ap, ◌∙◌}
use mathlib.Core.Bool.{Bool, not}
use mathlib.Core.List.{List, [], ◌∷◌, ◌++◌, append_assoc}
use Prim.Native.Nat.{ℕ, ◌*◌, ◌≤◌, ◌<◌}
use native.Mathlib.Omega.{arith}
use lib.ListN.{length, take, drop, take-append-drop}
use lib.Seq.{take_all}
use Rattle.std.proofs.lemmas.List.{drop-append-le}
use Rattle.laws.specs.Counting.{hits, count, sift}
use Rattle.laws.specs.Bits.{has, words_for, packed}
use Rattle.laws.proofs.Cases.{one-eq}
use Rattle.laws.proofs.Counts.{count-le-hits, length-sift, tally_not}
use Rattle.rule.specs.Rule.{single, rest}
use Rattle.level.specs.Level.{MarkStores, mark_all, goes_on, filter_all, Filtered, AfterLevel}
use Rattle.level.proofs.Few.{one_not_two, two_not_one}
use Rattle.level.proofs.Kept.{kept_more, holds}
use Rattle.level.proofs.Marking.{Fresh, still_room, mark_keeps, marked_bits, marked_collide}
use Rattle.level.proofs.Filtering.{filter_keeps, filtered_bits}

-- tests that agree on the members of a list pass the same ones
sift_same : (f h : ℕ → Bool) (xs : List ℕ) → ((x : ℕ) → 0 < count x xs → f x ≡ h x) → sift f xs ≡ sift h xs
sift_same f h [] e = refl
sift_same f h (x ∷ xs) e =
    rw (e x (omega (arith, one-eq x x refl)), sift_same f h xs (λ y m. e y (omega arith)))

module _ (g : ℕ → ℕ) (size : ℕ) (within : (id : ℕ) → g id < size) (s : MarkStores) (fresh : Fresh size s) where
  -- the ids whose position collide has are those that the level rule sends on
  pub placed_rest : (ids : List ℕ) → sift (goes_on g (mark_all g s ids).collide) ids ≡ rest g ids
  placed_rest ids =
      sift_same _ _ ids
      (λ id m.
      (marked_bits g size within s fresh ids (g id) (omega (arith, within id))).collide_bit
      ∙ two_not_one (hits g (g id) ids) (omega (arith, count-le-hits g id ids)))

  -- the bits of the level are those of the level rule
  pub placed_bits : (ids : List ℕ) (j : ℕ) → j < 64 * words_for size
      → has (filter_all g (mark_all g s ids).collide (mark_all g s ids).words ids) j ≡ single g ids j
  placed_bits ids j h =
      let m = marked_bits g size within s fresh ids j h in
      let r = still_room size (mark_keeps g size within s ids) fresh.room in
      filtered_bits g size within (mark_all g s ids).collide (mark_all g s ids).words r.own ids j
      ∙ rw (m.level_bit, m.collide_bit) (one_not_two (hits g j ids))

  pub placed_words : (ids : List ℕ)
      → filter_all g (mark_all g s ids).collide (mark_all g s ids).words ids ≡ packed (words_for size) (single g ids) ++ drop (words_for size) s.words
  placed_words ids =
      holds size (single g ids) fresh.room.own fresh.own_words_lem
      (kept_more size (mark_keeps g size within s ids).own (filter_keeps g size within (mark_all g s ids).collide (mark_all g s ids).words ids))
      (placed_bits ids)

  -- so both passes, one after the other, leave what the level rule says
  pub placed : (count : ℕ) (store : List ℕ) {told : ℕ} {words' store' : List ℕ} {m : MarkStores} → m ≡ mark_all g s (take count store)
      → Filtered g m.collide count m.words store told words' store' → AfterLevel g size count s.words s.collide store told words' m.collide store'
  placed count store {told} {words'} {store'} marked t = rw marked (both (rw marked at t))
    where
      both : Filtered g (mark_all g s (take count store)).collide count (mark_all g s (take count store)).words store told words' store'
          → AfterLevel g size count s.words s.collide store told words' (mark_all g s (take count store)).collide store'
      both t = record {
        words_are = t.words_are ∙ placed_words (take count store);
        collide_is = marked_collide g size within s fresh (take count store);
        store_is = rw (placed_rest (take count store)) at t.store_is;
        count_is = rw (placed_rest (take count store)) at t.count_is;
      }

-- ---- the ids at the front of a longer store

rest-le : (g : ℕ → ℕ) (ids : List ℕ) → length (rest g ids) ≤ length ids
rest-le g ids =
    let on : ℕ → Bool = λ x. not (single g ids (g x)) in
    omega (arith, length-sift on ids, tally_not on ids)

-- what a level leaves in the first n places is what it leaves in the whole store
pub placed_front : (g : ℕ → ℕ) (size n : ℕ) (words collide store : List ℕ) {told : ℕ} {words' collide' front : List ℕ} → n ≤ length store
    → AfterLevel g size (length (take n store)) words collide (take n store) told words' collide' front
    → AfterLevel g size n words collide store told words' collide' (front ++ drop n store)
placed_front g size n words collide store {told} {words'} {collide'} {front} h t =
    let own : List ℕ = take n store in
    let e : take (length own) own ≡ own = take_all (length own) own (omega arith) in
    let on : List ℕ = rest g own in
    let few : length on ≤ length own = rest-le g own in
    record {
      words_are = rw e at t.words_are;
      collide_is = rw e at t.collide_is;
      store_is =
          ap (λ (l : List ℕ). l ++ drop n store) (rw e at t.store_is)
          ∙ append_assoc on (drop (length on) own) (drop n store)
          ∙ ap (λ (l : List ℕ). on ++ l) (sym (drop-append-le (length on) own (drop n store) few) ∙ ap (drop (length on)) (take-append-drop n store));
      count_is = rw e at t.count_is;
    }
