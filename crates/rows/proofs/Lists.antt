-- The row list, over any rule that sends numbers to rows below a count: as many ids as rows, each with a row of its own, fill the rows one for one, and
-- the ids written at their rows in turn leave the row list. Assumes nothing.
use mathlib.Core.Path.{◌≡◌, refl, sym, ap, ap₂, ◌∙◌}
use mathlib.Core.Logic.{inl, inr}
use mathlib.Core.Bool.{Bool, true, false, cond, false≢true}
use mathlib.Core.List.{List, [], ◌∷◌, ◌++◌}
use mathlib.Core.Option.{Option, none, some}
use Prim.Native.Nat.{ℕ, zero, suc, ◌+◌, ◌*◌, ◌≤◌, ◌<◌, zero-le}
use native.Mathlib.Nat.{add-zero, one-mul, eq-or-lt_of_le, le_of_suc-le-suc}
use native.Mathlib.Numerals.{add-one}
use native.Mathlib.Decide.{ℕ_discrete}
use native.Mathlib.Omega.{arith}
use borrow.Author.Tests.{eqb-true, eq-eqb, ne_eqb, leb-false, lt-leb}
use lib.Dec.{eqb, leb}
use lib.ListN.{length, get_or, set, take, drop, length-set, take-append-drop}
use lib.Seq.{drop-cons, drop-length, length-take-le, drop-set-lt, get_or-set_same, get_or-set_other, get_or-take, ext_get_or}
use Rattle.laws.specs.Counting.{one, sum, rank, sift}
use Rattle.laws.proofs.Cases.{both, one-lt}
use Rattle.laws.proofs.Sums.{sum-zero, sum-add, sum_same, sum_point, sum_ones, rank_none, none_rank}
use Rattle.laws.proofs.Counts.{length-sift}
use Rattle.laws.proofs.Chains.{length-chain, chain_at}
use Rattle.rows.specs.Rows.{is_none, is_row, rowless, sent, apart, listed}
use Rattle.rows.specs.Passes.{with_id, with_ids}

-- ---- n numbers of which none is above 1 and whose sum is n are all 1

few : (w : ℕ → ℕ) (n : ℕ) → ((k : ℕ) → k < n → w k ≤ 1) → sum w n ≤ n
few w zero h = zero-le
few w (suc n) h = omega (arith, few w n (λ k l. h k (omega arith)), h n (omega arith))

all_one : (w : ℕ → ℕ) (n : ℕ) → ((k : ℕ) → k < n → w k ≤ 1) → sum w n ≡ n → (k : ℕ) → k < n → w k ≡ 1
all_one w zero h e k l = absurd (omega arith)
all_one w (suc n) h e k l =
    let f = few w n (λ j q. h j (omega arith)) in
    elim (eq-or-lt_of_le (le_of_suc-le-suc l)) [
      | inl q ↦ rw q (omega (arith, h n (omega arith)))
      | inr q ↦ all_one w n (λ j m. h j (omega arith)) (omega (arith, h n (omega arith))) k q
    ]

-- ---- ids that are apart: every one has a row and no two share one

module _ (row : ℕ → Option ℕ) (ids : List ℕ) (count : ℕ) where
  abbrev shared : ℕ → Bool
  shared k = leb 2 (sent row ids k)

  pub apart_known : apart row ids count ≡ true → (rowless row ids ≡ 0) × ((k : ℕ) → k < count → sent row ids k ≤ 1)
  unfolding apart
  apart_known e =
      let t = both _ _ e in
      (eqb-true _ _ t.0, λ k l. omega (arith, leb-false 2 (sent row ids k) (none_rank shared count (eqb-true _ _ t.1) k l)))

  pub apart_is : rowless row ids ≡ 0 → ((k : ℕ) → k < count → sent row ids k ≤ 1) → apart row ids count ≡ true
  unfolding apart
  apart_is e h =
      rw (eq-eqb (rowless row ids) 0 e, eq-eqb (rank shared count) 0 (rank_none shared count (λ k l. lt-leb 2 (sent row ids k) (omega (arith, h k l)))))

  pub not_apart : (apart row ids count ≡ true → ⊥) → apart row ids count ≡ false
  not_apart n = go (apart row ids count) refl
    where
      go : (b : Bool) → apart row ids count ≡ b → b ≡ false
      go true e = absurd (n e)
      go false e = refl

-- ---- the first of the members that pass passes

sift-first : (f : ℕ → Bool) (xs : List ℕ) → 0 < length (sift f xs) → f (get_or (sift f xs) 0 0) ≡ true
sift-first f [] h = absurd (omega arith)
sift-first f (x ∷ xs) h = go (f x) refl h (λ l. sift-first f xs l)
  where
    go : (b : Bool) → f x ≡ b → 0 < length (cond b (x ∷ sift f xs) (sift f xs)) → (0 < length (sift f xs) → f (get_or (sift f xs) 0 0) ≡ true)
        → f (get_or (cond b (x ∷ sift f xs) (sift f xs)) 0 0) ≡ true
    go true e l r = e
    go false e l r = r l

-- ---- rows below a count

module _ (row : ℕ → Option ℕ) (count : ℕ) (below : (x r : ℕ) → row x ≡ some r → r < count) where
  -- each id has no row, or one of the rows
  one_place : (o : Option ℕ) → ((r : ℕ) → o ≡ some r → r < count) → one (is_none o) + sum (λ k. one (is_row k o)) count ≡ 1
  one_place none h = omega (arith, sum-zero count)
  one_place (some r) h =
      omega (arith, sum_same (λ k. one (eqb r k)) (λ k. 1 * one (eqb r k)) count (λ k l. sym (one-mul _)), sum_point (λ k. 1) r count, one-lt r count (h r refl))

  -- the ids without a row and those sent to each row are all ids
  all-sent : (xs : List ℕ) → rowless row xs + sum (sent row xs) count ≡ length xs
  all-sent [] = omega (arith, sum-zero count)
  all-sent (x ∷ xs) =
      omega (arith, all-sent xs, one_place (row x) (below x), sum-add (λ k. one (is_row k (row x))) (sent row xs) count)

  -- so that each row has one id, where there are as many ids as rows and they are apart
  one_each : (ids : List ℕ) → length ids ≡ count → apart row ids count ≡ true → (k : ℕ) → k < count → sent row ids k ≡ 1
  one_each ids n e = let t = apart_known row ids count e in all_one (sent row ids) count t.1 (omega (arith, all-sent ids, t.0))

  -- ---- the ids, written at their rows in turn

  writes_length : (ids rows : List ℕ) → length (with_ids row ids rows) ≡ length rows
  unfolding with_ids
  writes_length [] rows = refl
  writes_length (x ∷ ids) rows = writes_length ids (with_id (row x) x rows) ∙ go (row x)
    where
      go : (o : Option ℕ) → length (with_id o x rows) ≡ length rows
      go none = refl
      go (some r) = length-set rows r x

  writes_past : (ids rows : List ℕ) → drop count (with_ids row ids rows) ≡ drop count rows
  unfolding with_ids
  writes_past [] rows = refl
  writes_past (x ∷ ids) rows = writes_past ids (with_id (row x) x rows) ∙ go (row x) (below x)
    where
      go : (o : Option ℕ) → ((r : ℕ) → o ≡ some r → r < count) → drop count (with_id o x rows) ≡ drop count rows
      go none h = refl
      go (some r) h = drop-set-lt count rows r x (h r refl)

  -- the last of some ids, or what was there
  abbrev last_of : ℕ → List ℕ → ℕ
  last_of d [] = d
  last_of d (x ∷ xs) = last_of x xs

  abbrev sent_to : List ℕ → ℕ → List ℕ
  sent_to ids k = sift (λ x. is_row k (row x)) ids

  -- each row holds the last id that is sent there
  writes_at : (ids rows : List ℕ) (k : ℕ) → k < length rows → get_or (with_ids row ids rows) k 0 ≡ last_of (get_or rows k 0) (sent_to ids k)
  unfolding with_ids
  writes_at [] rows k l = refl
  writes_at (x ∷ ids) rows k l = go (row x) (λ us e. writes_at ids us k (rw e l))
    where
      go : (o : Option ℕ) → ((us : List ℕ) → length us ≡ length rows → get_or (with_ids row ids us) k 0 ≡ last_of (get_or us k 0) (sent_to ids k))
          → get_or (with_ids row ids (with_id o x rows)) k 0 ≡ last_of (get_or rows k 0) (cond (is_row k o) (x ∷ sent_to ids k) (sent_to ids k))
      go none next = next rows refl
      go (some r) next =
          next (set rows r x) (length-set rows r x)
          ∙ elim (ℕ_discrete r k) [
            | yes e ↦ rw (e, eq-eqb k k refl, get_or-set_same rows k x 0 l)
            | no n ↦ rw (ne_eqb r k n, get_or-set_other rows r k x 0 (λ e. n (sym e)))
          ]

  -- which is the only one, if there is one
  only : (d : ℕ) (xs : List ℕ) → length xs ≡ 1 → last_of d xs ≡ get_or xs 0 0
  only d [] e = absurd (omega arith)
  only d (x ∷ []) e = refl
  only d (x ∷ y ∷ xs) e = absurd (omega arith)

  module _ (ids rows : List ℕ) (n : length ids ≡ count) (e : apart row ids count ≡ true) (room : count ≤ length rows) where
    lone : (k : ℕ) → k < count → length (sent_to ids k) ≡ 1
    lone k l = length-sift _ ids ∙ one_each ids n e k l

    lone_sum : (k : ℕ) → k ≤ count → sum (λ j. length (sent_to ids j)) k ≡ k
    lone_sum k h = sum_same _ (λ j. 1) k (λ j l. lone j (omega arith)) ∙ sum_ones k

    pub listed-length : length (listed row ids count) ≡ count
    unfolding listed
    listed-length = length-chain (sent_to ids) count ∙ lone_sum count (omega arith)

    listed_at : (k : ℕ) → k < count → get_or (listed row ids count) k 0 ≡ get_or (sent_to ids k) 0 0
    unfolding listed
    listed_at k l =
        rw (lone_sum k (omega arith), add-zero k) at
        (chain_at (sent_to ids) (λ j. length (sent_to ids j)) (λ j. refl) count k 0 l (omega (arith, lone k l)))

    -- at each row stands an id that is sent there
    pub listed-row : (k : ℕ) → k < count → row (get_or (listed row ids count) k 0) ≡ some k
    listed-row k l = rw (listed_at k l) (go (row (get_or (sent_to ids k) 0 0)) (sift-first (λ x. is_row k (row x)) ids (omega (arith, lone k l))))
      where
        go : (o : Option ℕ) → is_row k o ≡ true → o ≡ some k
        go none e = absurd (false≢true e)
        go (some r) e = ap some (eqb-true r k e)

    -- the row list stands at the front, and what is past it is as it was
    pub all_listed : with_ids row ids rows ≡ listed row ids count ++ drop count rows
    all_listed =
        let us : List ℕ = with_ids row ids rows in
        let len : length (take count us) ≡ count = length-take-le count us (rw (writes_length ids rows) room) in
        let front : take count us ≡ listed row ids count =
        ext_get_or 0 (take count us) (listed row ids count) (len ∙ sym listed-length)
        (λ k l.
        let m : k < count = rw len at l in
        get_or-take count us k 0 m ∙ writes_at ids rows k (omega arith) ∙ only (get_or rows k 0) (sent_to ids k) (lone k m) ∙ sym (listed_at k m)) in
        sym (take-append-drop count us) ∙ ap₂ (λ (xs ys : List ℕ). xs ++ ys) front (writes_past ids rows)

-- ---- the same in code: what is left of the ids

module _ (row : ℕ → Option ℕ) (ids start rows : List ℕ) (i : ℕ) (whole : with_ids row (drop i ids) rows ≡ with_ids row ids start) where
  pub writes_more : (after : List ℕ) → i < length ids → after ≡ with_id (row (get_or ids i 0)) (get_or ids i 0) rows
      → with_ids row (drop (i + 1) ids) after ≡ with_ids row ids start
  unfolding with_ids
  writes_more after h e = rw (add-one i, e) (rw (drop-cons ids i 0 h) at whole)

  pub writes_done : i ≡ length ids → rows ≡ with_ids row ids start
  unfolding with_ids
  writes_done e = rw (e, drop-length ids) at whole
