-- The rows of the ids, and their row list: first where a level places an id, then what holds if no id is left. Assumes nothing.
use mathlib.Core.Path.{◌≡◌, refl, sym, ap, ◌∙◌, subst₂}
use mathlib.Core.Bool.{Bool, true, false, cond}
use mathlib.Core.List.{List, []}
use mathlib.Core.Option.{some}
use Prim.Native.Nat.{ℕ, zero, suc, ◌+◌, ◌-◌, ◌*◌, ◌≤◌, ◌<◌, zero-le}
use native.Mathlib.Nat.{add-zero, mul-one, lt_of_not-le}
use native.Mathlib.Omega.{arith}
use lib.Dec.{eqb}
use lib.ListN.{length, get_or}
use lib.Seq.{ext_get_or}
use borrow.Author.Tests.{eqb-true}
use Rattle.laws.specs.Counting.{one, sum, rank, count, sift, Same}
use Rattle.laws.proofs.Cases.{Tri, lt, eq, gt, tri, one-eq, one-lt}
use Rattle.laws.proofs.Sums.{sum_same, sum_mono, sum_point, part, part_one, rank_lt, rank_inj, select}
use Rattle.laws.proofs.Counts.{total-append, same_length, length-sift, count-sift, pick, count-two, only}
use Rattle.laws.proofs.Chains.{total-chain, length-chain, chain_at}
use Rattle.rule.specs.Rule.{Rule, remaining, span, bit, ones, base, row_at, RowPlace, first, place, find, row, at_bit, in_level, row_list}
use Rattle.rule.specs.Demand.{Sound, Before, by_level, by_position, Perfect}
use Rattle.rule.proofs.Level.{set-one, one_id}
use Rattle.rule.proofs.Levels.{spot, marked, stays, goes, fewer_le, unset, twice, spot-lt, all_accounted}
use Rattle.rule.proofs.Reader.{first_is, row_found, lookup-lt}

module _ (rule : Rule) (ids : List ℕ) where
  -- Short names, of level i: the ids left before it, its size, its bits, how many are set.
  abbrev Left : ℕ → List ℕ
  Left = remaining rule ids

  abbrev Span : ℕ → ℕ
  Span = span rule ids

  abbrev Bits : ℕ → ℕ → Bool
  Bits = bit rule ids

  abbrev Ones : ℕ → ℕ
  Ones = ones Span Bits

  -- the position of x in level i; and the row, and the place, that it has there if its bit is set
  abbrev Spot : ℕ → ℕ → ℕ
  Spot = spot rule ids

  abbrev Here : ℕ → ℕ → ℕ
  Here i x = row_at Span Bits i (Spot i x)

  abbrev At : ℕ → ℕ → RowPlace
  At i x = record { row = Here i x; level = i; position = Spot i x }

  -- ---- where an id is placed

  -- level j places x: x comes to it, and has a bit
  record Sits (x j : ℕ) : Type 0 where
    comes : 0 < count x (Left j)
    has : marked rule ids j x ≡ true

  sits_first : (n : ℕ) {x j : ℕ} → j < n → Sits x j → first rule.pos Span Bits n 0 x ≡ some j
  sits_first n {x} {j} h t = first_is rule.pos Span Bits n 0 j x (omega arith) (omega arith) (λ m l. unset rule ids x m j l t.comes) t.has

  sits_find : (n : ℕ) {x j : ℕ} → j < n → Sits x j → find rule ids n x ≡ some (At j x)
  sits_find n {x} h t = ap (place rule.pos Span Bits x) (sits_first n h t)

  sits_row : (n : ℕ) {x j : ℕ} → j < n → Sits x j → row rule ids n x ≡ some (Here j x)
  sits_row n h t = rw (sits_first n h t)

  -- an id that is no longer left sits in a level before
  seat : (x n : ℕ) → 0 < count x ids → count x (Left n) ≡ 0 → (j : ℕ) × (j < n) × Sits x j
  unfolding remaining
  seat x zero m e = absurd (omega arith)
  seat x (suc n) m e = go (tri 0 (count x (Left n))) (marked rule ids n x) refl (λ q. seat x n m q)
    where
      go : Tri 0 (count x (Left n)) → (b : Bool) → marked rule ids n x ≡ b → (count x (Left n) ≡ 0 → (j : ℕ) × (j < n) × Sits x j)
          → (j : ℕ) × (j < suc n) × Sits x j
      go (lt h) true t r = (n, omega arith, record { comes = h; has = t })
      go (lt h) false t r = absurd (omega (arith, stays rule ids n x t))
      go (eq q) b t r =
          let u = r (sym q) in
          (u.0, omega (arith, u.1), u.2)
      go (gt h) b t r = absurd (omega arith)

  module _ (sound : Sound rule) where
    below : (i x : ℕ) → Spot i x < Span i
    below = spot-lt rule ids sound

    -- a row lies in its level's part
    sits_part : {x j : ℕ} → Sits x j → Here j x < sum Ones j + Ones j
    sits_part {x} {j} t = omega (arith, rank_lt (Bits j) (Spot j x) (Span j) t.has (below j x))

    -- two ids in one row are one
    sits_one : {x y i j : ℕ} → Sits x i → Sits y j → Here i x ≡ Here j y → x ≡ y
    sits_one {x} {y} {i} {j} a b e =
        let q : i ≡ j = part_one Ones i j (Here i x) (omega arith) (sits_part a) (omega arith) (omega (arith, sits_part b)) in
        let c : Sits x j = rw q at a in
        let r : Here j x ≡ Here j y = rw q at e in
        one_id (Spot j) (Left j) x y c.has (rank_inj (Bits j) (Spot j x) (Spot j y) c.has b.has (omega arith)) c.comes b.comes

    -- rows are in order of level and position
    sits_order : {x y i j : ℕ} → Sits x i → Sits y j → Here i x < Here j y → Before (At i x) (At j y)
    sits_order {x} {y} {i} {j} a b h = go (tri i j)
      where
        go : Tri i j → Before (At i x) (At j y)
        go (lt q) = by_level q
        go (eq q) =
            let r : Here j x < Here j y = rw q at h in
            by_position q
            (rw q (lt_of_not-le (λ (z : Spot j y ≤ Spot j x). omega (arith, sum_mono (λ p. one (Bits j p)) {m = Spot j y} {n = Spot j x} z))))
        go (gt q) = absurd (omega (arith, sits_part b, sum_mono Ones {m = suc j} {n = i} q))

    -- every row has an id
    record Taken (n k : ℕ) : Type 0 where
      id : ℕ
      level : ℕ
      level_lt : level < n
      sits : Sits id level
      here : Here level id ≡ k

    taken : (n k : ℕ) → k < base Span Bits n → Taken n k
    taken n k h =
        let u = part Ones n k h in
        let v = select (Bits u.at) (Span u.at) (k - sum Ones u.at) (omega (arith, u.from, u.to)) in
        let e = set-one (Spot u.at) (Left u.at) v.at v.passes in
        let w = pick (λ x. eqb (Spot u.at x) v.at) (Left u.at) (omega arith) in
        let q : Spot u.at w.it ≡ v.at = eqb-true (Spot u.at w.it) v.at w.passes in
        record {
          id = w.it;
          level = u.at;
          level_lt = u.at_lt;
          sits = record { comes = w.member; has = rw q v.passes };
          here = rw q (omega (arith, v.nth, u.from));
        }

    -- ---- the row list

    -- a set bit lists one id, the one that sits there
    at_length : (i p : ℕ) → length (at_bit rule ids i p) ≡ one (Bits i p)
    at_length i p = go (Bits i p) refl
      where
        go : (b : Bool) → Bits i p ≡ b → length (cond b (sift (λ x. eqb (Spot i x) p) (Left i)) []) ≡ one b
        go true e = length-sift (λ x. eqb (Spot i x) p) (Left i) ∙ set-one (Spot i) (Left i) p e
        go false e = refl

    at_sits : {x j : ℕ} → Sits x j → get_or (at_bit rule ids j (Spot j x)) 0 0 ≡ x
    at_sits {x} {j} t =
        let h : 0 < count x (at_bit rule ids j (Spot j x))
        = rw (t.has, count-sift (λ y. eqb (Spot j y) (Spot j x)) x (Left j), one-eq (Spot j x) (Spot j x) refl) (omega (arith, t.comes)) in
        ap (λ (l : List ℕ). get_or l 0 0) (only x (at_bit rule ids j (Spot j x)) (at_length j (Spot j x) ∙ ap one t.has) h)

    -- a level lists its set bits
    in_length : (i : ℕ) → length (in_level rule ids i) ≡ Ones i
    in_length i = length-chain (at_bit rule ids i) (Span i) ∙ sum_same _ _ (Span i) (λ p h. at_length i p)

    in_sits : {x j : ℕ} → Sits x j → get_or (in_level rule ids j) (rank (Bits j) (Spot j x)) 0 ≡ x
    in_sits {x} {j} t =
        rw add-zero
        at (chain_at (at_bit rule ids j) (λ p. one (Bits j p)) (at_length j) (Span j) (Spot j x) 0 (below j x) (omega (arith, ap one t.has)))
        ∙ at_sits t

    in_count : (x i : ℕ) → count x (in_level rule ids i) ≡ one (marked rule ids i x) * count x (Left i)
    in_count x i =
        total-chain (λ y. one (eqb y x)) (at_bit rule ids i) (Span i)
        ∙ sum_same _ _ (Span i) (λ p h. each p)
        ∙ sum_point (λ p. one (Bits i p) * count x (Left i)) (Spot i x) (Span i)
        ∙ rw (one-lt (Spot i x) (Span i) (below i x)) (mul-one (one (marked rule ids i x) * count x (Left i)))
      where
        each : (p : ℕ) → count x (at_bit rule ids i p) ≡ one (Bits i p) * count x (Left i) * one (eqb (Spot i x) p)
        each p = go (Bits i p)
          where
            go : (b : Bool) → count x (cond b (sift (λ y. eqb (Spot i y) p) (Left i)) []) ≡ one b * count x (Left i) * one (eqb (Spot i x) p)
            go true = omega (arith, count-sift (λ y. eqb (Spot i y) p) x (Left i))
            go false = omega arith

    -- the row list holds what is no longer left, as often as the ids have it, and each at its row
    list_count : (x n : ℕ) → count x (row_list rule ids n) + count x (Left n) ≡ count x ids
    unfolding remaining
    list_count x zero = omega arith
    list_count x (suc n) = go (marked rule ids n x) refl (list_count x n)
      where
        split : count x (row_list rule ids (suc n)) ≡ count x (row_list rule ids n) + count x (in_level rule ids n)
        split = total-append (λ y. one (eqb y x)) (row_list rule ids n) (in_level rule ids n)

        go : (b : Bool) → marked rule ids n x ≡ b → count x (row_list rule ids n) + count x (Left n) ≡ count x ids
            → count x (row_list rule ids (suc n)) + count x (Left (suc n)) ≡ count x ids
        go true e r = omega (arith, split, goes rule ids n x e, rw e at (in_count x n))
        go false e r = omega (arith, split, stays rule ids n x e, rw e at (in_count x n))

    list_sits : (n : ℕ) {x j : ℕ} → j < n → Sits x j → get_or (row_list rule ids n) (Here j x) 0 ≡ x
    list_sits n {x} {j} h t =
        chain_at (in_level rule ids) Ones in_length n j (rank (Bits j) (Spot j x)) h (rank_lt (Bits j) (Spot j x) (Span j) t.has (below j x))
        ∙ in_sits t

    -- ---- no id is left

    module _ (n : ℕ) (done : Left n ≡ []) where
      gone : (x : ℕ) → count x (Left n) ≡ 0
      gone x = ap (count x) done

      all_set : base Span Bits n ≡ length ids
      all_set = omega (arith, all_accounted rule ids sound n, ap length done)

      once : (x : ℕ) → count x ids ≤ 1
      once x = go (tri (count x ids) 2)
        where
          go : Tri (count x ids) 2 → count x ids ≤ 1
          go (lt h) = omega arith
          go (eq e) = absurd (omega (arith, gone x, twice rule ids x (omega arith) n))
          go (gt h) = absurd (omega (arith, gone x, twice rule ids x (omega arith) n))

      seated : (x : ℕ) → 0 < count x ids → (j : ℕ) × (j < n) × Sits x j
      seated x m = seat x n m (gone x)

      -- the level and the row of an id
      in_row : (x k : ℕ) → 0 < count x ids → row rule ids n x ≡ some k → (j : ℕ) × (j < n) × Sits x j × (Here j x ≡ k)
      in_row x k m p =
          let u = seated x m in
          let q = sits_row n u.1 u.2 in
          (u.0, u.1, u.2, cc)

      row_taken : (k : ℕ) → k < length ids → (x : ℕ) × (0 < count x ids) × (row rule ids n x ≡ some k)
      unfolding remaining
      row_taken k h =
          let u = taken n k (omega (arith, all_set)) in
          let m = fewer_le rule ids u.id {i = 0} {j = u.level} zero-le in
          (u.id, omega (arith, u.sits.comes, m), sits_row n u.level_lt u.sits ∙ ap some u.here)

      list_same : Same (row_list rule ids n) ids
      list_same = record { counts = λ x. omega (arith, list_count x n, gone x) }

      list_at : (x k : ℕ) → 0 < count x ids → row rule ids n x ≡ some k → get_or (row_list rule ids n) k 0 ≡ x
      list_at x k m p =
          let u = in_row x k m p in
          rw u.3 at (list_sits n u.1 u.2)

      list_row : (k : ℕ) → k < length ids → row rule ids n (get_or (row_list rule ids n) k 0) ≡ some k
      list_row k h =
          let u = row_taken k h in
          rw (list_at u.0 k u.1 u.2) u.2

      -- the id at k of the row list is found where it sits
      list_found : (k : ℕ) (u : RowPlace) (t : Taken n k) → find rule ids n (get_or (row_list rule ids n) k 0) ≡ some u → At t.level t.id ≡ u
      list_found k u t e =
          let p : get_or (row_list rule ids n) k 0 ≡ t.id = rw t.here at (list_sits n t.level_lt t.sits) in
          let q = sits_find n t.level_lt t.sits in
          let r : find rule ids n t.id ≡ some u = rw p at e in
          cc

      pub perfect : Perfect rule ids n
      perfect = record {
        distinct = λ i j l h e. omega (arith, once (get_or ids j 0), count-two ids i j l h e);
        all_set = all_set;
        has_row = λ x m. let u = seated x m in (Here u.0 x, sits_row n u.1 u.2);
        row_lt = λ x k e.
            let f = row_found (find rule ids n x) k e in
            omega (arith, lookup-lt rule.pos Span Bits n (λ i y h. below i y) x f.1, f.2, all_set);
        row_taken = row_taken;
        one_row = λ x y k a b p q.
            let u = in_row x k a p in
            let v = in_row y k b q in
            sits_one u.2 v.2 (cc);
        listed = λ x m. omega (arith, list_same.counts x, once x);
        list_same = list_same;
        list_at = list_at;
        list_row = list_row;
        rising = λ k l u v h m p q.
            let a = taken n k (omega (arith, all_set)) in
            let b = taken n l (omega (arith, all_set)) in
            subst₂ Before (list_found k u a p) (list_found l v b q) (sits_order a.sits b.sits (omega (arith, a.here, b.here)));
        list_only = λ t l f.
            ext_get_or 0 t (row_list rule ids n) (l ∙ sym (same_length list_same))
            (λ k h. let u = row_taken k (omega arith) in f u.0 k u.1 u.2 ∙ sym (list_at u.0 k u.1 u.2));
      }
