-- The laws of sums over the numbers below a bound, and of ranks. Assumes nothing.
use mathlib.Core.Path.{◌≡◌, refl, sym, ap}
use mathlib.Core.Bool.{Bool, true, false}
use Prim.Native.Nat.{ℕ, zero, suc, ◌+◌, ◌*◌, ◌≤◌, ◌<◌, zero-le}
use native.Mathlib.Nat.{mul-zero, mul-suc, add-zero, add-suc, le_step, lt-suc_self}
use native.Mathlib.Decide.{le_ind}
use native.Mathlib.Omega.{arith}
use lib.Dec.{eqb, ltb}
use borrow.Author.Tests.{eqb-true}
use Rattle.laws.specs.Counting.{one, sum, rank}
use Rattle.laws.proofs.Cases.{Tri, lt, eq, gt, tri, one-eq, one_ne, one-lt, one_ge}

-- ---- sums

pub sum-zero : (n : ℕ) → sum (λ p. 0) n ≡ 0
sum-zero zero = refl
sum-zero (suc n) = omega (arith, sum-zero n)

pub sum-add : (v w : ℕ → ℕ) (n : ℕ) → sum (λ p. v p + w p) n ≡ sum v n + sum w n
sum-add v w zero = refl
sum-add v w (suc n) = omega (arith, sum-add v w n)

-- only the weights below the bound count
pub sum_same : (v w : ℕ → ℕ) (n : ℕ) → ((p : ℕ) → p < n → v p ≡ w p) → sum v n ≡ sum w n
sum_same v w zero e = refl
sum_same v w (suc n) e = omega (arith, sum_same v w n (λ p h. e p (omega arith)), e n (omega arith))

-- the more numbers, the more
pub sum_mono : (w : ℕ → ℕ) {m n : ℕ} → m ≤ n → sum w m ≤ sum w n
sum_mono w {m} {n} h = le_ind (λ (k : ℕ). sum w m ≤ sum w k) (omega arith) (λ k l e. omega arith) n h

-- a sum of n numbers none of which is above m
pub sum-most : (w : ℕ → ℕ) (m n : ℕ) → ((p : ℕ) → p < n → w p ≤ m) → sum w n ≤ m * n
sum-most w m zero h = omega arith
sum-most w m (suc n) h = omega (arith, sum-most w m n (λ p l. h p (le_step l)), h n (lt-suc_self n), mul-suc m n)

-- the numbers below m, and n more
pub sum_split : (w : ℕ → ℕ) (m n : ℕ) → sum w (m + n) ≡ sum w m + sum (λ k. w (m + k)) n
sum_split w m zero = rw (add-zero m) (omega arith)
sum_split w m (suc n) = rw add-suc (omega (arith, sum_split w m n))

one-lt-suc : (q n : ℕ) → one (ltb q (suc n)) ≡ one (ltb q n) + one (eqb q n)
one-lt-suc q n = go (tri q n)
  where
    go : Tri q n → one (ltb q (suc n)) ≡ one (ltb q n) + one (eqb q n)
    go (lt h) = omega (arith, one-lt q (suc n) (omega arith), one-lt q n h, one_ne q n (omega arith))
    go (eq e) = omega (arith, one-lt q (suc n) (omega arith), one_ge q n (omega arith), one-eq q n e)
    go (gt h) = omega (arith, one_ge q (suc n) (omega arith), one_ge q n (omega arith), one_ne q n (omega arith))

-- a weight at p may be read at q where p is q
at_point : (w : ℕ → ℕ) (q p : ℕ) → w p * one (eqb q p) ≡ w q * one (eqb q p)
at_point w q p = go (eqb q p) refl
  where
    go : (b : Bool) → eqb q p ≡ b → w p * one b ≡ w q * one b
    go true e = ap (λ (x : ℕ). w x * 1) (sym (eqb-true q p e))
    go false e = omega arith

-- only the point q counts
pub sum_point : (w : ℕ → ℕ) (q n : ℕ) → sum (λ p. w p * one (eqb q p)) n ≡ w q * one (ltb q n)
sum_point w q zero = rw (one_ge q 0 (omega arith)) (sym (mul-zero (w q)))
sum_point w q (suc n) =
    rw (one-lt-suc q n) (omega (arith, sum_point w q n, at_point w q n))

-- ---- which part of a sum a number falls in

pub record Part (w : ℕ → ℕ) (n k : ℕ) : Type 0 where
  pub at : ℕ
  pub at_lt : at < n
  pub from : sum w at ≤ k
  pub to : k < sum w at + w at

pub part : (w : ℕ → ℕ) (n k : ℕ) → k < sum w n → Part w n k
part w zero k h = absurd (omega arith)
part w (suc n) k h = go (tri k (sum w n)) (λ l. part w n k l)
  where
    go : Tri k (sum w n) → (k < sum w n → Part w n k) → Part w (suc n) k
    go (lt l) r = let t = r l in record { at = t.at; at_lt = omega (arith, t.at_lt); from = t.from; to = t.to }
    go (eq l) r = record { at = n; at_lt = omega arith; from = omega arith; to = h }
    go (gt l) r = record { at = n; at_lt = omega arith; from = omega arith; to = h }

pub part_one : (w : ℕ → ℕ) (i j k : ℕ) → sum w i ≤ k → k < sum w i + w i → sum w j ≤ k → k < sum w j + w j → i ≡ j
part_one w i j k a b c d = go (tri i j)
  where
    go : Tri i j → i ≡ j
    go (lt h) = absurd (omega (arith, sum_mono w {m = suc i} {n = j} h))
    go (eq e) = e
    go (gt h) = absurd (omega (arith, sum_mono w {m = suc j} {n = i} h))

-- ---- ranks: the numbers that pass a test, in order

pub rank_same : (f g : ℕ → Bool) (n : ℕ) → ((p : ℕ) → p < n → f p ≡ g p) → rank f n ≡ rank g n
rank_same f g n e = sum_same _ _ n (λ p h. ap one (e p h))

pub rank_lt : (f : ℕ → Bool) (p n : ℕ) → f p ≡ true → p < n → rank f p < rank f n
rank_lt f p n e h = omega (arith, sum_mono (λ q. one (f q)) {m = suc p} {n = n} h, ap one e)

pub rank_inj : (f : ℕ → Bool) (p q : ℕ) → f p ≡ true → f q ≡ true → rank f p ≡ rank f q → p ≡ q
rank_inj f p q a b e =
    part_one (λ r. one (f r)) p q (rank f p) (omega arith) (omega (arith, ap one a)) (omega arith) (omega (arith, ap one b))

-- the k-th number that passes
pub record Nth (f : ℕ → Bool) (n k : ℕ) : Type 0 where
  pub at : ℕ
  pub at_lt : at < n
  pub passes : f at ≡ true
  pub nth : rank f at ≡ k

pub select : (f : ℕ → Bool) (n k : ℕ) → k < rank f n → Nth f n k
select f n k h = let t = part (λ p. one (f p)) n k h in go t (f t.at) refl
  where
    go : (t : Part (λ p. one (f p)) n k) (b : Bool) → f t.at ≡ b → Nth f n k
    go t true e = record { at = t.at; at_lt = t.at_lt; passes = e; nth = omega (arith, ap one e, t.from, t.to) }
    go t false e = absurd (omega (arith, ap one e, t.from, t.to))

pub sum_ones : (n : ℕ) → sum (λ p. 1) n ≡ n
sum_ones zero = refl
sum_ones (suc n) = omega (arith, sum_ones n)

pub rank_none : (f : ℕ → Bool) (n : ℕ) → ((k : ℕ) → k < n → f k ≡ false) → rank f n ≡ 0
rank_none f zero e = refl
rank_none f (suc n) e = omega (arith, rank_none f n (λ k l. e k (le_step l)), ap one (e n (lt-suc_self n)))

-- and a test that passes nowhere below n fails at each number there
pub none_rank : (f : ℕ → Bool) (n : ℕ) → rank f n ≡ 0 → (k : ℕ) → k < n → f k ≡ false
none_rank f n e k l = go (f k) refl
  where
    go : (t : Bool) → f k ≡ t → t ≡ false
    go true h = absurd (omega (arith, rank_lt f k n h l))
    go false h = refl

pub rank-le : (f : ℕ → Bool) (n : ℕ) → rank f n ≤ n
rank-le f zero = zero-le
rank-le f (suc n) = omega (arith, rank-le f n, go (f n))
  where
    go : (t : Bool) → one t ≤ 1
    go true = omega arith
    go false = omega arith
