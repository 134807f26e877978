-- The laws of lists one after another, and of lists of numbers. Assumes nothing.
use mathlib.Core.Path.{◌≡◌, refl, sym, ap, ap₂, ◌∙◌}
use mathlib.Core.List.{List, [], ◌∷◌, ◌++◌, append_assoc, append-nil}
use Prim.Native.Nat.{ℕ, zero, suc, ◌+◌, ◌*◌, ◌≤◌, ◌<◌}
use native.Mathlib.Nat.{add-zero, add-suc, mul-zero, le_step, lt-suc_self}
use native.Mathlib.Omega.{arith}
use lib.Dec.{lit<}
use lib.ListN.{length, get_or, take, drop, replicate, length-append, length-drop, length-replicate, get_or-replicate, get_or-append}
use lib.Seq.{get_or-append-add, get_or-drop, get_or-take, length-take-le, ext_get_or}
use Rattle.laws.specs.Counting.{total, sum, chain, each}
use Rattle.laws.proofs.Cases.{Tri, lt, eq, gt, tri}
use Rattle.laws.proofs.Sums.{sum_same, sum_mono, sum_ones}
use Rattle.laws.proofs.Counts.{total-append}

-- only the first n lists count
pub chain_same : (f g : ℕ → List ℕ) (n : ℕ) → ((i : ℕ) → i < n → f i ≡ g i) → chain f n ≡ chain g n
chain_same f g zero e = refl
chain_same f g (suc n) e = ap₂ (λ (xs ys : List ℕ). xs ++ ys) (chain_same f g n (λ i h. e i (omega arith))) (e n (omega arith))

pub total-chain : (w : ℕ → ℕ) (f : ℕ → List ℕ) (n : ℕ) → total w (chain f n) ≡ sum (λ i. total w (f i)) n
total-chain w f zero = refl
total-chain w f (suc n) = omega (arith, total-append w (chain f n) (f n), total-chain w f n)

pub length-chain : (f : ℕ → List ℕ) (n : ℕ) → length (chain f n) ≡ sum (λ i. length (f i)) n
length-chain f zero = refl
length-chain f (suc n) = omega (arith, length-append (chain f n) (f n), length-chain f n)

-- where the lengths are known, the k-th of block j is reached by the sum of those before
pub chain_at : (f : ℕ → List ℕ) (w : ℕ → ℕ) → ((i : ℕ) → length (f i) ≡ w i) → (n j k : ℕ) → j < n → k < w j
    → get_or (chain f n) (sum w j + k) 0 ≡ get_or (f j) k 0
chain_at f w e zero j k h l = absurd (omega arith)
chain_at f w e (suc n) j k h l = go (tri j n) (λ q. chain_at f w e n j k q l)
  where
    len : length (chain f n) ≡ sum w n
    len = length-chain f n ∙ sum_same _ _ n (λ i h. e i)

    go : Tri j n → (j < n → get_or (chain f n) (sum w j + k) 0 ≡ get_or (f j) k 0) → get_or (chain f n ++ f n) (sum w j + k) 0 ≡ get_or (f j) k 0
    go (lt q) r = get_or-append (chain f n) (f n) 0 (sum w j + k) (omega (arith, len, sum_mono w {m = suc j} {n = n} q)) ∙ r q
    go (eq q) r = rw (q, ← len) (get_or-append-add (chain f n) (f n) k 0)
    go (gt q) r = absurd (omega arith)

pub chain_split : (f : ℕ → List ℕ) (m n : ℕ) → chain f (m + n) ≡ chain f m ++ chain (λ k. f (m + k)) n
chain_split f m zero = ap (chain f) (add-zero m) ∙ sym (append-nil (chain f m))
chain_split f m (suc n) =
    ap (chain f) (add-suc m n) ∙ ap (λ (l : List ℕ). l ++ f (m + n)) (chain_split f m n) ∙ append_assoc (chain f m) (chain (λ k. f (m + k)) n) (f (m + n))

pub chain_none : (f : ℕ → List ℕ) (n : ℕ) → ((k : ℕ) → k < n → f k ≡ []) → chain f n ≡ []
chain_none f zero e = refl
chain_none f (suc n) e = ap₂ (λ (x y : List ℕ). x ++ y) (chain_none f n (λ k l. e k (le_step l))) (e n (lt-suc_self n))

-- ---- a list of numbers

module _ (f : ℕ → ℕ) where
  pub each-suc : (n : ℕ) → each f (suc n) ≡ each f n ++ (f n ∷ [])
  unfolding each
  each-suc n = refl

  pub length-each : (n : ℕ) → length (each f n) ≡ n
  unfolding each
  length-each n = length-chain _ n ∙ sum_ones n

  pub each_at : (n i : ℕ) → i < n → get_or (each f n) i 0 ≡ f i
  unfolding each
  each_at n i h = rw (sum_ones i, add-zero i) at (chain_at (λ k. f k ∷ []) (λ k. 1) (λ k. refl) n i 0 h (lit< tt))

  pub each_split : (m n : ℕ) → each f (m + n) ≡ each f m ++ each (λ k. f (m + k)) n
  unfolding each
  each_split m n = chain_split _ m n

  -- m * n numbers are n lists of m
  pub each-chain : (m n : ℕ) → each f (m * n) ≡ chain (λ b. each (λ k. f (m * b + k)) m) n
  unfolding each
  each-chain m zero = ap (each f) (mul-zero m)
  each-chain m (suc n) =
      let e : m * suc n ≡ m * n + m = omega arith in
      ap (each f) e ∙ each_split (m * n) m ∙ ap (λ (l : List ℕ). l ++ each (λ k. f (m * n + k)) m) (each-chain m n)

pub each_same : (f g : ℕ → ℕ) (n : ℕ) → ((i : ℕ) → i < n → f i ≡ g i) → each f n ≡ each g n
unfolding each
each_same f g n e = chain_same _ _ n (λ i h. ap (λ (x : ℕ). x ∷ []) (e i h))

-- a list is that of its numbers
pub each_back : (xs : List ℕ) (n : ℕ) → length xs ≡ n → each (λ i. get_or xs i 0) n ≡ xs
each_back xs n l =
    let e = length-each (λ i. get_or xs i 0) n in
    ext_get_or 0 _ _ (e ∙ sym l) (λ i h. each_at (λ j. get_or xs j 0) n i (rw e at h))

-- and so is a part of a list
pub each_part : (xs : List ℕ) (c n : ℕ) → c + n ≤ length xs → each (λ i. get_or xs (c + i) 0) n ≡ take n (drop c xs)
each_part xs c n h =
    let l : length (take n (drop c xs)) ≡ n = length-take-le n (drop c xs) (rw length-drop (omega arith)) in
    each_same _ _ n (λ i k. sym (get_or-take n (drop c xs) i 0 k ∙ get_or-drop c xs i 0)) ∙ each_back (take n (drop c xs)) n l

-- numbers that are all the same
pub each_const : (f : ℕ → ℕ) (v n : ℕ) → ((i : ℕ) → i < n → f i ≡ v) → each f n ≡ replicate n v
each_const f v n e =
    let l = length-each f n in
    ext_get_or 0 _ _ (l ∙ sym (length-replicate n v))
    (λ i h. let m : i < n = rw l at h in each_at f n i m ∙ e i m ∙ sym (get_or-replicate n i v 0 m))
