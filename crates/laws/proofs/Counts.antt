-- The laws of totals and counts over a list, of sifting, and of lists of the same members. The one that carries the rest is double counting: `double`.
-- Assumes nothing.
use mathlib.Core.Path.{◌≡◌, refl, sym, ap, ◌∙◌, fun_ext}
use mathlib.Core.Bool.{Bool, true, false, not, cond, ◌&&◌}
use mathlib.Core.List.{List, [], ◌∷◌, ◌++◌, Permᴰ}
use Prim.Native.Nat.{ℕ, zero, suc, ◌+◌, ◌*◌, ◌≤◌, ◌<◌, zero-le}
use native.Mathlib.Nat.{mul-zero, mul-one, mul-add}
use native.Mathlib.Omega.{arith}
use lib.Dec.{eqb, ltb}
use lib.ListN.{length, get_or, take}
use lib.Seq.{take-suc}
use borrow.Author.Tests.{eqb-true}
use Rattle.laws.specs.Counting.{one, total, sum, tally, hits, count, sift, Same}
use Rattle.laws.proofs.Cases.{Tri, lt, eq, gt, tri, one-eq, one_ne, one-lt}
use Rattle.laws.proofs.Sums.{sum-zero, sum-add, sum_same, sum_point}

-- ---- totals

pub total_same : (v w : ℕ → ℕ) → ((x : ℕ) → v x ≡ w x) → (xs : List ℕ) → total v xs ≡ total w xs
total_same v w e xs = ap (λ (f : ℕ → ℕ). total f xs) (fun_ext e)

pub total-mul : (c : ℕ) (w : ℕ → ℕ) (xs : List ℕ) → total (λ x. c * w x) xs ≡ c * total w xs
total-mul c w [] = sym (mul-zero c)
total-mul c w (x ∷ xs) = omega (arith, total-mul c w xs)

pub total-le : (v w : ℕ → ℕ) → ((x : ℕ) → v x ≤ w x) → (xs : List ℕ) → total v xs ≤ total w xs
total-le v w h [] = zero-le
total-le v w h (x ∷ xs) = omega (arith, total-le v w h xs, h x)

pub total-add : (v w : ℕ → ℕ) (xs : List ℕ) → total (λ x. v x + w x) xs ≡ total v xs + total w xs
total-add v w [] = refl
total-add v w (x ∷ xs) = omega (arith, total-add v w xs)

pub total-append : (w : ℕ → ℕ) (xs ys : List ℕ) → total w (xs ++ ys) ≡ total w xs + total w ys
total-append w [] ys = omega arith
total-append w (x ∷ xs) ys = omega (arith, total-append w xs ys)

pub total-take : (w : ℕ → ℕ) (xs : List ℕ) (k : ℕ) → k < length xs → total w (take (suc k) xs) ≡ total w (take k xs) + w (get_or xs k 0)
total-take w xs k h = rw (take-suc xs k 0) (omega (arith, total-append w (take k xs) (get_or xs k 0 ∷ [])))

pub length-total : (xs : List ℕ) → length xs ≡ total (λ x. 1) xs
length-total [] = refl
length-total (x ∷ xs) = omega (arith, length-total xs)

-- ---- double counting

-- Each member x of a list that g takes below s counts w (g x); or each point p below s counts w p for each member that g takes there.
pub double : (w g : ℕ → ℕ) (s : ℕ) (xs : List ℕ) → total (λ x. w (g x) * one (ltb (g x) s)) xs ≡ sum (λ p. w p * hits g p xs) s
double w g s [] = simp (mul-zero, sum-zero)
double w g s (x ∷ xs) = simp (mul-add, sum-add, sum_point) (omega (arith, double w g s xs))

-- where g stays below s, nothing is lost
pub double_all : (w g : ℕ → ℕ) (s : ℕ) → ((x : ℕ) → g x < s) → (xs : List ℕ) → total (λ x. w (g x)) xs ≡ sum (λ p. w p * hits g p xs) s
double_all w g s h xs =
    total_same _ _ (λ x. rw (one-lt (g x) s (h x)) (sym (mul-one (w (g x))))) xs ∙ double w g s xs

-- ---- lists of the same members

-- a bound above every member of a list
abbrev top : List ℕ → ℕ
top [] = 0
top (x ∷ xs) = suc x + top xs

below_top : (w : ℕ → ℕ) (s : ℕ) (xs : List ℕ) → top xs ≤ s → total (λ x. w x * one (ltb x s)) xs ≡ total w xs
below_top w s [] h = refl
below_top w s (x ∷ xs) h = rw (one-lt x s (omega arith)) (omega (arith, below_top w s xs (omega arith)))

-- they have the same totals
pub same_total : (w : ℕ → ℕ) {xs ys : List ℕ} → Same xs ys → total w xs ≡ total w ys
same_total w {xs} {ys} e =
    let s = top xs + top ys in
    sym (below_top w s xs (omega arith)) ∙ double w (λ x. x) s xs
    ∙ sum_same _ _ s (λ p h. ap (λ (n : ℕ). w p * n) (e.counts p))
    ∙ sym (double w (λ x. x) s ys) ∙ below_top w s ys (omega arith)

pub same_length : {xs ys : List ℕ} → Same xs ys → length xs ≡ length ys
same_length {xs} {ys} e = length-total xs ∙ same_total (λ x. 1) e ∙ sym (length-total ys)

-- a rearrangement, as mathlib has it, has the same members
pub perm_same : {xs ys : List ℕ} → Permᴰ xs ys → Same xs ys
perm_same p = record { counts = λ x. counted x p }
  where
    counted : (x : ℕ) {us vs : List ℕ} → Permᴰ us vs → count x us ≡ count x vs
    counted x Permᴰ.nil = refl
    counted x (Permᴰ.cons e q) = rw e (omega (arith, counted x q))
    counted x (Permᴰ.swap e f) = rw (e, f) (omega arith)
    counted x (Permᴰ.trans q r) = counted x q ∙ counted x r

-- ---- sifting

pub tally-sift : (f h : ℕ → Bool) (xs : List ℕ) → tally h (sift f xs) ≡ tally (λ x. f x && h x) xs
tally-sift f h [] = refl
tally-sift f h (x ∷ xs) = go (f x) ∙ ap (λ (n : ℕ). one (f x && h x) + n) (tally-sift f h xs)
  where
    go : (b : Bool) → tally h (cond b (x ∷ sift f xs) (sift f xs)) ≡ one (b && h x) + tally h (sift f xs)
    go true = refl
    go false = omega arith

pub length-sift : (f : ℕ → Bool) (xs : List ℕ) → length (sift f xs) ≡ tally f xs
length-sift f [] = refl
length-sift f (x ∷ xs) = go (f x) ∙ ap (λ (n : ℕ). one (f x) + n) (length-sift f xs)
  where
    go : (b : Bool) → length (cond b (x ∷ sift f xs) (sift f xs)) ≡ one b + length (sift f xs)
    go true = omega arith
    go false = omega arith

-- a test and its negation take every member
pub tally_not : (f : ℕ → Bool) (xs : List ℕ) → tally f xs + tally (λ x. not (f x)) xs ≡ length xs
tally_not f [] = refl
tally_not f (x ∷ xs) = omega (arith, tally_not f xs, go (f x))
  where
    go : (b : Bool) → one b + one (not b) ≡ 1
    go true = refl
    go false = refl

pub count-le-length : (x : ℕ) (xs : List ℕ) → count x xs ≤ length xs
count-le-length x xs = omega (arith, tally_not (λ y. eqb y x) xs)

-- x stays as often as it stood, or goes
pub count-sift : (f : ℕ → Bool) (x : ℕ) (xs : List ℕ) → count x (sift f xs) ≡ one (f x) * count x xs
count-sift f x xs = tally-sift f (λ y. eqb y x) xs ∙ total_same _ _ (λ y. go y (eqb y x) refl (f y) refl) xs ∙ total-mul (one (f x)) (λ y. one (eqb y x)) xs
  where
    go : (y : ℕ) (b : Bool) → eqb y x ≡ b → (c : Bool) → f y ≡ c → one (f y && b) ≡ one (f x) * one b
    go y true e true h = rw (← (eqb-true y x e), h)
    go y true e false h = rw (← (eqb-true y x e), h)
    go y false e true h = rw h (sym (mul-zero (one (f x))))
    go y false e false h = rw h (sym (mul-zero (one (f x))))

pub same_sift : (f : ℕ → Bool) {xs ys : List ℕ} → Same xs ys → Same (sift f xs) (sift f ys)
same_sift f {xs} {ys} s = record { counts = λ x. count-sift f x xs ∙ ap (λ (n : ℕ). one (f x) * n) (s.counts x) ∙ sym (count-sift f x ys) }

pub sift-append : (f : ℕ → Bool) (xs ys : List ℕ) → sift f (xs ++ ys) ≡ sift f xs ++ sift f ys
sift-append f [] ys = refl
sift-append f (x ∷ xs) ys = rw (sift-append f xs ys) (go (f x))
  where
    go : (b : Bool) → cond b (x ∷ (sift f xs ++ sift f ys)) (sift f xs ++ sift f ys) ≡ cond b (x ∷ sift f xs) (sift f xs) ++ sift f ys
    go true = refl
    go false = refl

pub sift-take : (f : ℕ → Bool) (xs : List ℕ) (k : ℕ) → k < length xs
    → sift f (take (suc k) xs) ≡ sift f (take k xs) ++ cond (f (get_or xs k 0)) (get_or xs k 0 ∷ []) []
sift-take f xs k h = rw (take-suc xs k 0) (sift-append f (take k xs) (get_or xs k 0 ∷ []))

-- ---- members

-- some member passes a test that counts any
pub record Picked (f : ℕ → Bool) (xs : List ℕ) : Type 0 where
  pub it : ℕ
  pub passes : f it ≡ true
  pub member : 0 < count it xs

pub pick : (f : ℕ → Bool) (xs : List ℕ) → 0 < tally f xs → Picked f xs
pick f [] h = absurd (omega arith)
pick f (x ∷ xs) h = go (f x) refl h (λ k. pick f xs k)
  where
    go : (b : Bool) → f x ≡ b → 0 < one b + tally f xs → (0 < tally f xs → Picked f xs) → Picked f (x ∷ xs)
    go true e k r = record { it = x; passes = e; member = omega (arith, one-eq x x refl) }
    go false e k r =
        let t = r (omega arith) in
        record { it = t.it; passes = t.passes; member = omega (arith, t.member) }

-- g takes no member to p
pub hits_none : (g : ℕ → ℕ) (p : ℕ) → ((x : ℕ) → g x ≡ p → ⊥) → (xs : List ℕ) → hits g p xs ≡ 0
hits_none g p n [] = refl
hits_none g p n (x ∷ xs) = omega (arith, hits_none g p n xs, one_ne (g x) p (n x))

-- where g takes x, it takes at least all the x of the list
one_image_lem : (g : ℕ → ℕ) (x y : ℕ) → one (eqb y x) ≤ one (eqb (g y) (g x))
one_image_lem g x y = go (eqb y x) refl
  where
    go : (b : Bool) → eqb y x ≡ b → one b ≤ one (eqb (g y) (g x))
    go true e = omega (arith, one-eq (g y) (g x) (ap g (eqb-true y x e)))
    go false e = zero-le

pub count-le-hits : (g : ℕ → ℕ) (x : ℕ) (xs : List ℕ) → count x xs ≤ hits g (g x) xs
count-le-hits g x xs = total-le _ _ (one_image_lem g x) xs

-- and two members that it takes to one point are two there
pub two-hits : (g : ℕ → ℕ) (x y : ℕ) (xs : List ℕ) → (x ≡ y → ⊥) → g x ≡ g y → count x xs + count y xs ≤ hits g (g x) xs
two-hits g x y xs n e = rw (← (total-add (λ z. one (eqb z x)) (λ z. one (eqb z y)) xs)) (total-le _ _ each xs)
  where
    each : (z : ℕ) → one (eqb z x) + one (eqb z y) ≤ one (eqb (g z) (g x))
    each z = go (eqb z x) refl
      where
        go : (b : Bool) → eqb z x ≡ b → one b + one (eqb z y) ≤ one (eqb (g z) (g x))
        go true q = omega (arith, one-eq (g z) (g x) (ap g (eqb-true z x q)), one_ne z y (λ r. n (sym (eqb-true z x q) ∙ r)))
        go false q = rw e (omega (arith, one_image_lem g y z))

-- what stands at a place is a member, and what stands at two places stands twice
pub count_at : (xs : List ℕ) (k : ℕ) → k < length xs → 0 < count (get_or xs k 0) xs
count_at [] k h = absurd (omega arith)
count_at (x ∷ xs) zero h = omega (arith, one-eq x x refl)
count_at (x ∷ xs) (suc k) h = omega (arith, count_at xs k (omega arith))

pub count-two : (xs : List ℕ) (j k : ℕ) → j < k → k < length xs → get_or xs j 0 ≡ get_or xs k 0 → 2 ≤ count (get_or xs k 0) xs
count-two [] j k l h e = absurd (omega arith)
count-two (x ∷ xs) j zero l h e = absurd (omega arith)
count-two (x ∷ xs) zero (suc k) l h e = omega (arith, one-eq x (get_or xs k 0) e, count_at xs k (omega arith))
count-two (x ∷ xs) (suc j) (suc k) l h e = omega (arith, count-two xs j k (omega arith) (omega arith) e)

-- a list of no members
pub empty : (xs : List ℕ) → length xs ≡ 0 → xs ≡ []
empty [] e = refl
empty (x ∷ xs) e = absurd (omega arith)

-- a list of one member that holds x is x alone
pub only : (x : ℕ) (xs : List ℕ) → length xs ≡ 1 → 0 < count x xs → xs ≡ x ∷ []
only x [] e h = absurd (omega arith)
only x (y ∷ []) e h = go (tri y x)
  where
    go : Tri y x → y ∷ [] ≡ x ∷ []
    go (lt l) = absurd (omega (arith, one_ne y x (omega arith)))
    go (eq q) = rw q
    go (gt l) = absurd (omega (arith, one_ne y x (omega arith)))
only x (y ∷ z ∷ zs) e h = absurd (omega arith)

-- and has no other order
pub same_one : {xs ys : List ℕ} → Same xs ys → length xs ≡ 1 → xs ≡ ys
same_one {xs} {ys} s e =
    let m = pick (λ x. true) xs (omega (arith, length-total xs)) in
    only m.it xs e m.member ∙ sym (only m.it ys (sym (same_length s) ∙ e) (omega (arith, s.counts m.it, m.member)))
