-- Parts of a store: one that is returned, one from a place on that is lent for writing, a list at its front and one from a place on; and places that all hold
-- one number.
-- Assumes nothing.
use mathlib.Core.Path.{◌≡◌, sym, ap, ◌∙◌}
use mathlib.Core.List.{List, [], ◌∷◌, ◌++◌, append_assoc, append-nil}
use Prim.Native.Nat.{ℕ, suc, ◌+◌, ◌-◌, ◌≤◌, ◌<◌}
use native.Mathlib.Nat.{le_dest, le_refl}
use native.Mathlib.Numerals.{add-one}
use native.Mathlib.Omega.{arith}
use lib.ListN.{length, get_or, set, take, drop, replicate, length-append, length-take, length-drop, drop_of_length-le, length-replicate, replicate-append-replicate}
use lib.Seq.{take_all, take_at, drop_at, drop-cons, drop-drop, set-append_seam, get_or-append-add, get_or-drop, append_snoc}
use Rattle.laws.specs.Stores.{filled, fronted, pasted}

-- a part has as many places as it was asked for
pub length_part : (at n : ℕ) (store : List ℕ) → at + n ≤ length store → {part : List ℕ} → part ≡ take n (drop at store) → length part ≡ n
length_part at n store h e = rw e (simp (length-take, length-drop) (omega arith))

-- a call that acts as f on the places from `at` on, and was lent all of them, leaves the places before as they were
pub lent_from : (f : List ℕ → List ℕ) (at : ℕ) (store : List ℕ) {part : List ℕ} → part ≡ f (take (length store - at) (drop at store))
    → take at store ++ (part ++ drop (length store - at) (drop at store)) ≡ take at store ++ f (drop at store)
lent_from f at store e =
    let l : length (drop at store) ≤ length store - at = rw length-drop (omega arith) in
    rw (e, take_all (length store - at) (drop at store) l, drop_of_length-le (drop at store) l, append-nil)

-- ---- a list at the front of a store

-- past the first of two lists stands the second
pub append_past : (front past : List ℕ) (i : ℕ) → length front ≤ i → get_or (front ++ past) i 0 ≡ get_or past (i - length front) 0
append_past front past i h =
    let e : i ≡ length front + (i - length front) = omega arith in
    ap (λ (k : ℕ). get_or (front ++ past) k 0) e ∙ get_or-append-add front past (i - length front) 0

pub front_past : (front store : List ℕ) (i : ℕ) → length front ≤ i → get_or (fronted front store) i 0 ≡ get_or store i 0
front_past front store i h =
    let e : length front + (i - length front) ≡ i = omega arith in
    append_past front (drop (length front) store) i h ∙ get_or-drop (length front) store (i - length front) 0 ∙ ap (λ (k : ℕ). get_or store k 0) e

pub front_more : (front store : List ℕ) (x : ℕ) → length front < length store → set (fronted front store) (length front) x ≡ fronted (front ++ (x ∷ [])) store
front_more front store x h =
    rw (drop-cons store (length front) 0 h, set-append_seam front (get_or store (length front) 0) (drop (suc (length front)) store) x, length-append, add-one)
    (sym (append_snoc front x (drop (suc (length front)) store)))

-- ---- a list in a store from a place on

pub length-pasted : (k : ℕ) (xs store : List ℕ) → k + length xs ≤ length store → length (pasted k xs store) ≡ length store
length-pasted k xs store h = simp (length-append, length-take, length-drop) (omega arith)

-- a list behind the one that was put in before
pub pasted_more : (k : ℕ) (xs ys store : List ℕ) → k + length xs + length ys ≤ length store
    → pasted (k + length xs) ys (pasted k xs store) ≡ pasted k (xs ++ ys) store
pasted_more k xs ys store h =
    let front : List ℕ = take k store ++ xs in
    let past : List ℕ = drop (length xs) (drop k store) in
    let l : length front ≡ k + length xs = simp (length-append, length-take) (omega arith) in
    rw (← append_assoc (take k store) xs past, take_at front past (k + length xs) l, drop_at front past (k + length xs) l, drop-drop (length ys) (length xs) (drop k store), length-append xs ys)
    (simp append_assoc)

-- ---- places that all hold one number

pub take_same : (n m v : ℕ) → n ≤ m → take n (replicate m v) ≡ replicate n v
take_same n m v h =
    let d = le_dest h in
    ap (λ (k : ℕ). take n (replicate k v)) (sym d.1) ∙ ap (take n) (sym (replicate-append-replicate n d.0 v))
    ∙ take_at (replicate n v) (replicate d.0 v) n (length-replicate n v)

pub drop_same : (n m v : ℕ) → n ≤ m → drop n (replicate m v) ≡ replicate (m - n) v
drop_same n m v h =
    let d = le_dest h in
    let e : m - n ≡ d.0 = omega arith in
    rw e (ap (λ (k : ℕ). drop n (replicate k v)) (sym d.1) ∙ ap (drop n) (sym (replicate-append-replicate n d.0 v))
    ∙ drop_at (replicate n v) (replicate d.0 v) n (length-replicate n v))

-- a list that is as long as the store fills it
pub filled_exact : (xs : List ℕ) (room : ℕ) → length xs ≡ room → filled xs room ≡ xs
filled_exact xs room e =
    let z : room - length xs ≡ 0 = omega arith in
    ap (λ (n : ℕ). xs ++ replicate n 0) z ∙ append-nil xs

-- a store that is filled to its end holds nothing else
pub filled_whole : (store : List ℕ) (v : ℕ) → replicate (length store) v ++ drop (length store) store ≡ replicate (length store) v
filled_whole store v =
    ap (λ (l : List ℕ). replicate (length store) v ++ l) (drop_of_length-le store (le_refl (length store))) ∙ append-nil (replicate (length store) v)
