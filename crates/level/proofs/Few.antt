-- A number is 0, 1 or more: what the tests "at least one", "at least two" and "exactly one" say of each other, and of one more. Assumes nothing.
use mathlib.Core.Path.{◌≡◌, refl}
use mathlib.Core.Bool.{Bool, true, false, not, ◌||◌, ◌&&◌, or-false}
use Prim.Native.Nat.{ℕ, zero, suc, ◌+◌, ◌<◌}
use native.Mathlib.Nat.{add-zero, zero-add}
use native.Mathlib.Omega.{arith}
use borrow.Author.Tests.{ne_eqb, le-leb}
use lib.Dec.{eqb, leb}
use Rattle.laws.specs.Counting.{one}

few : (P : ℕ → Type 0) → P 0 → P 1 → ((n : ℕ) → 1 < n → P n) → (n : ℕ) → P n
few P none single more zero = none
few P none single more (suc zero) = single
few P none single more (suc (suc n)) = more (suc (suc n)) (omega arith)

-- one more, if the test passes: it is the first where there was none, and another where there was one
pub first_more : (n : ℕ) (t : Bool) → leb 1 n || (t && not (leb 2 n)) ≡ leb 1 (n + one t)
first_more n false = rw (or-false, add-zero)
first_more n true =
    few (λ m. leb 1 m || not (leb 2 m) ≡ leb 1 (m + 1)) refl refl (λ m h. rw (le-leb 1 m (omega arith), le-leb 1 (m + 1) (omega arith))) n

pub again_more : (n : ℕ) (t : Bool) → leb 2 n || (t && leb 1 n) ≡ leb 2 (n + one t)
again_more n false = rw (or-false, add-zero)
again_more n true = few (λ m. leb 2 m || leb 1 m ≡ leb 2 (m + 1)) refl refl (λ m h. rw (le-leb 2 m h, le-leb 2 (m + 1) (omega arith))) n

pub any_more : (t : Bool) (n : ℕ) → t || leb 1 n ≡ leb 1 (one t + n)
any_more false n = rw zero-add
any_more true n = rw (le-leb 1 (1 + n) (omega arith))

-- exactly one is at least one and not two
pub one_not_two : (n : ℕ) → leb 1 n && not (leb 1 n && leb 2 n) ≡ eqb n 1
one_not_two n =
    few (λ m. leb 1 m && not (leb 1 m && leb 2 m) ≡ eqb m 1) refl refl
    (λ m h. rw (le-leb 1 m (omega arith), le-leb 2 m h, ne_eqb m 1 (omega arith))) n

-- and of one or more, those that are not exactly one are two or more
pub two_not_one : (n : ℕ) → 0 < n → leb 2 n ≡ not (eqb n 1)
two_not_one n =
    few (λ m. 0 < m → leb 2 m ≡ not (eqb m 1)) (λ h. absurd (omega arith)) (λ h. refl)
    (λ m h l. rw (le-leb 2 m h, ne_eqb m 1 (omega arith))) n
