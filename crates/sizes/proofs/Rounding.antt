-- `whole_of` by the library's words for rounding, `closest` and `size`. It lies between the whole numbers that the fraction lies between, and does not fall
-- as the fraction rises. Assumes nothing.
use mathlib.Core.Path.{◌≡◌, refl, sym, ◌∙◌}
use mathlib.Core.Logic.{inl, inr}
use mathlib.Core.Bool.{Bool, true, false, cond}
use Prim.Native.Nat.{ℕ, zero, suc, ◌+◌, ◌-◌, ◌*◌, ◌/◌, ◌%◌, ◌^◌, ◌≤◌, ◌<◌, min, compare, Ordering}
use native.Mathlib.Nat.{le_trans, le_of_eq, le_of_lt, lt_of_lt_of_le, lt_of_le_of_lt, lt_of_not-le, not-le_of_lt, eq-or-lt_of_le}
use native.Mathlib.Nat.{mul-one, mul_comm, mul_right_comm, mul-le-mul_right, div-one, mod-one, le-div_iff_mul-le, div-lt_iff_lt-mul, div-le_of_le-mul}
use native.Mathlib.Numerals.{add-one}
use native.Mathlib.Omega.{arith}
use lib.Dec.{is_le, compare_is_eq, leb}
use lib.Pow.{pow_pos, pow_mono, shr_mono}
use lib.Ieee.{nearest, size}
use lib.Ieee.Digits.{size-lt, size-le, size_reaches}
use lib.Ieee.Nearest.{closest, closest_mono, div_mono}
use borrow.Author.Tests.{leb-true, leb-false}
use Rattle.laws.specs.Counting.{one}
use Rattle.sizes.specs.Sizes.{digits, rounded, whole_of}

-- ---- the library's words
pub size_gt : (n j : ℕ) → 2 ^ j ≤ n → j < size n
size_gt n j h = lt_of_not-le (λ g. not-le_of_lt (lt_of_lt_of_le (size-lt n) (pow_mono g)) h)

digits_size : (p x : ℕ) → digits p x ≡ min p (size x)
digits_size zero x = omega arith
digits_size (suc p) x = go (leb (2 ^ p) x) refl (digits_size p x)
  where
    go : (b : Bool) → leb (2 ^ p) x ≡ b → digits p x ≡ min p (size x) → digits p x + one b ≡ min (suc p) (size x)
    go true e h = omega (arith, size_gt x p (leb-true (2 ^ p) x e))
    go false e h = omega (arith, size-le x p (leb-false (2 ^ p) x e))

rounded_closest : (n d : ℕ) → rounded n d ≡ closest n d
unfolding rounded
rounded_closest n d = rw (mul_comm 2 (n % d)) (go (n / d) (compare (n % d * 2) d))
  where
    go : (q : ℕ) (o : Ordering) → cond (compare_is_eq o) (q + q % 2) (cond (is_le o) q (q + 1)) ≡ nearest q o
    go q Ordering.lt = refl
    go q Ordering.eq = refl
    go q Ordering.gt = add-one q

-- n / d rounded with k binary digits behind the point, and of that the whole part
abbrev pub cut : ℕ → ℕ → ℕ → ℕ
cut k n d = closest (n * 2 ^ k) d / 2 ^ k

pub whole_cut : (p n d : ℕ) → whole_of p n d ≡ cut (p - size (n / d)) n d
unfolding whole_of
whole_cut p n d =
    let k : p - digits p (n / d) ≡ p - size (n / d) = omega (arith, digits_size p (n / d)) in
    rw (k, rounded_closest)

-- ---- between whole numbers
closest_one : (x : ℕ) → closest x 1 ≡ x
closest_one x = simp (div-one, mod-one)

cut-le : (k n d B : ℕ) → 0 < d → n ≤ B * d → cut k n d ≤ B
cut-le k n d B D h =
    let b = 2 ^ k in
    div-le_of_le-mul b
    (le_trans (closest_mono (n * b) d (B * b) 1 D (pow_pos 0) (simp (mul-one, mul_right_comm B b d) (mul-le-mul_right b h)))
    (le_of_eq (closest_one (B * b) ∙ mul_comm B b)))

cut_ge : (k n d B : ℕ) → 0 < d → B * d ≤ n → B ≤ cut k n d
cut_ge k n d B D h =
    let b = 2 ^ k in
    (le-div_iff_mul-le (pow_pos k)).1
    (le_trans (le_of_eq (sym (closest_one (B * b))))
    (closest_mono (B * b) 1 (n * b) d (pow_pos 0) D (simp (mul-one, mul_right_comm B b d) (mul-le-mul_right b h))))

pub whole_le : (p n d B : ℕ) → 0 < d → n ≤ B * d → whole_of p n d ≤ B
whole_le p n d B D h = rw whole_cut (cut-le (p - size (n / d)) n d B D h)

pub whole_ge : (p n d B : ℕ) → 0 < d → B * d ≤ n → B ≤ whole_of p n d
whole_ge p n d B D h = rw whole_cut (cut_ge (p - size (n / d)) n d B D h)

-- ---- a larger fraction: either as many digits stand before the point, or a power of two lies between
cut_mono : (k m n d : ℕ) → 0 < d → m ≤ n → cut k m d ≤ cut k n d
cut_mono k m n d D h = shr_mono k (closest_mono (m * 2 ^ k) d (n * 2 ^ k) d D D (mul-le-mul_right d (mul-le-mul_right (2 ^ k) h)))

pub whole_mono : (p m n d : ℕ) → 0 < d → m ≤ n → whole_of p m d ≤ whole_of p n d
whole_mono p m n d D h =
    let s = size (m / d) in
    let t = size (n / d) in
    elim (eq-or-lt_of_le (size-le (m / d) t (lt_of_le_of_lt (div_mono m d n d D D (mul-le-mul_right d h)) (size-lt (n / d))))) [
      | inl e ↦ rw (whole_cut p m d, whole_cut p n d, e) (cut_mono (p - t) m n d D h)
      | inr l ↦
          le_trans (whole_le p m d (2 ^ s) D (le_of_lt ((div-lt_iff_lt-mul D).0 (size-lt (m / d)))))
          (whole_ge p n d (2 ^ s) D ((le-div_iff_mul-le D).0 (size_reaches (n / d) s l)))
    ]
