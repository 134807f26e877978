-- Steps that can be undone, each one to one: xor, xor with a number's own shift, a sum modulo m, and the product with an odd number modulo 2 ^ n.
-- Assumes nothing.
use mathlib.Core.Path.{◌≡◌, sym, ap, ap₂, ◌∙◌}
use Prim.Native.Nat.{ℕ, zero, suc, ◌+◌, ◌-◌, ◌*◌, ◌/◌, ◌%◌, ◌^◌, ◌<◌}
use native.Mathlib.Nat.{add_comm, add-mul-mod_self_right, div-add-mod', mod-add-mod, mod-eq_of_lt, mod-lt}
use native.Mathlib.Numerals.{add-one}
use native.Mathlib.Omega.{arith}
use lib.Arith.{bin_ind}
use lib.Bits.{bit_xor, xor_add_and, xor_shr, xor_zero_r}
use lib.Pow.{pow_pos, shr-shr, mod-pow-add}

-- xor with c can be undone: the lowest digits are equal by the sums, and the halves by induction
pub xor_undone : (a b c : ℕ) → bit_xor a c ≡ bit_xor b c → a ≡ b
xor_undone a b c =
    bin_ind (λ (c : ℕ). (a b : ℕ) → bit_xor a c ≡ bit_xor b c → a ≡ b) (λ a b e. sym (xor_zero_r a) ∙ e ∙ xor_zero_r b)
    (λ c ih a b e. omega (arith, ih (a / 2) (b / 2) (sym (xor_shr a c 1) ∙ ap (λ (x : ℕ). x / 2) e ∙ xor_shr b c 1), xor_add_and a c, xor_add_and b c)) c a b

-- halving passes through xor with a number's own shift
xor_shift_half : (k x : ℕ) → bit_xor x (x / 2 ^ k) / 2 ≡ bit_xor (x / 2) (x / 2 / 2 ^ k)
xor_shift_half k x = xor_shr x (x / 2 ^ k) 1 ∙ ap (bit_xor (x / 2)) (shr-shr x k 1 ∙ ap (λ (i : ℕ). x / 2 ^ i) (add_comm k 1) ∙ sym (shr-shr x 1 k))

-- xor with a number's own shift can be undone: the halves are equal by induction, so the shifts are, so the numbers are
pub xor_shift_undone : (n k x y : ℕ) → 0 < k → x < 2 ^ n → y < 2 ^ n → bit_xor x (x / 2 ^ k) ≡ bit_xor y (y / 2 ^ k) → x ≡ y
xor_shift_undone zero k x y p hx hy e = omega arith
xor_shift_undone (suc n) k x y p hx hy e =
    let h : x / 2 ≡ y / 2 =
    xor_shift_undone n k (x / 2) (y / 2) p (omega arith) (omega arith) (sym (xor_shift_half k x) ∙ ap (λ (z : ℕ). z / 2) e ∙ xor_shift_half k y) in
    let s : (z : ℕ) → z / 2 ^ k ≡ z / 2 / 2 ^ (k - 1) = λ z. ap (λ (i : ℕ). z / 2 ^ i) (omega arith) ∙ sym (shr-shr z 1 (k - 1)) in
    xor_undone x y (x / 2 ^ k) (e ∙ ap (bit_xor y) (cc (s x, s y)))

-- a sum with c modulo m is undone by what c lacks of a multiple of m
sum_back : (m c x : ℕ) → 0 < m → ((x + c) % m + (m - c % m)) % m ≡ x % m
sum_back m c x p =
    let e : x + c + (m - c % m) ≡ x + suc (c / m) * m = omega (arith, div-add-mod' c m, mod-lt c p) in
    mod-add-mod (x + c) m (m - c % m) ∙ ap (λ (k : ℕ). k % m) e ∙ add-mul-mod_self_right x (suc (c / m)) m

sum-mod : (m c x y : ℕ) → 0 < m → (x + c) % m ≡ (y + c) % m → x % m ≡ y % m
sum-mod m c x y p e = sym (sum_back m c x p) ∙ ap (λ (r : ℕ). (r + (m - c % m)) % m) e ∙ sum_back m c y p

-- so a sum modulo m can be undone below m
pub sum_undone : (m c x y : ℕ) → x < m → y < m → (x + c) % m ≡ (y + c) % m → x ≡ y
sum_undone m c x y hx hy e = sym (mod-eq_of_lt hx) ∙ sum-mod m c x y (omega arith) e ∙ mod-eq_of_lt hy

-- the product with an odd number keeps the lowest digit, and above it is the product of the half, plus a number that this digit decides
odd_digits : (n a x : ℕ) → a % 2 ≡ 1 → x * a % 2 ^ suc n ≡ (x / 2 * a + x % 2 * (a / 2)) % 2 ^ n * 2 + x % 2
odd_digits n a x o =
    let d : a ≡ a / 2 * 2 + 1 = omega arith in
    let e : x * a ≡ x / 2 * a * 2 + x % 2 * (a / 2) * 2 + x % 2 =
    ap (λ (z : ℕ). z * a) (sym (div-add-mod' x 2)) ∙ omega (arith, ap (λ (b : ℕ). x % 2 * b) d) in
    ap (λ (i : ℕ). x * a % 2 ^ i) (sym (add-one n)) ∙ mod-pow-add (x * a) n 1 ∙ ap₂ (λ (h l : ℕ). h % 2 ^ n * 2 + l) (omega arith) (omega arith)

-- the product with an odd number modulo 2 ^ n can be undone below 2 ^ n
pub odd_undone : (n a x y : ℕ) → a % 2 ≡ 1 → x < 2 ^ n → y < 2 ^ n → x * a % 2 ^ n ≡ y * a % 2 ^ n → x ≡ y
odd_undone zero a x y o hx hy e = omega arith
odd_undone (suc n) a x y o hx hy e =
    let f = odd_digits n a x o in
    let g = odd_digits n a y o in
    let l : x % 2 ≡ y % 2 = omega arith in
    let s : (x / 2 * a + y % 2 * (a / 2)) % 2 ^ n ≡ (y / 2 * a + y % 2 * (a / 2)) % 2 ^ n = omega (arith, rw l at f) in
    omega (arith, odd_undone n a (x / 2) (y / 2) o (omega arith) (omega arith) (sum-mod (2 ^ n) (y % 2 * (a / 2)) (x / 2 * a) (y / 2 * a) (pow_pos n) s))
