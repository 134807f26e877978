-- Lists of words bit by bit: a bit as a digit, and one bit set or cleared. Assumes nothing.
use mathlib.Core.Path.{◌≡◌, refl, sym, ap, ◌∙◌}
use mathlib.Core.Bool.{Bool, true, false, not, cond, ◌||◌, ◌&&◌}
use mathlib.Core.List.{List, ◌++◌}
use mathlib.Core.Logic.{◌≢◌}
use Prim.Native.Nat.{ℕ, ◌+◌, ◌-◌, ◌*◌, ◌/◌, ◌%◌, ◌^◌, ◌≤◌, ◌<◌}
use native.Mathlib.Nat.{lt_of_le_of_lt, mod-lt, sub-le}
use native.Mathlib.Decide.{ℕ_discrete}
use native.Mathlib.Omega.{arith}
use borrow.Author.Tests.{eqb-true, eqb-false, eq-eqb, ne_eqb}
use lib.Dec.{eqb, lit<}
use lib.ListN.{length, get_or, set, drop, length-set, get_or-append}
use lib.Seq.{get_or-set_same, get_or-set_other, set-get_or, set_out, drop-set-lt}
use Rattle.laws.specs.Counting.{one}
use Rattle.laws.specs.Bits.{digit, bit_at, has, Words, with_bit, without_bit}
use Rattle.laws.proofs.Cases.{tri, Tri, lt, eq, gt, one_inj}
use Rattle.laws.proofs.Digits.{digit_lt, up_same, up_other, up_fits, down_same, down_other}

-- ---- a bit as a digit

pub has_at : (ws : List ℕ) (b : ℕ) → one (has ws b) ≡ digit (get_or ws (b / 64) 0) (b % 64)
unfolding has bit_at
has_at ws b = go (eqb (bit_at ws b) 1) refl
  where
    go : (t : Bool) → eqb (bit_at ws b) 1 ≡ t → one t ≡ bit_at ws b
    go true e = sym (eqb-true _ _ e)
    go false e = omega (arith, digit_lt (get_or ws (b / 64) 0) (b % 64), eqb-false (bit_at ws b) 1 e)

pub has-digit : (ws : List ℕ) (i k : ℕ) → k < 64 → one (has ws (64 * i + k)) ≡ digit (get_or ws i 0) k
has-digit ws i k l =
    let p : (64 * i + k) / 64 ≡ i = omega arith in
    let q : (64 * i + k) % 64 ≡ k = omega arith in
    rw (p, q) at (has_at ws (64 * i + k))

-- from the test of the digit
pub has-set : (ws : List ℕ) (b : ℕ) → digit (get_or ws (b / 64) 0) (b % 64) ≡ 1 → has ws b ≡ true
unfolding has bit_at
has-set ws b e = eq-eqb _ _ e

pub has_clear : (ws : List ℕ) (b : ℕ) → (digit (get_or ws (b / 64) 0) (b % 64) ≡ 1 → ⊥) → has ws b ≡ false
unfolding has bit_at
has_clear ws b e = ne_eqb _ _ e

-- the bits of the first of two lists
pub has-append : (us vs : List ℕ) (b : ℕ) → b / 64 < length us → has (us ++ vs) b ≡ has us b
unfolding has bit_at
has-append us vs b h = ap (λ (w : ℕ). eqb (digit w (b % 64)) 1) (get_or-append us vs 0 (b / 64) h)

-- ---- one bit put to t: its word is another, of which only that digit may be new

pub record Put (ws : List ℕ) (b : ℕ) (t : Bool) (us : List ℕ) : Type 0 where
  pub word : ℕ
  pub list : us ≡ set ws (b / 64) word
  pub here : digit word (b % 64) ≡ one t
  pub others : (k : ℕ) → k ≢ b % 64 → digit word k ≡ digit (get_or ws (b / 64) 0) k
  pub fits : get_or ws (b / 64) 0 < 2 ^ 64 → word < 2 ^ 64

-- a bit that is t already stays
put_old : (ws : List ℕ) (b : ℕ) (t : Bool) → has ws b ≡ t → Put ws b t ws
put_old ws b t e =
    record { word = get_or ws (b / 64) 0; list = sym (set-get_or ws (b / 64) 0); here = sym (has_at ws b) ∙ ap one e; others = λ k m. refl; fits = λ h. h }

pub with_old : (ws : List ℕ) (b : ℕ) → has ws b ≡ true → with_bit ws b ≡ ws
unfolding with_bit
with_old ws b e = rw e

pub with_new : (ws : List ℕ) (b : ℕ) → has ws b ≡ false → with_bit ws b ≡ set ws (b / 64) (get_or ws (b / 64) 0 + 2 ^ (b % 64))
unfolding with_bit
with_new ws b e = rw e

pub without_old : (ws : List ℕ) (b : ℕ) → has ws b ≡ true → without_bit ws b ≡ set ws (b / 64) (get_or ws (b / 64) 0 - 2 ^ (b % 64))
unfolding without_bit
without_old ws b e = rw e

pub without_new : (ws : List ℕ) (b : ℕ) → has ws b ≡ false → without_bit ws b ≡ ws
unfolding without_bit
without_new ws b e = rw e

pub with_put : (ws : List ℕ) (b : ℕ) → Put ws b true (with_bit ws b)
with_put ws b = go (has ws b) refl
  where
    go : (t : Bool) → has ws b ≡ t → Put ws b true (with_bit ws b)
    go true e = rw (with_old ws b e) (put_old ws b true e)
    go false e =
        let w : ℕ = get_or ws (b / 64) 0 in
        let z : digit w (b % 64) ≡ 0 = sym (has_at ws b) ∙ ap one e in
        record {
          word = w + 2 ^ (b % 64);
          list = with_new ws b e;
          here = up_same w (b % 64) z;
          others = λ k m. up_other w (b % 64) k z m;
          fits = λ h. up_fits 64 w (b % 64) h (mod-lt b (lit< tt)) z;
        }

pub without_put : (ws : List ℕ) (b : ℕ) → Put ws b false (without_bit ws b)
without_put ws b = go (has ws b) refl
  where
    go : (t : Bool) → has ws b ≡ t → Put ws b false (without_bit ws b)
    go false e = rw (without_new ws b e) (put_old ws b false e)
    go true e =
        let w : ℕ = get_or ws (b / 64) 0 in
        let z : digit w (b % 64) ≡ 1 = sym (has_at ws b) ∙ ap one e in
        record {
          word = w - 2 ^ (b % 64);
          list = without_old ws b e;
          here = down_same w (b % 64) z;
          others = λ k m. down_other w (b % 64) k z m;
          fits = λ h. lt_of_le_of_lt (sub-le w (2 ^ (b % 64))) h;
        }

-- ---- what it changes, and what it keeps: the length, the words past the bit's, and that every number is a word

pub put_length : {ws : List ℕ} {b : ℕ} {t : Bool} {us : List ℕ} → Put ws b t us → length us ≡ length ws
put_length p = rw p.list (simp length-set)

pub put_drop : {ws : List ℕ} {b : ℕ} {t : Bool} {us : List ℕ} → Put ws b t us → (n : ℕ) → b / 64 < n → drop n us ≡ drop n ws
put_drop {ws} {b} p n h = ap (drop n) p.list ∙ drop-set-lt n ws (b / 64) p.word h

pub put_words : {ws : List ℕ} {b : ℕ} {t : Bool} {us : List ℕ} → Put ws b t us → Words ws → Words us
put_words {ws} {b} p f i = rw p.list (go (tri (b / 64) (length ws)))
  where
    out : length ws ≤ b / 64 → get_or (set ws (b / 64) p.word) i 0 < 2 ^ 64
    out h = rw (set_out ws (b / 64) p.word h) (f i)

    go : Tri (b / 64) (length ws) → get_or (set ws (b / 64) p.word) i 0 < 2 ^ 64
    go (lt l) =
        elim (ℕ_discrete i (b / 64)) [
          | yes e ↦ rw (e, get_or-set_same ws (b / 64) p.word 0 l) (p.fits (f (b / 64)))
          | no n ↦ rw (get_or-set_other ws (b / 64) i p.word 0 n) (f i)
        ]
    go (eq e) = out (omega arith)
    go (gt l) = out (omega arith)

pub put_has : {ws : List ℕ} {b : ℕ} {t : Bool} {us : List ℕ} → Put ws b t us → b / 64 < length ws → (j : ℕ) → has us j ≡ cond (eqb j b) t (has ws j)
put_has {ws} {b} {t} {us} p h j = one_inj _ _ (has_at us j ∙ rw p.list (go (eqb j b) refl))
  where
    go : (q : Bool) → eqb j b ≡ q → digit (get_or (set ws (b / 64) p.word) (j / 64) 0) (j % 64) ≡ one (cond q t (has ws j))
    go true e = rw (eqb-true j b e, get_or-set_same ws (b / 64) p.word 0 h) p.here
    go false e =
        let n : j ≢ b = eqb-false j b e in
        elim (ℕ_discrete (j / 64) (b / 64)) [
          | yes i ↦
              let m : j % 64 ≢ b % 64 = omega arith in
              rw (has_at ws j, i, get_or-set_same ws (b / 64) p.word 0 h) (p.others (j % 64) m)
          | no i ↦ rw (has_at ws j, get_or-set_other ws (b / 64) (j / 64) p.word 0 i)
        ]

-- the words with b hold b and what they held, and those without it what they held but for b
pub with_has : (ws : List ℕ) (b : ℕ) → b / 64 < length ws → (j : ℕ) → has (with_bit ws b) j ≡ eqb j b || has ws j
with_has ws b h j = put_has (with_put ws b) h j ∙ go (eqb j b)
  where
    go : (q : Bool) → cond q true (has ws j) ≡ q || has ws j
    go true = refl
    go false = refl

pub without_has : (ws : List ℕ) (b : ℕ) → b / 64 < length ws → (j : ℕ) → has (without_bit ws b) j ≡ not (eqb j b) && has ws j
without_has ws b h j = put_has (without_put ws b) h j ∙ go (eqb j b)
  where
    go : (q : Bool) → cond q false (has ws j) ≡ not q && has ws j
    go true = refl
    go false = refl
