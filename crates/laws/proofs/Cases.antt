-- Two numbers are less, equal or greater; and what a test of them is worth as a number, from the fact. Assumes nothing.
use mathlib.Core.Path.{◌≡◌, refl, sym, ap, ◌∙◌}
use mathlib.Core.Bool.{Bool, true, false, not, ◌&&◌, false≢true}
use Prim.Native.Nat.{ℕ, ◌≤◌, ◌<◌}
use native.Mathlib.Omega.{arith}
use lib.Dec.{eqb, ltb}
use borrow.Author.Tests.{eqb-true, eqb-false, ltb-true, ltb-false, eq-eqb, ne_eqb, lt-ltb, le-ltb, not-true, not-false}
use Rattle.laws.specs.Counting.{one}

pub data Tri (a b : ℕ) : Type 0 where
  lt : a < b → Tri a b
  eq : a ≡ b → Tri a b
  gt : b < a → Tri a b

pub tri : (a b : ℕ) → Tri a b
tri a b = go (eqb a b) refl (ltb a b) refl
  where
    go : (e : Bool) → eqb a b ≡ e → (l : Bool) → ltb a b ≡ l → Tri a b
    go true e l h = eq (eqb-true a b e)
    go false e true h = lt (ltb-true a b h)
    go false e false h = gt (omega (arith, ltb-false a b h, eqb-false a b e))

pub one-eq : (a b : ℕ) → a ≡ b → one (eqb a b) ≡ 1
one-eq a b e = ap one (eq-eqb a b e)

pub one_ne : (a b : ℕ) → (a ≡ b → ⊥) → one (eqb a b) ≡ 0
one_ne a b n = ap one (ne_eqb a b n)

pub one-lt : (a b : ℕ) → a < b → one (ltb a b) ≡ 1
one-lt a b h = ap one (lt-ltb a b h)

pub one_ge : (a b : ℕ) → b ≤ a → one (ltb a b) ≡ 0
one_ge a b h = ap one (le-ltb a b h)

-- both parts of a test that holds
pub both : (s t : Bool) → s && t ≡ true → (s ≡ true) × (t ≡ true)
both true t e = (refl, e)
both false t e = (e, absurd (false≢true e))

-- a test that cannot hold fails
pub refuted : (t : Bool) → (t ≡ true → ⊥) → t ≡ false
refuted true n = absurd (n refl)
refuted false n = refl

-- a test's number gives the test back
pub one_inj : (s t : Bool) → one s ≡ one t → s ≡ t
one_inj true true e = refl
one_inj true false e = absurd (omega arith)
one_inj false true e = absurd (omega arith)
one_inj false false e = refl

-- tests that hold together are one test
pub eqb_both : (a b c d : ℕ) → (a ≡ b → c ≡ d) → (c ≡ d → a ≡ b) → eqb a b ≡ eqb c d
eqb_both a b c d f g = go (eqb a b) refl
  where
    go : (t : Bool) → eqb a b ≡ t → t ≡ eqb c d
    go true e = sym (eq-eqb c d (f (eqb-true a b e)))
    go false e = sym (ne_eqb c d (λ h. eqb-false a b e (g h)))

-- a check that the code makes by `!`
pub passed : {t u : Bool} → t ≡ u → not t ≡ false → u ≡ true
passed {t} e h = sym e ∙ not-false t h

pub failed : {t u : Bool} → t ≡ u → not t ≡ true → u ≡ false
failed {t} e h = sym e ∙ not-true t h
