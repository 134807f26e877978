-- The laws of one level. Assumes nothing.
use mathlib.Core.Path.{◌≡◌, refl, sym, ap, ap₂, ◌∙◌}
use mathlib.Core.Bool.{Bool, true, false, not}
use mathlib.Core.List.{List}
use Prim.Native.Nat.{ℕ, ◌+◌, ◌*◌, ◌≤◌, ◌<◌}
use native.Mathlib.Omega.{arith}
use lib.Dec.{eqb}
use lib.ListN.{length}
use borrow.Author.Tests.{eqb-true, ne_eqb}
use Rattle.laws.specs.Counting.{one, tally, rank, hits, count, Same}
use Rattle.laws.proofs.Cases.{Tri, lt, eq, gt, tri}
use Rattle.laws.proofs.Sums.{sum_same}
use Rattle.laws.proofs.Counts.{double_all, same_total, length-sift, tally_not, count-sift, hits_none, count-le-hits, two-hits}
use Rattle.rule.specs.Rule.{single, rest}

module _ (g : ℕ → ℕ) (xs : List ℕ) where
  -- a set bit has exactly one id
  pub set-one : (p : ℕ) → single g xs p ≡ true → hits g p xs ≡ 1
  set-one p e = eqb-true (hits g p xs) 1 e

  -- no bit is set past the positions
  pub unset_past : (s : ℕ) → ((x : ℕ) → g x < s) → (p : ℕ) → s ≤ p → single g xs p ≡ false
  unset_past s h p l = ne_eqb (hits g p xs) 1 (λ e. omega (arith, hits_none g p (λ x q. omega (arith, h x)) xs))

  -- the set bits below s are as many as the ids that have one
  set_bits_lem : (s : ℕ) → ((x : ℕ) → g x < s) → rank (single g xs) s ≡ tally (λ x. single g xs (g x)) xs
  set_bits_lem s h = sum_same _ _ s (λ p l. each p) ∙ sym (double_all (λ p. one (single g xs p)) g s h xs)
    where
      each : (p : ℕ) → one (single g xs p) ≡ one (single g xs p) * hits g p xs
      each p = go (single g xs p) refl
        where
          go : (b : Bool) → single g xs p ≡ b → one b ≡ one b * hits g p xs
          go true e = omega (arith, set-one p e)
          go false e = omega arith

  -- each id has a set bit of its own, or goes on
  pub level_balance : (s : ℕ) → ((x : ℕ) → g x < s) → rank (single g xs) s + length (rest g xs) ≡ length xs
  level_balance s h = omega (arith, set_bits_lem s h, length-sift (λ x. not (single g xs (g x))) xs, tally_not (λ x. single g xs (g x)) xs)

  pub rest-length : length (rest g xs) ≤ length xs
  rest-length = omega (arith, length-sift (λ x. not (single g xs (g x))) xs, tally_not (λ x. single g xs (g x)) xs)

  -- what goes on of x: all, where its bit is not set, and nothing where it is
  pub rest_all : (x : ℕ) → single g xs (g x) ≡ false → count x (rest g xs) ≡ count x xs
  rest_all x e = omega (arith, count-sift (λ y. not (single g xs (g y))) x xs, ap (λ (b : Bool). one (not b) * count x xs) e)

  pub rest_none : (x : ℕ) → single g xs (g x) ≡ true → count x (rest g xs) ≡ 0
  rest_none x e = omega (arith, count-sift (λ y. not (single g xs (g y))) x xs, ap (λ (b : Bool). one (not b) * count x xs) e)

  -- an id that stands twice has no bit
  pub twice_unset : (x : ℕ) → 2 ≤ count x xs → single g xs (g x) ≡ false
  twice_unset x h = go (single g xs (g x)) refl
    where
      go : (b : Bool) → single g xs (g x) ≡ b → b ≡ false
      go true e = absurd (omega (arith, set-one (g x) e, count-le-hits g x xs))
      go false e = refl

  -- two ids that share a set bit are one
  pub one_id : (x y : ℕ) → single g xs (g x) ≡ true → g x ≡ g y → 0 < count x xs → 0 < count y xs → x ≡ y
  one_id x y e p a b = go (tri x y)
    where
      go : Tri x y → x ≡ y
      go (lt h) = absurd (omega (arith, two-hits g x y xs (omega arith) p, set-one (g x) e))
      go (eq q) = q
      go (gt h) = absurd (omega (arith, two-hits g x y xs (omega arith) p, set-one (g x) e))

-- order does not matter: ids of the same members set the same bits, and the same members go on
module _ (g : ℕ → ℕ) {xs ys : List ℕ} (s : Same xs ys) where
  pub same_single : (p : ℕ) → single g xs p ≡ single g ys p
  same_single p = ap (λ (n : ℕ). eqb n 1) (same_total (λ x. one (eqb (g x) p)) s)

  pub same_rest : Same (rest g xs) (rest g ys)
  same_rest = record {
    counts = λ x.
        count-sift (λ y. not (single g xs (g y))) x xs
        ∙ ap₂ (λ (b : Bool) (n : ℕ). one (not b) * n) (same_single (g x)) (s.counts x)
        ∙ sym (count-sift (λ y. not (single g ys (g y))) x ys);
  }
