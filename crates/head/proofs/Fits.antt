-- A head passes the test `fit` exactly if it fits, part by part. Assumes nothing.
use mathlib.Core.Path.{◌≡◌, refl, sym, subst}
use mathlib.Core.Logic.{inl, inr}
use mathlib.Core.Bool.{Bool, true, false, not, cond, false≢true}
use mathlib.Core.List.{List}
use Prim.Native.Nat.{ℕ, suc, ◌+◌, ◌*◌, ◌≤◌, ◌<◌}
use native.Mathlib.Nat.{eq-or-lt_of_le, le_of_suc-le-suc, le_trans, mul-le-mul_left}
use native.Mathlib.Numerals.{add-one}
use native.Mathlib.Omega.{arith}
use Rattle.std.specs.Prelude.{None, Some}
use borrow.Author.Tests.{eqb-true, eq-eqb, leb-true, le-leb}
use Rattle.bounds.specs.Bounds.{max_ids, max_bits, min_bits, max_levels}
use Rattle.laws.specs.Counting.{sum, rank}
use Rattle.laws.specs.Bits.{words_for}
use Rattle.laws.proofs.Cases.{both, refuted}
use Rattle.laws.proofs.Sums.{sum-most, rank_none, none_rank}
use Rattle.head.specs.Layout.{samples_of_size, size_at, word_start, sample_start, size_fits, bounded, used_of, fit}
use Rattle.head.specs.Fit.{Bounded, Fit, used_fits, measured}
use Rattle.head.specs.declared.Used.{Used}

size_fits_lem : (size : ℕ) → min_bits ≤ size → size ≤ max_bits → not (size_fits size) ≡ false
size_fits_lem size p q = rw (le-leb min_bits size p, le-leb size max_bits q)

size_known : (size : ℕ) → not (size_fits size) ≡ false → (min_bits ≤ size) × (size ≤ max_bits)
size_known size e = go (size_fits size) refl e
  where
    go : (b : Bool) → size_fits size ≡ b → not b ≡ false → (min_bits ≤ size) × (size ≤ max_bits)
    go true f n = let t = both _ _ f in (leb-true min_bits size t.0, leb-true size max_bits t.1)
    go false f n = absurd (false≢true (sym n))

module _ (count levels : ℕ) (sizes : List ℕ) where
  abbrev odd_size : ℕ → Bool
  odd_size i = not (size_fits (size_at sizes i))

  pub bounded_known : bounded count levels sizes ≡ true → Bounded count levels sizes
  unfolding bounded
  bounded_known e =
      let e₃ = both _ _ e in
      let e₂ = both _ _ e₃.0 in
      let e₁ = both _ _ e₂.0 in
      let each : (i : ℕ) → i < levels → odd_size i ≡ false = none_rank odd_size levels (eqb-true _ _ e₂.1) in
      record {
        some_level = leb-true _ _ e₁.0;
        few_levels = leb-true _ _ e₁.1;
        size_least = λ i h. (size_known (size_at sizes i) (each i h)).0;
        size_most = λ i h. (size_known (size_at sizes i) (each i h)).1;
        few_ids = leb-true _ _ e₃.1;
      }

  pub bounded_is : Bounded count levels sizes → bounded count levels sizes ≡ true
  unfolding bounded
  bounded_is f =
      let z : rank odd_size levels ≡ 0 = rank_none odd_size levels (λ i h. size_fits_lem (size_at sizes i) (f.size_least i h) (f.size_most i h)) in
      rw (le-leb 1 levels f.some_level, le-leb levels max_levels f.few_levels, eq-eqb (rank odd_size levels) 0 z, le-leb count max_ids f.few_ids)

  -- what is measured, by whether the bounds are kept
  pub measured_uses : bounded count levels sizes ≡ true → Some (used_of levels sizes) ≡ measured count levels sizes
  unfolding measured
  measured_uses e = rw e

  pub measured_none : (Bounded count levels sizes → ⊥) → None ≡ measured count levels sizes
  unfolding measured
  measured_none n = rw (refuted (bounded count levels sizes) (λ e. n (bounded_known e)))

  -- and read back
  pub uses_known : (used : Used) → Some used ≡ measured count levels sizes → (bounded count levels sizes ≡ true) × (used ≡ used_of levels sizes)
  unfolding measured
  uses_known used e = go (bounded count levels sizes) refl e
    where
      go : (b : Bool) → bounded count levels sizes ≡ b → Some used ≡ cond b (Some (used_of levels sizes)) None → (bounded count levels sizes ≡ true) × (used ≡ used_of levels sizes)
      go true f g = (f, cc)
      go false f g = let z : ◌≡◌ {A = ℕ} 0 1 = cc in absurd (omega arith)

  pub unbounded_known : None ≡ measured count levels sizes → bounded count levels sizes ≡ false
  unfolding measured
  unbounded_known e = go (bounded count levels sizes) refl e
    where
      go : (b : Bool) → bounded count levels sizes ≡ b → None ≡ cond b (Some (used_of levels sizes)) None → bounded count levels sizes ≡ false
      go true f g = let z : ◌≡◌ {A = ℕ} 0 1 = cc in absurd (omega arith)
      go false f g = f

-- the levels of a head are few, and so is what they use: sums of such numbers do not overflow
pub record Few (levels : ℕ) (used : Used) : Type 0 where
  pub few_levels : levels ≤ max_levels
  pub words : used.words ≤ words_for max_bits * max_levels
  pub samples : used.samples ≤ words_for max_bits * max_levels

pub few_used : (count levels : ℕ) (sizes : List ℕ) (used : Used) → Some used ≡ measured count levels sizes → Few levels used
few_used count levels sizes used e =
    let k = uses_known count levels sizes used e in
    let b = bounded_known count levels sizes k.0 in
    let most : (w : ℕ → ℕ) → ((i : ℕ) → i < levels → w i ≤ words_for max_bits) → sum w levels ≤ words_for max_bits * max_levels =
    λ w h. le_trans (sum-most w (words_for max_bits) levels h) (mul-le-mul_left (words_for max_bits) b.few_levels) in
    rw k.1 (record {
      few_levels = b.few_levels;
      words = most _ (λ i h. omega (arith, b.size_most i h));
      samples = most _ (λ i h. omega (arith, b.size_most i h));
    })

module _ (count levels : ℕ) (sizes : List ℕ) (word_room sample_room : ℕ) where
  pub fit_known : fit count levels sizes word_room sample_room ≡ true → Fit count levels sizes word_room sample_room
  unfolding fit
  fit_known e =
      let e₂ = both _ _ e in
      let e₁ = both _ _ e₂.0 in
      record { bounds = bounded_known count levels sizes e₁.0; word_room = leb-true _ _ e₁.1; sample_room = leb-true _ _ e₂.1 }

  pub fit_is : Fit count levels sizes word_room sample_room → fit count levels sizes word_room sample_room ≡ true
  unfolding fit
  fit_is f =
      rw (
        bounded_is count levels sizes f.bounds,
        le-leb (word_start (size_at sizes) levels) word_room f.word_room,
        le-leb (sample_start (size_at sizes) levels) sample_room f.sample_room,
      )

  pub unfit : (Fit count levels sizes word_room sample_room → ⊥) → fit count levels sizes word_room sample_room ≡ false
  unfit n = refuted (fit count levels sizes word_room sample_room) (λ e. n (fit_known e))

  -- by what is measured
  pub fit_unbounded : None ≡ measured count levels sizes → false ≡ fit count levels sizes word_room sample_room
  unfolding fit
  fit_unbounded e = rw (unbounded_known count levels sizes e)

  pub fit_used : (used : Used) → Some used ≡ measured count levels sizes → used_fits used word_room sample_room ≡ fit count levels sizes word_room sample_room
  unfolding fit
  fit_used used e = let k = uses_known count levels sizes used e in rw (k.0, k.1)

-- ---- a walk over the first i sizes: they are in bounds, and the words and samples that they take are summed up

pub record Walk (sizes : List ℕ) (i words sampled : ℕ) : Type 0 where
  pub least : (j : ℕ) → j < i → min_bits ≤ size_at sizes j
  pub most : (j : ℕ) → j < i → size_at sizes j ≤ max_bits
  pub words_are : words ≡ word_start (size_at sizes) i
  pub samples_are : sampled ≡ sample_start (size_at sizes) i
  pub words_few : words ≤ words_for max_bits * i
  pub samples_few : sampled ≤ words_for max_bits * i

pub walk_none : (sizes : List ℕ) → Walk sizes 0 0 0
walk_none sizes = record {
  least = λ j h. absurd (omega arith);
  most = λ j h. absurd (omega arith);
  words_are = refl;
  samples_are = refl;
  words_few = omega arith;
  samples_few = omega arith;
}

pub walk_more : (sizes : List ℕ) (i words sampled more taken : ℕ) → Walk sizes i words sampled → min_bits ≤ size_at sizes i → size_at sizes i ≤ max_bits
    → more ≡ words_for (size_at sizes i) → taken ≡ samples_of_size (size_at sizes i) → Walk sizes (i + 1) (words + more) (sampled + taken)
walk_more sizes i words sampled more taken w p q e f =
    rw (add-one i) (record {
      least = λ j h. go (λ k. min_bits ≤ size_at sizes k) p w.least j h;
      most = λ j h. go (λ k. size_at sizes k ≤ max_bits) q w.most j h;
      words_are = omega (arith, w.words_are);
      samples_are = omega (arith, w.samples_are);
      words_few = omega (arith, w.words_few);
      samples_few = omega (arith, w.samples_few);
    })
  where
    go : (P : ℕ → Type 0) → P i → ((j : ℕ) → j < i → P j) → (j : ℕ) → j < suc i → P j
    go P here before j h =
        elim (eq-or-lt_of_le (le_of_suc-le-suc h)) [
          | inl e ↦ subst P (sym e) here
          | inr l ↦ before j l
        ]
