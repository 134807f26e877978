-- A function that is 0 from one number up to another. Assumes nothing.
use mathlib.Core.Path.{◌≡◌, refl, sym, ap, subst, ◌∙◌}
use mathlib.Core.Bool.{Bool, true, false, not, false≢true}
use mathlib.Core.List.{List}
use Prim.Native.Nat.{ℕ, ◌+◌, ◌-◌, ◌≤◌, ◌<◌}
use native.Mathlib.Omega.{arith}
use borrow.Author.Tests.{eqb-true, eq-eqb, not-false}
use lib.Dec.{eqb}
use lib.ListN.{length, get_or, drop}
use Rattle.std.specs.List.{All}
use Rattle.std.proofs.lemmas.List.{get_or-drop, length-drop}
use Rattle.std.proofs.lemmas.List.Elements.{All-get_or, All-from_get_or}
use Rattle.laws.specs.Counting.{is_clear}
use Rattle.laws.proofs.Cases.{Tri, lt, eq, gt, tri, refuted}
use Rattle.laws.proofs.Sums.{rank_none, none_rank}

module _ (f : ℕ → ℕ) (from to : ℕ) where
  pub is_clear_lem : ((c : ℕ) → from ≤ c → c < to → f c ≡ 0) → is_clear f from to ≡ true
  unfolding is_clear
  is_clear_lem e =
      eq-eqb _ 0 (rank_none (λ i. not (eqb (f (from + i)) 0)) (to - from) (λ i h. ap not (eq-eqb (f (from + i)) 0 (e (from + i) (omega arith) (omega arith)))))

  pub clear_known : is_clear f from to ≡ true → (c : ℕ) → from ≤ c → c < to → f c ≡ 0
  unfolding is_clear
  clear_known e c l h =
      let s : from + (c - from) ≡ c = omega arith in
      let z = none_rank (λ i. not (eqb (f (from + i)) 0)) (to - from) (eqb-true _ 0 e) (c - from) (omega arith) in
      ap f (sym s) ∙ eqb-true _ 0 (not-false _ z)

  pub not_clear : (c : ℕ) → from ≤ c → c < to → (f c ≡ 0 → ⊥) → is_clear f from to ≡ false
  not_clear c l h n = refuted (is_clear f from to) (λ e. n (clear_known e c l h))

-- ---- one number after another

module _ (f : ℕ → ℕ) (from : ℕ) where
  pub clear_none : is_clear f from from ≡ true
  clear_none = is_clear_lem f from from (λ c l h. absurd (omega arith))

  pub clear_more : (c : ℕ) → is_clear f from c ≡ true → f c ≡ 0 → is_clear f from (c + 1) ≡ true
  clear_more c e z = is_clear_lem f from (c + 1) (λ k l h. go k l (tri k c) h)
    where
      go : (k : ℕ) → from ≤ k → Tri k c → k < c + 1 → f k ≡ 0
      go k l (lt q) h = clear_known f from c e k l q
      go k l (eq q) h = ap f q ∙ z
      go k l (gt q) h = absurd (omega arith)

  pub clear_less : (c to : ℕ) → to ≤ c → is_clear f from c ≡ true → is_clear f from to ≡ true
  clear_less c to m e = is_clear_lem f from to (λ k l h. clear_known f from c e k l (omega arith))

-- ---- the numbers of a list from one place to its end

module _ (xs : List ℕ) (from to : ℕ) (n : length xs ≡ to) where
  abbrev entry : ℕ → ℕ
  entry i = get_or xs i 0

  abbrev all_clear : List ℕ → Type 0
  all_clear ys = All (λ (x : ℕ). x ≡ 0) ys

  clear_if_all : all_clear (drop from xs) → is_clear entry from to ≡ true
  clear_if_all a = is_clear_lem entry from to (λ c l k.
      let e : from + (c - from) ≡ c = omega arith in
      let i : c - from < length (drop from xs) = omega (arith, length-drop from xs) in
      ap entry (sym e) ∙ sym (get_or-drop from xs (c - from) 0) ∙ All-get_or (λ (x : ℕ). x ≡ 0) (drop from xs) (c - from) 0 i a)

  all_if_clear : is_clear entry from to ≡ true → all_clear (drop from xs)
  all_if_clear e = All-from_get_or (λ (x : ℕ). x ≡ 0) (drop from xs) 0 (λ i k.
      get_or-drop from xs i 0 ∙ clear_known entry from to e (from + i) (omega arith) (omega (arith, length-drop from xs)))

  pub all_clear_is : (ys : List ℕ) (b : Bool) → ys ≡ drop from xs → (b ≡ true → all_clear ys) → (all_clear ys → b ≡ true) → b ≡ is_clear entry from to
  all_clear_is ys true e f g = sym (clear_if_all (subst all_clear e (f refl)))
  all_clear_is ys false e f g = sym (refuted (is_clear entry from to) (λ c. false≢true (g (subst all_clear (sym e) (all_if_clear c)))))
