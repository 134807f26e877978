-- A step over a list: one more member, and what each step keeps. Assumes nothing.
use mathlib.Core.Path.{◌≡◌, sym, ◌∙◌}
use mathlib.Core.List.{List, [], ◌∷◌, foldl, foldl-append}
use Prim.Native.Nat.{ℕ, ◌+◌, ◌<◌}
use native.Mathlib.Numerals.{add-one}
use lib.ListN.{length, get_or, take}
use lib.Seq.{take-suc}

module _ {S : Type 0} (step : S → ℕ → S) where
  pub fold_next : (s : S) (xs : List ℕ) (i : ℕ) → i < length xs → {a b : S} → a ≡ foldl step s (take i xs) → b ≡ step a (get_or xs i 0)
      → b ≡ foldl step s (take (i + 1) xs)
  fold_next s xs i h e f = f ∙ rw (e, add-one i, take-suc xs i 0 h) (sym (foldl-append step s (take i xs) (get_or xs i 0 ∷ [])))

  pub fold_keeps : (P : S → Type 0) → ((s : S) (x : ℕ) → P s → P (step s x)) → (xs : List ℕ) (s : S) → P s → P (foldl step s xs)
  fold_keeps P keep [] s p = p
  fold_keeps P keep (x ∷ xs) s p = fold_keeps P keep xs (step s x) (keep s x p)
