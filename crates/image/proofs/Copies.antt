-- A content copied word by word to a store. Assumes nothing.
use mathlib.Core.Path.{◌≡◌, refl, sym, ap, ap₂, ◌∙◌}
use mathlib.Core.List.{List, ◌++◌, append-nil}
use Prim.Native.Nat.{ℕ, ◌+◌, ◌<◌}
use native.Mathlib.Nat.{le_refl}
use native.Mathlib.Numerals.{add-one}
use lib.ListN.{length, set, drop, drop_of_length-le}
use Rattle.laws.specs.Counting.{each}
use Rattle.laws.specs.Stores.{fronted}
use Rattle.laws.proofs.Chains.{each-suc, length-each}
use Rattle.laws.proofs.Parts.{front_more}

-- numbers at the front of a store: none, and one more
pub copied_none : (f : ℕ → ℕ) (store : List ℕ) → store ≡ fronted (each f 0) store
unfolding each
copied_none f store = refl

pub copied_more : (f : ℕ → ℕ) (store now : List ℕ) (i x : ℕ) → now ≡ fronted (each f i) store → x ≡ f i → i < length store → set now i x ≡ fronted (each f (i + 1)) store
copied_more f store now i x e v h =
    let l = length-each f i in
    ap₂ (λ (out : List ℕ) (y : ℕ). set out i y) e v
    ∙ ap (λ (k : ℕ). set (fronted (each f i) store) k (f i)) (sym l)
    ∙ front_more (each f i) store (f i) (rw l h)
    ∙ ap (λ (xs : List ℕ). fronted xs store) (sym (each-suc f i) ∙ ap (each f) (sym (add-one i)))

-- and as many as it has places
pub copied_all : (f : ℕ → ℕ) (store now : List ℕ) (i : ℕ) → i ≡ length store → now ≡ fronted (each f i) store → now ≡ each f (length store)
copied_all f store now i e c =
    c ∙ ap (λ (k : ℕ). fronted (each f k) store) e
    ∙ ap (λ (past : List ℕ). each f (length store) ++ past) (ap (λ (k : ℕ). drop k store) (length-each f (length store)) ∙ drop_of_length-le store (le_refl (length store)))
    ∙ append-nil (each f (length store))
