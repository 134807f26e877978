-- The numbers of a head whose sizes were copied over zeros.
use Rattle.std.proofs.Common.{arith, ℕ, List, ◌≡◌, ◌+◌, ◌-◌, ◌∷◌, ◌++◌, length, drop, replicate, refl}
use Rattle.std.proofs.lemmas.List.{drop-replicate}

pub numbers_after : (ids : ℕ) (sizes copied : List ℕ) → copied ≡ sizes
    → 0 ∷ ids ∷ length sizes ∷ (copied ++ drop (3 + length sizes - 3) (replicate 100 0))
    ≡ 0 ∷ ids ∷ length sizes ∷ (sizes ++ replicate (103 - (3 + length sizes)) 0)
numbers_after ids sizes copied same =
    let back : 3 + length sizes - 3 ≡ length sizes = omega arith in
    let left : 103 - (3 + length sizes) ≡ 100 - length sizes = omega arith in
    rw (same, back, left, drop-replicate {X = ℕ} (length sizes) 100 0) refl
