-- The number and the value tell any two refusals apart: from them the case can be read back. Assumes nothing.
use mathlib.Core.Path.{◌≡◌, refl, sym, ap₂, ◌∙◌}
use mathlib.Core.Bool.{cond}
use mathlib.Core.List.{List, [], ◌∷◌}
use Prim.Native.Nat.{ℕ, ◌≤◌, ◌<◌}
use native.Mathlib.Omega.{arith}
use borrow.Author.Tests.{ne_eqb}
use lib.Dec.{eqb, lit<, lit≤}
use Rattle.refusal.specs.Table.{number_of, value_of, last_number}
use Rattle.refusal.specs.declared.Refusal.{Refusal}
use Rattle.refusal.specs.declared.Refusal.TheVariants.{GammaTooSmall, GammaTooLarge, TooManyIds, ShortWorkStore, NoRoomForLevel, IdsRemain}
use Rattle.refusal.specs.declared.Refusal.TheVariants.{UnfitHead, UnfitRow, BitOutside, UnfitSet, ShortOutput, WrongIds, UnfitLength, BadBlock, UnfitContent, UnknownKind}

-- the first of some cases that has a number
abbrev with_number : ℕ → List Refusal → Refusal
with_number n [] = WrongIds
with_number n (r ∷ rs) = cond (eqb (number_of r) n) r (with_number n rs)

-- the case of a number and a value
abbrev pub case_of : ℕ → ℕ → Refusal
case_of n v =
    with_number n
    (GammaTooSmall ∷ GammaTooLarge ∷ TooManyIds ∷ ShortWorkStore ∷ NoRoomForLevel v ∷ IdsRemain v ∷ UnfitHead ∷ UnfitRow ∷ BitOutside ∷ UnfitSet
    ∷ ShortOutput ∷ WrongIds ∷ UnfitLength ∷ BadBlock v ∷ UnfitContent ∷ UnknownKind ∷ [])

-- what is known of the number of a refusal: it is not 0, which stands for none, nor past the table, and the case can be read back
pub record Numbered (r : Refusal) : Type 0 where
  pub positive : 0 < number_of r
  pub within : number_of r ≤ last_number
  pub back : case_of (number_of r) (value_of r) ≡ r

pub numbered : (r : Refusal) → Numbered r
numbered GammaTooSmall = record { positive = lit< tt; within = lit≤ tt; back = refl }
numbered GammaTooLarge = record { positive = lit< tt; within = lit≤ tt; back = refl }
numbered TooManyIds = record { positive = lit< tt; within = lit≤ tt; back = refl }
numbered ShortWorkStore = record { positive = lit< tt; within = lit≤ tt; back = refl }
numbered (NoRoomForLevel level) = record { positive = lit< tt; within = lit≤ tt; back = refl }
numbered (IdsRemain ids) = record { positive = lit< tt; within = lit≤ tt; back = refl }
numbered UnfitHead = record { positive = lit< tt; within = lit≤ tt; back = refl }
numbered UnfitRow = record { positive = lit< tt; within = lit≤ tt; back = refl }
numbered BitOutside = record { positive = lit< tt; within = lit≤ tt; back = refl }
numbered UnfitSet = record { positive = lit< tt; within = lit≤ tt; back = refl }
numbered ShortOutput = record { positive = lit< tt; within = lit≤ tt; back = refl }
numbered WrongIds = record { positive = lit< tt; within = lit≤ tt; back = refl }
numbered UnfitLength = record { positive = lit< tt; within = lit≤ tt; back = refl }
numbered (BadBlock block) = record { positive = lit< tt; within = lit≤ tt; back = refl }
numbered UnfitContent = record { positive = lit< tt; within = lit≤ tt; back = refl }
numbered UnknownKind = record { positive = lit< tt; within = lit≤ tt; back = refl }

pub apart : (r s : Refusal) → number_of r ≡ number_of s → value_of r ≡ value_of s → r ≡ s
apart r s e f = sym (numbered r).back ∙ ap₂ case_of e f ∙ (numbered s).back

-- any answer read back from its number and value: the refusal, or where the number is 0 what is answered else
abbrev pub answer_back : {A : Type 0} → A → (Refusal → A) → ℕ → ℕ → A
answer_back other refused n v = cond (eqb n 0) other (refused (case_of n v))

pub not_none : (r : Refusal) → number_of r ≡ 0 → ⊥
not_none r e = omega (arith, (numbered r).positive)

pub refused_back : {A : Type 0} (other : A) (refused : Refusal → A) (r : Refusal) → answer_back other refused (number_of r) (value_of r) ≡ refused r
refused_back other refused r = rw (ne_eqb (number_of r) 0 (not_none r), (numbered r).back)
