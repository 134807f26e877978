-- The row of an answer: it is below the count, and the result of `find` tells it. Assumes nothing.
use mathlib.Core.Path.{◌≡◌, refl, sym, ap, ◌∙◌}
use mathlib.Core.Bool.{Bool, true, false, cond, ◌&&◌}
use mathlib.Core.List.{List}
use mathlib.Core.Option.{none, some}
use Prim.Native.Nat.{ℕ, ◌+◌, ◌/◌, ◌<◌}
use Rattle.std.specs.Prelude.{Option, Result, Ok, Some}
use native.Mathlib.Omega.{arith}
use borrow.Author.Tests.{ltb-true}
use lib.Dec.{leb, ltb}
use lib.ListN.{get_or}
use Rattle.bounds.specs.Bounds.{max_ids, sample_bits}
use Rattle.laws.specs.Bits.{has}
use Rattle.laws.proofs.Cases.{both}
use Rattle.ranks.specs.Ranks.{ones_from}
use Rattle.refusal.specs.declared.Refusal.{Refusal}
use Rattle.refusal.specs.declared.Refusal.TheVariants.{UnfitRow}
use Rattle.rule.specs.Rule.{first}
use Rattle.head.specs.Layout.{level_words}
use Rattle.finding.specs.Find.{found, refused_for, answer_of, row_in, row_answer, level_answer, find_in}
use Rattle.finding.specs.declared.Place.{Place}

-- ---- an answered row is below the count

answer_below : (count : ℕ) (ws ss : List ℕ) (i p r : ℕ) → row_in (row_answer count ws ss i p) ≡ some r → r < count
unfolding row_answer
answer_below count ws ss i p r e =
    let sample : ℕ = get_or ss (p / sample_bits) 0 in
    let at : ℕ = sample + ones_from ws p in
    go at (leb sample max_ids && ltb at count) (λ t. ltb-true at count (both (leb sample max_ids) (ltb at count) t).1) e
  where
    go : (at : ℕ) (b : Bool) → (b ≡ true → at < count) → row_in (cond b (found (record { row = at; level = i; position = p })) (refused_for UnfitRow)) ≡ some r
        → r < count
    go at true h q = let z : at ≡ r = cc in omega (arith, h refl)
    go at false h q = let z : ◌≡◌ {A = ℕ} 0 1 = cc in absurd (omega arith)

pub found_below : (pos : (level size id : ℕ) → ℕ) (count : ℕ) (span : ℕ → ℕ) (ws ss : List ℕ) (x levels r : ℕ) → row_in (find_in pos count span ws ss x levels) ≡ some r → r < count
unfolding find_in
found_below pos count span ws ss x levels r e = go (first pos span (λ i. has (level_words span ws i)) levels 0 x) e
  where
    go : (o : mathlib.Core.Option.Option ℕ) → row_in (level_answer pos count span ws ss x o) ≡ some r → r < count
    go none q = let z : ◌≡◌ {A = ℕ} 0 1 = cc in absurd (omega arith)
    go (some i) q = answer_below count _ _ i _ r q

-- ---- the row, by the result of `find`

pub told_below : (pos : (level size id : ℕ) → ℕ) (count : ℕ) (span : ℕ → ℕ) (ws ss : List ℕ) (x levels : ℕ) (f : Result (Option Place) Refusal) (p : Place)
    → answer_of f ≡ find_in pos count span ws ss x levels → f ≡ Ok (Some p) → p.row < count
told_below pos count span ws ss x levels f p e q =
    found_below pos count span ws ss x levels p.row (ap row_in (sym e) ∙ ap (λ (g : Result (Option Place) Refusal). row_in (answer_of g)) q)
