-- The laws of all levels of a list of ids: who is left, how many, and how large a level is. Assumes nothing.
use mathlib.Core.Path.{◌≡◌, refl}
use mathlib.Core.Bool.{Bool, true, false}
use mathlib.Core.List.{List}
use Prim.Native.Nat.{ℕ, zero, suc, ◌+◌, ◌≤◌, ◌<◌}
use native.Mathlib.Decide.{le_ind}
use native.Mathlib.Omega.{arith}
use lib.ListN.{length}
use Rattle.laws.specs.Counting.{count}
use Rattle.rule.specs.Rule.{Rule, remaining, span, bit, base}
use Rattle.rule.specs.Demand.{Sound, Levels}
use Rattle.rule.proofs.Level.{level_balance, rest-length, rest_all, rest_none, twice_unset}

module _ (rule : Rule) (ids : List ℕ) where
  -- the position of x in level i, and whether its bit is set there
  abbrev pub spot : ℕ → ℕ → ℕ
  spot i x = rule.pos i (span rule ids i) x

  abbrev pub marked : ℕ → ℕ → Bool
  marked i x = bit rule ids i (spot i x)

  -- x stays as often as it stood where its bit is not set, and goes where it is
  pub stays : (i x : ℕ) → marked i x ≡ false → count x (remaining rule ids (suc i)) ≡ count x (remaining rule ids i)
  unfolding remaining
  stays i x e = rest_all (spot i) (remaining rule ids i) x e

  pub goes : (i x : ℕ) → marked i x ≡ true → count x (remaining rule ids (suc i)) ≡ 0
  unfolding remaining
  goes i x e = rest_none (spot i) (remaining rule ids i) x e

  fewer : (i x : ℕ) → count x (remaining rule ids (suc i)) ≤ count x (remaining rule ids i)
  fewer i x = go (marked i x) refl
    where
      go : (b : Bool) → marked i x ≡ b → count x (remaining rule ids (suc i)) ≤ count x (remaining rule ids i)
      go true e = omega (arith, goes i x e)
      go false e = omega (arith, stays i x e)

  pub fewer_le : (x : ℕ) {i j : ℕ} → i ≤ j → count x (remaining rule ids j) ≤ count x (remaining rule ids i)
  fewer_le x {i} {j} h = le_ind (λ (k : ℕ). count x (remaining rule ids k) ≤ count x (remaining rule ids i)) (omega arith) (λ k l e. omega (arith, fewer k x)) j h

  -- an id that is left has no bit set in the levels before
  pub unset : (x i j : ℕ) → i < j → 0 < count x (remaining rule ids j) → marked i x ≡ false
  unset x i j h m = go (marked i x) refl
    where
      go : (b : Bool) → marked i x ≡ b → b ≡ false
      go true e = absurd (omega (arith, goes i x e, fewer_le x {i = suc i} {j = j} h))
      go false e = refl

  -- an id that stands twice is left by every level
  pub twice : (x : ℕ) → 2 ≤ count x ids → (i : ℕ) → 2 ≤ count x (remaining rule ids i)
  unfolding remaining
  twice x h zero = h
  twice x h (suc i) =
      let r = twice x h i in
      omega (arith, stays i x (twice_unset (spot i) (remaining rule ids i) x r), r)

  -- no level leaves more ids than came in
  pub remaining_fewer : (i j : ℕ) → i ≤ j → length (remaining rule ids j) ≤ length (remaining rule ids i)
  unfolding remaining
  remaining_fewer i j h =
      le_ind (λ (k : ℕ). length (remaining rule ids k) ≤ length (remaining rule ids i)) (omega arith)
      (λ k l e. omega (arith, rest-length (spot k) (remaining rule ids k))) j h

  module _ (sound : Sound rule) where
    pub spot-lt : (i x : ℕ) → spot i x < span rule ids i
    spot-lt i x = sound.within i (span rule ids i) x (sound.positive (length (remaining rule ids i)))

    pub levels : Levels rule ids
    unfolding remaining
    levels = record {
      balance = λ i. level_balance (spot i) (remaining rule ids i) (span rule ids i) (spot-lt i);
      no_rise = λ mono i j h. mono (length (remaining rule ids j)) (length (remaining rule ids i)) (remaining_fewer i j h) (remaining_fewer 0 i (omega arith));
    }

    -- every id has a set bit of its own below level i, or is left there
    pub all_accounted : (i : ℕ) → base (span rule ids) (bit rule ids) i + length (remaining rule ids i) ≡ length ids
    unfolding remaining
    all_accounted zero = omega arith
    all_accounted (suc i) = omega (arith, all_accounted i, levels.balance i)
