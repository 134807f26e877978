-- The level rule fixes the number in refusal 5 and in refusal 6, for any ids in any stores. Assumes nothing.
use mathlib.Core.Path.{◌≡◌, refl, sym, ◌∙◌}
use mathlib.Core.Bool.{true, false}
use mathlib.Core.List.{List}
use Prim.Native.Nat.{ℕ, suc, ◌<◌}
use lib.Ieee.{Float}
use lib.ListN.{length}
use Rattle.std.specs.Prelude.{Err}
use Rattle.mixer.specs.declared.Kind.{Kind}
use Rattle.bounds.specs.Bounds.{level_limit}
use Rattle.refusal.specs.declared.Refusal.TheVariants.{NoRoomForLevel, IdsRemain}
use Rattle.rule.specs.Rule.{Rule, Room, remaining, fits, run}
use Rattle.rule.specs.Demand.{Reaches}
use Rattle.rule.proofs.Run.{full_known, remaining_known}
use Rattle.run.specs.Stores.{Stores}
use Rattle.build.specs.Build.{BuildEnd, built_of, ended}
use Rattle.head.specs.Index.{rule_of}
use Rattle.demands.specs.Demands.{build_by, room_in, of_run}
use Rattle.demands.proofs.Outcomes.{by_run, was_5, was_6}

module _ (kind : Kind) (gamma : Float) (ids : List ℕ) (s : Stores) where
  abbrev rule : Rule
  rule = rule_of kind gamma

  abbrev room : Room
  room = room_in s

  -- what has a number of the run's is the run's
  ran : (x : BuildEnd) → of_run x.refusal ≡ true → x ≡ build_by kind gamma ids s → ended kind gamma ids s (run rule room ids level_limit) ≡ x
  ran x h e = sym (e ∙ by_run kind gamma ids s (rw e at h))

  module _ (t : Stores) where
    -- 5 gives the level that the run comes to and that has no room
    pub level_fixed : (i : ℕ) → built_of (Err (NoRoomForLevel i)) t ≡ build_by kind gamma ids s
        → (i < level_limit) × Reaches rule room ids i × (fits rule room ids (suc i) ≡ false)
    level_fixed i e = full_known rule room ids level_limit i (was_5 kind gamma ids s t (run rule room ids level_limit) i (ran _ refl e))

    -- 6 gives how many ids are left after the last level, to which the run comes
    pub count_fixed : (n : ℕ) → built_of (Err (IdsRemain n)) t ≡ build_by kind gamma ids s
        → Reaches rule room ids level_limit × (length (remaining rule ids level_limit) ≡ n)
    count_fixed n e = remaining_known rule room ids level_limit n (was_6 kind gamma ids s t (run rule room ids level_limit) n (ran _ refl e))
