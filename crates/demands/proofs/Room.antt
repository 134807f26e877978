-- How a build in bounds ends: as the run of the level rule does, in any room; and with room enough it is refused exactly if ids are left. Assumes nothing.
use mathlib.Core.Path.{◌≡◌, refl, sym, ap, ◌∙◌, subst}
use mathlib.Core.Bool.{true}
use mathlib.Core.List.{List, []}
use Prim.Native.Nat.{ℕ, zero, suc, ◌*◌, ◌≤◌, ◌<◌}
use native.Mathlib.Nat.{le_trans}
use native.Mathlib.Omega.{arith}
use lib.Dec.{lit<}
use lib.Ieee.{Float}
use lib.ListN.{length}
use Rattle.std.specs.Prelude.{Ok}
use Rattle.bounds.specs.Bounds.{max_ids, max_bits, level_limit}
use Rattle.demands.specs.Demands.{build_by, checks_of, room_in, of_run, InBounds, RoomEnough, FullRoom, left_over, Refusals, ComesTo, room_for, Endings}
use Rattle.demands.proofs.Outcomes.{outcomes, was_5, was_6}
use Rattle.laws.specs.Bits.{words_for}
use Rattle.laws.specs.Counting.{sum}
use Rattle.laws.proofs.Cases.{Tri, lt, eq, gt, tri}
use Rattle.laws.proofs.Counts.{empty}
use Rattle.build.specs.Build.{BuildEnd, cleared, ended}
use Rattle.mixer.specs.declared.Kind.{Kind}
use Rattle.run.specs.Stores.{Stores}
use Rattle.head.specs.Index.{rule_of}
use Rattle.head.specs.Layout.{samples_of_size}
use Rattle.build.proofs.Builds.{checked, passed}
use Rattle.head.proofs.Indexes.{rule_sound}
use Rattle.rule.specs.Demand.{Ends, none_left, out_of_room, at_limit, RunDemand}
use Rattle.rule.specs.Rule.{Rule, Room, RunEnd, built, no_room, ids_left, remaining, span, run}
use Rattle.rule.proofs.Demand.{demand3}
use Rattle.rule.proofs.Levels.{remaining_fewer}
use Rattle.rule.proofs.Run.{room_enough, all_enough, ends_only, built_known, full_known, remaining_known}
use Rattle.sizes.specs.Gamma.{Allowed}
use Rattle.sizes.specs.Sizes.{size_for}
use Rattle.sizes.proofs.Sizes.{size_most, words_mono, samples_mono}

-- n numbers of which none is above c
sum_at_most : (w : ℕ → ℕ) (c n : ℕ) → ((i : ℕ) → w i ≤ c) → sum w n ≤ n * c
sum_at_most w c zero h = omega arith
sum_at_most w c (suc n) h = omega (arith, sum_at_most w c n h, h n)

sum_fits : (w : ℕ → ℕ) (c n room : ℕ) → ((i : ℕ) → w i ≤ c) → n * c ≤ room → sum w n ≤ room
sum_fits w c n room h r = le_trans (sum_at_most w c n h) r

module _ (kind : Kind) (gamma : Float) (ids : List ℕ) (s : Stores) where
  abbrev rule : Rule
  rule = rule_of kind gamma

  abbrev room : Room
  room = room_in s

  abbrev outcome : RunEnd
  outcome = run rule room ids level_limit

  -- ---- the run

  in_bounds : checks_of gamma ids s ≡ Ok tt → InBounds gamma ids s
  in_bounds e =
      let p = passed gamma (length ids) (length s.collide) (length s.rest) e in
      record { allowed = p.allowed; few_ids = p.few_ids; rest_long = p.in_rest; collide_long = p.in_collide }

  pub build_runs : InBounds gamma ids s → build_by kind gamma ids s ≡ ended kind gamma ids s (run (rule_of kind gamma) (room_in s) ids level_limit)
  build_runs b =
      let passes = checked gamma (length ids) (length s.collide) (length s.rest) b.allowed.above b.allowed.within b.few_ids b.rest_long in
      (outcomes kind gamma ids s).as_run (sym (passes b.collide_long))

  -- an accepted build was in bounds, and its run was built
  pub record Accepted : Type 0 where
    pub bounds : InBounds gamma ids s
    pub levels : ℕ
    pub ran : run (rule_of kind gamma) (room_in s) ids level_limit ≡ built levels
    pub call_is : build_by kind gamma ids s ≡ ended kind gamma ids s (built levels)

  pub accepted : (build_by kind gamma ids s).refusal ≡ 0 → Accepted
  accepted e =
      let b = in_bounds ((outcomes kind gamma ids s).of_run_lem.0 (ap of_run e)) in
      go outcome refl b (rw (build_runs b) at e)
    where
      go : (o : RunEnd) → outcome ≡ o → InBounds gamma ids s → (ended kind gamma ids s outcome).refusal ≡ 0 → Accepted
      go (built n) q b z = record { bounds = b; levels = n; ran = q; call_is = build_runs b ∙ ap (ended kind gamma ids s) q }
      go (no_room i) q b z = let w : (ended kind gamma ids s (no_room i)).refusal ≡ 0 = rw q at z in absurd (omega arith)
      go (ids_left n) q b z = let w : (ended kind gamma ids s (ids_left n)).refusal ≡ 0 = rw q at z in absurd (omega arith)

  -- ---- how it ends, in any room

  module _ (b : InBounds gamma ids s) where
    abbrev Last : ℕ → Type 0
    Last i = (i < level_limit) × ComesTo kind gamma ids s i × (room_for kind gamma ids s i ≡ true) × (remaining rule ids (suc i) ≡ [])

    last_level : (i : ℕ) → outcome ≡ built (suc i) → Last i
    last_level i e =
        let k = built_known rule room ids level_limit (suc i) e in
        subst Last (omega (arith, k.1)) (k.2, k.3, k.4, k.5)

    leaves : {o : RunEnd} → Ends rule room ids level_limit o → build_by kind gamma ids s ≡ ended kind gamma ids s o
    leaves t = build_runs b ∙ ap (ended kind gamma ids s) (ends_only rule room ids level_limit t)

    pub endings : Endings kind gamma ids s
    endings = record {
      done = λ i. (
        λ e.
            let a = accepted e.0 in
            let n : a.levels ≡ suc i = sym (ap (λ (x : BuildEnd). x.after.head.levels) a.call_is) ∙ e.1 in
            last_level i (a.ran ∙ ap built n),
        λ t.
            let e = leaves (none_left i t.0 t.1 t.2 t.3 refl) in
            (ap (λ (x : BuildEnd). x.refusal) e, ap (λ (x : BuildEnd). x.after.head.levels) e),
      );
      as_5 = λ i. (
        λ e. full_known rule room ids level_limit i (was_5 kind gamma ids s (cleared s) outcome i (sym (build_runs b) ∙ e)),
        λ t. leaves (out_of_room i t.0 t.1 t.2 refl),
      );
      as_6 = λ n. (
        λ e. remaining_known rule room ids level_limit n (was_6 kind gamma ids s (cleared s) outcome n (sym (build_runs b) ∙ e)),
        λ t. leaves (at_limit t.0 (ap ids_left (sym t.1))),
      );
    }

  -- ---- with room enough

  module _ (enough : RoomEnough kind gamma ids s) where
    demand : RunDemand rule room ids level_limit
    demand = demand3 rule room ids (rule_sound kind gamma) level_limit (lit< tt)

    module _ (b : InBounds gamma ids s) where
      some_left : 0 < left_over kind gamma ids → build_by kind gamma ids s ≡ ended kind gamma ids s (ids_left (left_over kind gamma ids))
      some_left h = build_runs b ∙ ap (ended kind gamma ids s) ((demand.refused enough (left_over kind gamma ids)).1 (h, refl))

      no_left : left_over kind gamma ids ≡ 0 → (build_by kind gamma ids s).refusal ≡ 0
      no_left e =
          let t = (demand.accepted enough).1 (empty (remaining rule ids level_limit) e) in
          ap (λ (x : BuildEnd). x.refusal) (build_runs b ∙ ap (ended kind gamma ids s) t.1)

      -- Demand 3: with gamma and id count in bounds and room for each level that it comes to, a build is refused exactly when the level rule leaves ids after level 99.
      pub refusals : Refusals kind gamma ids s
      refusals = record {
        exactly = (λ h. go h (tri (left_over kind gamma ids) 0), λ h. omega (arith, is_6 h));
        as_6 = some_left;
        never_5 = λ e. never e (tri (left_over kind gamma ids) 0);
      }
        where
          is_6 : 0 < left_over kind gamma ids → (build_by kind gamma ids s).refusal ≡ 6
          is_6 h = ap (λ (x : BuildEnd). x.refusal) (some_left h)

          go : 0 < (build_by kind gamma ids s).refusal → Tri (left_over kind gamma ids) 0 → 0 < left_over kind gamma ids
          go h (lt l) = absurd (omega arith)
          go h (eq e) = absurd (omega (arith, no_left e))
          go h (gt l) = l

          never : (build_by kind gamma ids s).refusal ≡ 5 → Tri (left_over kind gamma ids) 0 → ⊥
          never e (lt l) = omega arith
          never e (eq z) = omega (arith, no_left z)
          never e (gt l) = omega (arith, is_6 l)

-- ---- room that is enough

module _ (kind : Kind) (gamma : Float) (ids : List ℕ) (s : Stores) where
  -- for a hundred levels of level 0's size: no level is larger
  pub full_enough : FullRoom gamma ids s → RoomEnough kind gamma ids s
  unfolding remaining
  full_enough r =
      let fewer : (i : ℕ) → length (remaining (rule_of kind gamma) ids i) ≤ length ids = λ i. remaining_fewer (rule_of kind gamma) ids 0 i (omega arith) in
      all_enough (rule_of kind gamma) (room_in s) ids level_limit
      (room_enough (rule_of kind gamma) (room_in s) ids level_limit
      (sum_fits (λ i. words_for (span (rule_of kind gamma) ids i)) _ level_limit _ (λ i. words_mono gamma _ _ (fewer i)) r.words)
      (sum_fits (λ i. samples_of_size (span (rule_of kind gamma) ids i)) _ level_limit _ (λ i. samples_mono gamma _ _ (fewer i)) r.samples))

  -- for a hundred levels of the most bits, whatever the ids and gamma in bounds
  pub room_always : Allowed gamma → length ids ≤ max_ids → level_limit * words_for max_bits ≤ length s.words
      → level_limit * samples_of_size max_bits ≤ length s.samples → RoomEnough kind gamma ids s
  room_always allowed few w v =
      let most : size_for gamma (length ids) ≤ max_bits = size_most gamma (length ids) allowed few in
      full_enough (record { words = omega arith; samples = omega arith })
