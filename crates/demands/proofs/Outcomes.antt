-- What comes of a build's run and what of the checks before it: 0, 5 and 6 of the run, every other refusal of a check. Assumes nothing.
use mathlib.Core.Path.{◌≡◌, refl, ap}
use mathlib.Core.Bool.{Bool, true, false, not, ◌&&◌}
use mathlib.Core.List.{List}
use Prim.Native.Nat.{ℕ}
use native.Mathlib.Omega.{arith}
use lib.Dec.{leb}
use lib.Ieee.{Float}
use Rattle.std.specs.Prelude.{Result, Ok, Err}
use Rattle.bounds.specs.Bounds.{max_ids, level_limit}
use Rattle.demands.specs.Demands.{build_by, checks_of, room_in, of_run, Outcomes}
use Rattle.laws.specs.Bits.{words_for}
use Rattle.build.specs.Build.{BuildEnd, built_of, build_checks, ended, after_checks, build_call}
use Rattle.mixer.specs.declared.Kind.{Kind}
use Rattle.mixer.proofs.KindNumbers.{number_known}
use Rattle.run.specs.Stores.{Stores}
use Rattle.head.specs.Index.{no_head, rule_of}
use Rattle.refusal.specs.Table.{number_of}
use Rattle.refusal.specs.Answers.{check}
use Rattle.refusal.specs.declared.Refusal.{Refusal}
use Rattle.refusal.specs.declared.Refusal.TheVariants.{GammaTooSmall, GammaTooLarge, TooManyIds, ShortWorkStore, NoRoomForLevel, IdsRemain}
use Rattle.rule.specs.Rule.{RunEnd, built, no_room, ids_left, run}
use Rattle.sizes.specs.Gamma.{above_min, above_max}
use Rattle.sizes.specs.Sizes.{size_for}

-- ---- the checks give no number of the run's

-- a check's answer that is no refusal, or one with none of the run's numbers
abbrev pub Apart : Result Unit Refusal → Type 0
Apart m = (why : Refusal) → m ≡ Err why → of_run (number_of why) ≡ false

check-apart : (test : Bool) (reason : Refusal) (next : Result Unit Refusal) → of_run (number_of reason) ≡ false → Apart next → Apart (check test reason Err next)
check-apart true reason next h rest why e = rest why e
check-apart false reason next h rest why e =
    let z : reason ≡ why = cc in
    rw z at h

-- check by check, in their order
pub checks_apart : (gamma : Float) (n collide rest : ℕ) → Apart (build_checks gamma n collide rest)
unfolding build_checks
checks_apart gamma n collide rest =
    check-apart (above_min gamma) GammaTooSmall _ refl
    (check-apart (not (above_max gamma)) GammaTooLarge _ refl
    (check-apart (leb n max_ids) TooManyIds _ refl
    (check-apart (leb n rest && leb (words_for (size_for gamma n)) collide) ShortWorkStore (Ok tt) refl
    no_more)))
  where
    no_more : Apart (Ok tt)
    no_more why e = let z : ◌≡◌ {A = ℕ} 0 1 = cc in absurd (omega arith)

module _ (kind : Kind) (gamma : Float) (ids : List ℕ) (s : Stores) where
  -- ---- a build of a known kind is what its checks and its run come to

  pub build_is : build_by kind gamma ids s ≡ after_checks (checks_of gamma ids s) kind gamma ids s
  unfolding build_call
  build_is = rw (number_known kind)

  -- ---- the run gives no other

  run-number : (o : RunEnd) → of_run (ended kind gamma ids s o).refusal ≡ true
  run-number (built n) = refl
  run-number (no_room i) = refl
  run-number (ids_left n) = refl

  pub outcomes : Outcomes kind gamma ids s
  outcomes = record {
    of_run_lem = (λ h. passed (checks_of gamma ids s) refl (rw build_is at h), λ e. rw (build_is, e) (run-number (run (rule_of kind gamma) (room_in s) ids level_limit)));
    as_run = λ e. rw (build_is, e);
    of_check = λ h. rw build_is (kept (checks_of gamma ids s) (rw build_is at h));
  }
    where
      passed : (m : Result Unit Refusal) → checks_of gamma ids s ≡ m → of_run (after_checks m kind gamma ids s).refusal ≡ true → m ≡ Ok tt
      passed (Ok tt) e h = refl
      passed (Err why) e h =
          let k = checks_apart gamma _ _ _ why e in
          let z : ◌≡◌ {A = ℕ} 0 1 = cc in
          absurd (omega arith)

      kept : (m : Result Unit Refusal) → of_run (after_checks m kind gamma ids s).refusal ≡ false
          → ((after_checks m kind gamma ids s).after.head ≡ no_head) × ((after_checks m kind gamma ids s).after.stores ≡ s)
      kept (Ok tt) h =
          let k = run-number (run (rule_of kind gamma) (room_in s) ids level_limit) in
          let z : ◌≡◌ {A = ℕ} 0 1 = cc in
          absurd (omega arith)
      kept (Err why) h = (refl, refl)

  -- so what has such a number is the run's
  pub by_run : of_run (build_by kind gamma ids s).refusal ≡ true → build_by kind gamma ids s ≡ ended kind gamma ids s (run (rule_of kind gamma) (room_in s) ids level_limit)
  by_run h = outcomes.as_run (outcomes.of_run_lem.0 h)

  -- ---- the run's outcome, by what the build leaves

  module _ (t : Stores) where
    pub was_5 : (o : RunEnd) (i : ℕ) → ended kind gamma ids s o ≡ built_of (Err (NoRoomForLevel i)) t → o ≡ no_room i
    was_5 (built n) i e = absurd (omega (arith, ap (λ (x : BuildEnd). x.refusal) e))
    was_5 (no_room j) i e = ap (λ (x : BuildEnd). no_room x.value) e
    was_5 (ids_left n) i e = absurd (omega (arith, ap (λ (x : BuildEnd). x.refusal) e))

    pub was_6 : (o : RunEnd) (n : ℕ) → ended kind gamma ids s o ≡ built_of (Err (IdsRemain n)) t → o ≡ ids_left n
    was_6 (built m) n e = absurd (omega (arith, ap (λ (x : BuildEnd). x.refusal) e))
    was_6 (no_room i) n e = absurd (omega (arith, ap (λ (x : BuildEnd). x.refusal) e))
    was_6 (ids_left m) n e = ap (λ (x : BuildEnd). ids_left x.value) e
