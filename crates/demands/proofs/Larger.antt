-- Room beyond what is enough does not matter: a build that is not refused with 5 ends alike in any larger stores. Assumes nothing.
use mathlib.Core.Path.{◌≡◌, refl, sym, ap, ◌∙◌}
use mathlib.Core.List.{List, []}
use Prim.Native.Nat.{ℕ, ◌-◌, ◌≤◌}
use native.Mathlib.Nat.{sub-zero}
use native.Mathlib.Omega.{arith}
use lib.Ieee.{Float}
use lib.ListN.{length}
use Rattle.mixer.specs.declared.Kind.{Kind}
use Rattle.bounds.specs.Bounds.{level_limit}
use Rattle.demands.specs.Demands.{room_in}
use Rattle.demands.specs.Rooms.{AtLeast, EndsAs, MoreRoom}
use Rattle.demands.proofs.Built.{run_done}
use Rattle.demands.proofs.Room.{build_runs}
use Rattle.build.specs.Build.{ended}
use Rattle.run.specs.Stores.{Stores}
use Rattle.laws.specs.Stores.{zeros, filled}
use Rattle.head.specs.Index.{rule_of, index_words, index_samples}
use Rattle.head.proofs.Indexes.{filled_more, length_words, length_samples_to}
use Rattle.rule.specs.Rule.{RunEnd, built, no_room, ids_left, run}
use Rattle.rule.proofs.Run.{larger_same}

-- a list in a store, and the same list in a longer one
longer : (xs : List ℕ) (room more : ℕ) → length xs ≤ room → room ≤ more → filled xs more ≡ filled (filled xs room) more
longer xs room more h k = sym (filled_more xs more (room - length xs) (omega arith))

longer_zeros : (room more : ℕ) → room ≤ more → zeros more ≡ filled (zeros room) more
longer_zeros room more k = sym (filled_more [] more room (omega arith) ∙ ap zeros (sub-zero more))

module _ (kind : Kind) (gamma : Float) (ids : List ℕ) (s t : Stores) (more : AtLeast s t) where
  -- the run's outcome in s
  abbrev outcome : RunEnd
  outcome = run (rule_of kind gamma) (room_in s) ids level_limit

  ended_as : (o : RunEnd) → outcome ≡ o → ((ended kind gamma ids s o).refusal ≡ 5 → ⊥) → EndsAs t (ended kind gamma ids s o) (ended kind gamma ids t o)
  ended_as (built n) e u =
      let d = run_done (rule_of kind gamma) (room_in s) ids n e in
      record {
        refusal = refl;
        value = refl;
        head = refl;
        words = longer (index_words (rule_of kind gamma) ids n) _ _ (omega (arith, length_words (rule_of kind gamma) ids n, d.in_words)) more.words;
        samples = longer (index_samples (rule_of kind gamma) ids n) _ _ (omega (arith, length_samples_to (rule_of kind gamma) ids n, d.in_samples)) more.samples;
      }
  ended_as (no_room i) e u = absurd (u refl)
  ended_as (ids_left n) e u = record {
    refusal = refl;
    value = refl;
    head = refl;
    words = longer_zeros _ _ more.words;
    samples = longer_zeros _ _ more.samples;
  }

  same_run : ((i : ℕ) → outcome ≡ no_room i → ⊥) → run (rule_of kind gamma) (room_in t) ids level_limit ≡ outcome
  same_run u = larger_same (rule_of kind gamma) (room_in s) ids (length t.words) (length t.samples) more.words more.samples level_limit u

pub more_room : (kind : Kind) (gamma : Float) (ids : List ℕ) (s t : Stores) → MoreRoom kind gamma ids s t
more_room kind gamma ids s t = record {
  ends_as = λ b c more u.
      let r = build_runs kind gamma ids s b in
      let v : (ended kind gamma ids s (outcome kind gamma ids s t more)).refusal ≡ 5 → ⊥ = rw r at u in
      rw (r, build_runs kind gamma ids t c, same_run kind gamma ids s t more (λ i e. v (ap (λ (o : RunEnd). (ended kind gamma ids s o).refusal) e)))
      (ended_as kind gamma ids s t more (outcome kind gamma ids s t more) refl v);
}
