-- Demand 3 holds of a run over any position rule that stays below the size and any size rule that is never 0. Assumes nothing.
use mathlib.Core.Path.{◌≡◌, sym, ap}
use mathlib.Core.List.{List, []}
use Prim.Native.Nat.{ℕ, zero, suc, ◌<◌}
use native.Mathlib.Omega.{arith}
use lib.ListN.{length}
use Rattle.laws.specs.Counting.{count}
use Rattle.laws.proofs.Counts.{empty, count-le-length}
use Rattle.rule.specs.Rule.{Rule, remaining, Room, built, ids_left, run}
use Rattle.rule.specs.Demand.{Sound, Reaches, Enough, Ends, none_left, out_of_room, at_limit, RunDemand}
use Rattle.rule.proofs.Levels.{remaining_fewer, twice}
use Rattle.rule.proofs.Run.{reaches_all, run_ends, ends_only, built_done, remaining_known}
use Rattle.rule.proofs.RowLaws.{perfect}

module _ (rule : Rule) (room : Room) (ids : List ℕ) where
  -- the last level below the limit leaves ids, if the run comes to the limit
  last_leaves : (limit : ℕ) → 0 < limit → Reaches rule room ids limit → 0 < length (remaining rule ids limit)
  last_leaves zero h r = absurd (omega arith)
  last_leaves (suc i) h r = r.more_after i (omega arith)

  -- with room enough, a run that leaves no id is built
  done_built : (limit : ℕ) → 0 < limit → Enough rule room ids limit → remaining rule ids limit ≡ [] → (n : ℕ) × (run rule room ids limit ≡ built n)
  done_built limit p enough d = go (run_ends rule room ids limit)
    where
      go : Ends rule room ids limit (run rule room ids limit) → (n : ℕ) × (run rule room ids limit ≡ built n)
      go (none_left i h r f e q) = (suc i, q)
      go (out_of_room i h r f q) =
          let k = enough i h r in
          let z : ◌≡◌ {A = ℕ} 0 1 = cc in
          absurd (omega arith)
      go (at_limit r q) = absurd (omega (arith, last_leaves limit p r, ap length d))

  module _ (sound : Sound rule) where
    pub demand3 : (limit : ℕ) → 0 < limit → RunDemand rule room ids limit
    demand3 limit p = record {
      refused = λ enough n. (
        λ e.
            let k = remaining_known rule room ids limit n e in
            (omega (arith, last_leaves limit p k.0, k.1), k.1),
        λ k.
            let h : 0 < length (remaining rule ids limit) = omega (arith, k.0, k.1) in
            ends_only rule room ids limit (at_limit (reaches_all rule room ids limit enough h limit (omega arith)) (ap ids_left (sym k.1))),
      );
      accepted = λ enough. (
        λ k.
            let d = built_done rule room ids limit k.0 k.1 in
            empty (remaining rule ids limit) (omega (arith, remaining_fewer rule ids k.0 limit d.0, ap length d.1)),
        done_built limit p enough,
      );
      perfect = λ n e. perfect rule ids sound n (built_done rule room ids limit n e).1;
      twice_never = λ x m n e. omega (arith, twice rule ids x m n, ap (count x) (built_done rule room ids limit n e).1);
      twice_left = λ x m n e. omega (arith, twice rule ids x m limit, count-le-length x (remaining rule ids limit), (remaining_known rule room ids limit n e).1);
    }
