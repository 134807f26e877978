-- The loop of `run::Stores::build_levels`: before level i the stores hold the levels of the rule before it. Assumes nothing.
use lib.ListN.{length, take}
use Rattle.rule.specs.Demand.{Reaches}
use Rattle.run.specs.Stores.{SameStores, held}
use Rattle.head.specs.Index.{rule_of, room_of}
use Rattle.run.proofs.Runs.{State}
use Rattle.run.proofs.Stores.build_levels.Given as goal

abbrev pub invariant-loop-size : goal.invariant-loop-size
invariant-loop-size l =
    let s₀ = held l.initial.self in
    let ids = take l.count s₀.rest in record {
      same : SameStores l.initial.self l.self;
      state : State l.kind l.gamma ids s₀ l.size-index l.at l.size-items (held l.self);
      reached : Reaches (rule_of l.kind l.gamma) (room_of (length s₀.words) (length s₀.samples)) ids l.size-index;
    }
