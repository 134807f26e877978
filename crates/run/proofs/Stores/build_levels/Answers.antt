-- `run::Stores::build_levels` meets its contract. Assumes nothing.
use mathlib.Core.Path.{◌≡◌}
use native.Mathlib.Numerals.{add-one}
use native.Mathlib.Omega.{arith}
use Rattle.std.specs.Prelude.{Some, None}
use Rattle.std.proofs.Common.{rules}
use Rattle.std.proofs.lemmas.Result.{err_from_is_err_and}
use Rattle.bounds.specs.Bounds.{level_limit}
use Rattle.refusal.specs.declared.Refusal.TheVariants.{NoRoomForLevel}
use Rattle.rule.proofs.Run.{reaches_0}
use Rattle.run.specs.Stores.{held}
use Rattle.run.proofs.Runs.{begins, ready_next, goes_on, ran_full, ran_built, ran_left}
use Rattle.run.proofs.Stores.build_levels.Goals as goal

pub loop-size-init : goal.loop-size-init
loop-size-init c = record { same = search rules; state = begins _ _ _ _ (held c.args.self.now) c.requires; reached = reaches_0 _ _ _ }

pub build_level-requires : goal.build_level-requires
build_level-requires c =
    let l = c.loop-size in ready_next _ _ _ _ (held c.args.self.now) c.requires l.size-index _ _ _ l.invariant.state l.invariant.reached (omega arith)

pub returns-in_err-placed-clause-ran : goal.returns-in_err-placed-clause-ran
returns-in_err-placed-clause-ran c =
    let l = c.loop-size in
    let full : c.build_level.result ≡ None = grind arith in
    let why : c.in_err-placed.field-0.0 ≡ NoRoomForLevel l.at.level = grind arith in
    let told = err_from_is_err_and c.from_residual.result c.from_residual.ensures.1 in
    rw (told.1, told.2, why)
    (ran_full _ _ _ (held c.args.self.now) l.size-index l.at _ _ l.invariant.state l.invariant.reached (omega arith) (rw full at c.build_level.ensures.turn))

pub returns-then-at-eq0-clause-ran : goal.returns-then-at-eq0-clause-ran
returns-then-at-eq0-clause-ran c =
    let l = c.loop-size in
    let placed : c.build_level.result ≡ Some c.in_ok-placed.placed = grind arith in
    ran_built _ _ _ (held c.args.self.now) l.size-index l.at _ _ l.invariant.state l.invariant.reached (omega arith) (rw placed at c.build_level.ensures.turn) c.if-at-eq0.true

pub loop-size-preserved : goal.loop-size-preserved
loop-size-preserved c =
    let l = c.loop-size in
    let placed : c.build_level.result ≡ Some c.in_ok-placed.placed = grind arith in
    let g = goes_on _ _ _ (held c.args.self.now) l.size-index l.at _ _ l.invariant.state l.invariant.reached (omega arith) (rw placed at c.build_level.ensures.turn) c.if-at-eq0.false in
    rw (add-one l.size-index) (record { same = search rules; state = g.0; reached = g.1 })

pub returns-clause-ran : goal.returns-clause-ran
returns-clause-ran c =
    let l = c.loop-size in
    let e : l.size-index ≡ level_limit = omega arith in
    ran_left _ _ _ (held c.args.self.now) l.at _ (held l.self) (rw e at l.invariant.state) (rw e at l.invariant.reached)
