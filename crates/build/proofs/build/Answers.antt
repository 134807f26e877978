-- `build::build` meets its contract. Assumes nothing.
use mathlib.Core.Path.{◌≡◌, sym, ◌∙◌}
use native.Mathlib.Omega.{arith}
use lib.ListN.{length}
use Rattle.std.specs.Prelude.{Ok}
use Rattle.std.proofs.Common.{rules}
use Rattle.std.proofs.lemmas.Result.{err_from_is_err_and}
use Rattle.bounds.specs.Bounds.{head_sizes}
use Rattle.laws.specs.Stores.{zeros}
use Rattle.run.specs.Stores.{stores, held}
use Rattle.run.specs.Run.{Begun}
use Rattle.build.specs.Build.{built_of, build_checks, build_call}
use Rattle.build.proofs.Builds.{Passed, passed, begun, build_unknown, build_refused, build_ends}
use Rattle.build.proofs.build.Goals as goal

pub returns-in_err-known : goal.returns-in_err-known
returns-in_err-known c =
    let told = err_from_is_err_and c.from_residual.result c.from_residual.ensures.1 in
    rw (told.1, told.2) (build_unknown _ _ _ _ (sym c.try_from.ensures ∙ c.in_err-known.was))

pub returns-in_err-check : goal.returns-in_err-check
returns-in_err-check c =
    let told = err_from_is_err_and c.from_residual-in_err-check.result c.from_residual-in_err-check.ensures.1 in
    rw (told.1, told.2)
    (build_refused _ _ (stores _ _ c.args.collide.now c.args.rest.now) _ (sym c.try_from.ensures ∙ c.in_ok-known.was) (sym c.in_err-check.was ∙ c.check.ensures))

pub begin-requires : goal.begin-requires
begin-requires c =
    let p : Passed c.args.gamma (length c.args.ids.now) (length c.args.collide.now) (length c.args.rest.now)
    = passed _ _ _ _ (sym c.check.ensures ∙ c.in_ok-check.was) in
    p.in_rest

pub build_levels-run-requires : goal.build_levels-run-requires
build_levels-run-requires c =
    let s = stores c.args.words.now c.args.samples.now c.args.collide.now c.args.rest.now in
    let e : Begun c.args.gamma (length c.args.ids.now) (zeros head_sizes) (held c.begin.new.lent)
    = rw c.begin.ensures.begun (begun _ _ s (passed _ _ _ _ (sym c.check.ensures ∙ c.in_ok-check.was))) in
    e

pub returns : goal.returns
returns c =
    let s = stores c.args.words.now c.args.samples.now c.args.collide.now c.args.rest.now in
    let done : build_checks c.args.gamma (length c.args.ids.now) (length c.args.collide.now) (length c.args.rest.now) ≡ Ok tt
    = sym c.check.ensures ∙ c.in_ok-check.was in
    let e : built_of c.end.result (held c.end.new.lent) ≡ build_call c.args.kind c.args.gamma c.args.ids.now s
    = c.end.ensures.after
    ∙ build_ends _ _ s (passed _ _ _ _ done) _ (sym c.try_from.ensures ∙ c.in_ok-known.was) done c.begin.ensures.begun _ c.build_levels-run.ensures.ran (omega arith) (omega arith) (omega arith) in
    search rules
