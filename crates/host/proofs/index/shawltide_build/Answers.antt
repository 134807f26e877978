-- `host::index::shawltide_build` meets its contract. Assumes nothing.
use native.Mathlib.Omega.{arith}
use Rattle.run.specs.Stores.{stores}
use Rattle.host.proofs.Flats.{build_short, build_asked}
use Rattle.host.proofs.index.shawltide_build.Goals as goal

pub returns-then-out-lt-OUT : goal.returns-then-out-lt-OUT
returns-then-out-lt-OUT c =
    let a = c.args in
    build_short a.kind a.gamma a.ids.now (stores a.words.now a.samples.now a.collide.now a.rest.now) a.out.now (omega (arith, c.if-out-lt-OUT.true)) c.refused.ensures

pub returns : goal.returns
returns c =
    let a = c.args in
    build_asked a.kind a.gamma a.ids.now (stores a.words.now a.samples.now a.collide.now a.rest.now) a.out.now c.build-built.result _ (omega (arith, c.if-out-lt-OUT.false))
    c.number.ensures c.build-built.ensures c.write_out.ensures
