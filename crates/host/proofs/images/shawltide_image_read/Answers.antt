-- `host::images::shawltide_image_read` meets its contract. Assumes nothing.
use native.Mathlib.Omega.{arith}
use Rattle.host.proofs.Flats.{read_short, read_asked}
use Rattle.host.proofs.images.shawltide_image_read.Goals as goal

pub returns-then-out-lt-OUT : goal.returns-then-out-lt-OUT
returns-then-out-lt-OUT c = read_short _ _ _ _ (omega (arith, c.if-out-lt-OUT.true)) c.refused.ensures

pub returns : goal.returns
returns c = read_asked _ _ _ _ c.read-loaded.result _ _ (omega (arith, c.if-out-lt-OUT.false)) c.number.ensures c.read-loaded.ensures c.write_out.ensures
