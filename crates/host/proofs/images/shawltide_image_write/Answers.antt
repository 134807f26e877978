-- `host::images::shawltide_image_write` meets its contract. Assumes nothing.
use Rattle.host.proofs.Flats.{write_unheaded, write_headed}
use Rattle.host.proofs.images.shawltide_image_write.Goals as goal

pub returns-in_default : goal.returns-in_default
returns-in_default c = write_unheaded _ _ _ _ c.in_default.ensures c.refused.ensures

pub returns : goal.returns
returns c = write_headed _ _ _ _ _ c.in-Some.ensures c.number.ensures c.write.ensures
