-- `mixer::wrapping_mul` meets its contract. Assumes nothing.
use Rattle.mixer.proofs.Words.{by_halves}
use Rattle.mixer.proofs.wrapping_mul.Goals as goal

pub returns : goal.returns
returns c = cc (by_halves c.args.a c.args.b)
