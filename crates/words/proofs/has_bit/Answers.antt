-- `words::has_bit` meets its contract. Assumes nothing.
use mathlib.Core.Path.{refl}
use Rattle.laws.specs.Bits.{bit_at, has}
use Rattle.words.proofs.has_bit.Goals as goal

pub returns : goal.returns
unfolding has bit_at
returns c = refl
