-- Bits below those of infinity are no NaN's.
use lib.Ieee.{binary64}
use lib.Ieee.Bits.{nan_bits_above}
use Rattle.std.proofs.Common.{◌%◌, ◌^◌, arith, le-ltb}
use Rattle.lists.proofs.real.real.Goals as goal

pub float_from_bits-result : goal.float_from_bits-result
float_from_bits-result c =
    rw (nan_bits_above binary64 c.args.bits, le-ltb 0x7ff0_0000_0000_0000 (c.args.bits % 2 ^ 63) (omega arith)) tt
