-- Gamma by its bits.
use Rattle.std.specs.Prelude.{ℕ, Float, cond, ltb}
use Rattle.std.specs.Float.{binary64}
use Rattle.std.specs.Float.Ieee.{of_bits}

-- the f64 of these bits: 0, where they are those of none that is finite and not negative
unfoldable pub real_of : ℕ → Float
real_of bits = of_bits binary64 (cond (ltb bits 0x7FF0_0000_0000_0000) bits 0)
