-- gamma, about how many bits a level has for each id, and the two tests that it has to pass. An f64 is a `Float`: a number, an infinity or NaN.
-- `of_bits binary64 b` is the f64 with the bits b, and `lt x y` is x < y for two f64s as IEEE 754 has it, so it is false where one of them is NaN.
use Rattle.std.specs.Prelude.{◌≡◌, Bool, true, false, Float}
use Rattle.std.specs.Float.{binary64}
use Rattle.std.specs.Float.Ieee.{of_bits, lt}

-- the f64 nearest to 1.01, and 16
abbrev pub min_gamma : Float
min_gamma = of_bits binary64 0x3FF0_28F5_C28F_5C29

abbrev pub max_gamma : Float
max_gamma = of_bits binary64 0x4030_0000_0000_0000

-- gamma is above 1.01: refusal 1 is given where it is not
abbrev pub above_min : Float → Bool
above_min gamma = lt min_gamma gamma

-- gamma is above 16: refusal 2 is given where it is
abbrev pub above_max : Float → Bool
above_max gamma = lt max_gamma gamma

-- gamma passes both tests
pub record Allowed (gamma : Float) : Type 0 where
  pub above : above_min gamma ≡ true
  pub within : above_max gamma ≡ false
