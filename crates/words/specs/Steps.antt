-- What a step on one bit tells and leaves.
use Rattle.std.specs.Prelude.{◌≡◌, Bool, List, ℕ}
use Rattle.laws.specs.Bits.{has}

-- whether the bit was set before is told, and the words become those that the step names
pub record Step (ws : List ℕ) (bit : ℕ) (next : List ℕ) (told : Bool) (after : List ℕ) : Type 0 where
  pub old : told ≡ has ws bit
  pub words : after ≡ next
