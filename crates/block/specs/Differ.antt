-- Two lists that differ in exactly one place.
use Rattle.std.specs.Prelude.{ℕ, ◌<◌, ◌≡◌, List, length, get_or}

pub record DifferOnce (us vs : List ℕ) : Type 0 where
  pub as_long : length us ≡ length vs
  pub place : ℕ
  pub within : place < length us
  pub differ : get_or us place 0 ≡ get_or vs place 0 → ⊥
  pub elsewhere : (i : ℕ) → (i ≡ place → ⊥) → get_or us i 0 ≡ get_or vs i 0
