-- The position of an id among the bits of a level, from its hash there.
use Rattle.std.specs.Prelude.{ℕ, ◌*◌, ◌/◌, ◌%◌, ◌^◌, bit_xor}
use Rattle.mixer.specs.Mixer.{hashed}
use Rattle.mixer.specs.declared.Kind.{Kind}

-- the low 32 bits xor the high 32 bits
abbrev pub folded : ℕ → ℕ
folded h = bit_xor (h % 2 ^ 32) (h / 2 ^ 32)

-- a folded hash f among s: f times s / 2 ^ 32, rounded down
abbrev pub scaled : ℕ → ℕ → ℕ
scaled f s = f * s / 2 ^ 32

-- the position rule of any hash: level i, of s bits, and an id
abbrev pub position_by : (ℕ → ℕ → ℕ) → ℕ → ℕ → ℕ → ℕ
position_by hash i s id = scaled (folded (hash i id)) s

-- the position rule of a kind
unfoldable pub position : Kind → ℕ → ℕ → ℕ → ℕ
position kind i s id = position_by (hashed kind) i s id
