-- The bound on a line of a list, for the contracts: `MOST` in code.
use Rattle.std.specs.Prelude.{ℕ}

-- no line has more numbers
abbrev pub most : ℕ
most = 8192
