-- What a line shows: the numbers that it lends, which begin with its own, and how many are its own.
use Rattle.std.specs.Prelude.{ℕ, List, slice_get, unwrap_or}
use Rattle.lists.specs.declared.line.Line.{Line}

abbrev pub lent_by : Line → List ℕ
lent_by line = line.lent.now

abbrev pub count_of : Line → ℕ
count_of line = line.len

-- the number at a place, 0 past the end
unfoldable pub number_at : Line → ℕ → ℕ
number_at line at = unwrap_or (slice_get (lent_by line) at) 0
