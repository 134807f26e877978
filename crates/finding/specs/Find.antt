-- The row of any number in levels that lie in stores, wherever they come from.
use Rattle.std.specs.Prelude.{ℕ, ◌+◌, ◌/◌, ◌&&◌, List, leb, ltb, get_or, Result, Ok, Err, Some, None}
use Rattle.std.proofs.Math.Option.{Option, none, some}
use Rattle.bounds.specs.Bounds.{max_ids, sample_bits}
use Rattle.laws.specs.Bits.{has}
use Rattle.ranks.specs.Ranks.{ones_from}
use Rattle.refusal.specs.Table.{number_of, value_of}
use Rattle.refusal.specs.Answers.{check}
use Rattle.refusal.specs.declared.Refusal.{Refusal}
use Rattle.refusal.specs.declared.Refusal.TheVariants.{UnfitRow}
use Rattle.rule.specs.Rule.{RowPlace, first}
use Rattle.head.specs.Layout.{level_words, level_samples}
use Rattle.finding.specs.declared.Place.{Place}

-- what a lookup answers: a row with its level and position, none, or a refusal with its number and value
pub data Answer : Type 0 where
  found : RowPlace → Answer
  nothing : Answer
  refused : ℕ → ℕ → Answer

abbrev pub refused_for : Refusal → Answer
refused_for r = refused (number_of r) (value_of r)

-- the answer that a result is
abbrev pub answer_of : Result (Rattle.std.specs.Prelude.Option Place) Refusal → Answer
answer_of (Ok (Some p)) = found (record { row = p.row; level = p.level; position = p.position })
answer_of (Ok None) = nothing
answer_of (Err r) = refused_for r

-- the row of an answer; a refusal counts as no row
abbrev pub row_in : Answer → Option ℕ
row_in (found p) = some p.row
row_in nothing = none
row_in (refused number value) = none

-- A set bit at p, in a level with these words and samples: the row is the sample that serves p and the ones from there up to p. It is refused where the
-- sample is above the id bound or the row is not below the id count.
unfoldable pub row_answer : ℕ → List ℕ → List ℕ → ℕ → ℕ → Answer
row_answer count ws ss i p =
    let sample = get_or ss (p / sample_bits) 0 in
    let row = sample + ones_from ws p in
    check (leb sample max_ids && ltb row count) UnfitRow refused_for (found (record { row = row; level = i; position = p }))

-- by any rule of positions
module _ (pos : (level size id : ℕ) → ℕ) (count : ℕ) (span : ℕ → ℕ) (ws ss : List ℕ) (x : ℕ) where
  -- the answer by the first level whose bit at the position of x is set
  abbrev pub level_answer : Option ℕ → Answer
  level_answer none = nothing
  level_answer (some i) = row_answer count (level_words span ws i) (level_samples span ss i) i (pos i (span i) x)

  -- the answer of so many levels
  unfoldable pub find_in : ℕ → Answer
  find_in levels = level_answer (first pos span (λ i. has (level_words span ws i)) levels 0 x)
