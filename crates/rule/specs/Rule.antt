-- The level rule: which bits a level has, who goes on, how a run of levels ends, the row of an id, and the row list.
-- It stands over any rule of positions and sizes: no hash, no float and no number of levels is fixed here.
use Rattle.std.specs.Prelude.{Bool, not, cond, ◌&&◌, List, [], ℕ, zero, suc, ◌+◌, ◌*◌, eqb, leb, length}
use Rattle.std.proofs.Math.Option.{Option, none, some}
use Rattle.bounds.specs.Bounds.{sample_bits}
use Rattle.laws.specs.Counting.{sum, rank, hits, sift, chain}

-- A rule gives an id its position in a level of a given size, and a level its size by how many ids come to it.
pub record Rule : Type 0 where
  pub pos : (level size id : ℕ) → ℕ
  pub size : (remaining : ℕ) → ℕ

-- ---- one level, to which the ids xs come, each with its position by g

-- the bit at p is set exactly if exactly one id has that position
abbrev pub single : (ℕ → ℕ) → List ℕ → ℕ → Bool
single g xs p = eqb (hits g p xs) 1

-- the ids whose position is shared go on, in their order
abbrev pub rest : (ℕ → ℕ) → List ℕ → List ℕ
rest g xs = sift (λ x. not (single g xs (g x))) xs

-- ---- the levels of a list of ids

module _ (rule : Rule) (ids : List ℕ) where
  -- the ids that are left before level i: before level 0, all of them
  unfoldable pub remaining : ℕ → List ℕ
  remaining zero = ids
  remaining (suc i) =
      let xs = remaining i in
      rest (rule.pos i (rule.size (length xs))) xs

  -- the size of level i
  abbrev pub span : ℕ → ℕ
  span i = rule.size (length (remaining i))

  -- the bits of level i
  abbrev pub bit : ℕ → ℕ → Bool
  bit i p = single (rule.pos i (span i)) (remaining i) p

-- ---- a run: one level after another, up to a limit, as far as the stores have room

-- Where level i starts in a store in which the levels lie one after another, and a level of s bits takes `need s` places.
abbrev pub start : (ℕ → ℕ) → (ℕ → ℕ) → ℕ → ℕ
start need span i = sum (λ j. need (span j)) i

-- the words and the samples that a level of a given size takes, and how many of each the stores hold
pub record Room : Type 0 where
  pub words : (size : ℕ) → ℕ
  pub samples : (size : ℕ) → ℕ
  pub word_room : ℕ
  pub sample_room : ℕ

-- how a run ends: built, with so many levels; no room for a level; or so many ids left after the last level
pub data RunEnd : Type 0 where
  built : ℕ → RunEnd
  no_room : ℕ → RunEnd
  ids_left : ℕ → RunEnd

module _ (rule : Rule) (room : Room) (ids : List ℕ) where
  -- whether the stores have room for the levels before level i
  abbrev pub fits : ℕ → Bool
  fits i = leb (start room.words (span rule ids) i) room.word_room && leb (start room.samples (span rule ids) i) room.sample_room

  -- The run from level i on, where n more levels are allowed. A level is begun only if there is room for it; if no id is left after it, it is the last.
  unfoldable pub run_from : ℕ → ℕ → RunEnd
  run_from zero i = ids_left (length (remaining rule ids i))
  run_from (suc n) i =
      let next = run_from n (suc i) in
      cond (fits (suc i)) (cond (eqb (length (remaining rule ids (suc i))) 0) (built (suc i)) next) (no_room i)

  -- The run of at most `limit` levels, from level 0, which is built even for no ids.
  abbrev pub run : ℕ → RunEnd
  run limit = run_from limit 0

-- ---- a reader, who has the size and the bits of each level

module _ (span : ℕ → ℕ) (bits : ℕ → ℕ → Bool) where
  -- the bits set in level i, and in all levels before it
  abbrev pub ones : ℕ → ℕ
  ones i = rank (bits i) (span i)

  abbrev pub base : ℕ → ℕ
  base i = sum ones i

  -- the row of a set bit at p: the bits set before it, in all earlier levels and below p in its own
  abbrev pub row_at : ℕ → ℕ → ℕ
  row_at i p = base i + rank (bits i) p

  -- sample j of level i: the bits set in all earlier levels and in this level's words before the first that it stands for
  abbrev pub sample : ℕ → ℕ → ℕ
  sample i j = base i + rank (bits i) (sample_bits * j)

-- a row, with its level and its position there
pub record RowPlace : Type 0 where
  pub row : ℕ
  pub level : ℕ
  pub position : ℕ

module _ (pos : ℕ → ℕ → ℕ → ℕ) (span : ℕ → ℕ) (bits : ℕ → ℕ → Bool) where
  -- the first of the n levels from i on whose bit at the position of x is set
  unfoldable pub first : ℕ → ℕ → ℕ → Option ℕ
  first zero i x = none
  first (suc n) i x =
      let later = first n (suc i) x in
      cond (bits i (pos i (span i) x)) (some i) later

  -- the place of x in that level, if there is one
  abbrev pub place : ℕ → Option ℕ → Option RowPlace
  place x none = none
  place x (some i) =
      let p = pos i (span i) x in
      some (record { row = row_at span bits i p; level = i; position = p })

  -- The lookup of any number x in n levels.
  abbrev pub lookup : ℕ → ℕ → Option RowPlace
  lookup n x = place x (first n 0 x)

-- the row alone
abbrev pub row_of : Option RowPlace → Option ℕ
row_of none = none
row_of (some u) = some u.row

-- ---- the rows of a list of ids, by its first n levels

module _ (rule : Rule) (ids : List ℕ) where
  -- the lookup of any number x, and its row
  abbrev pub find : ℕ → ℕ → Option RowPlace
  find n x = lookup rule.pos (span rule ids) (bit rule ids) n x

  abbrev pub row : ℕ → ℕ → Option ℕ
  row n x = row_of (find n x)

  -- The row list, ids by level and then position: at a set bit the id that has it, in a level these by position, and the levels one after another.
  abbrev pub at_bit : ℕ → ℕ → List ℕ
  at_bit i p = cond (bit rule ids i p) (sift (λ x. eqb (rule.pos i (span rule ids i) x) p) (remaining rule ids i)) []

  abbrev pub in_level : ℕ → List ℕ
  in_level i = chain (at_bit i) (span rule ids i)

  abbrev pub row_list : ℕ → List ℕ
  row_list n = chain in_level n
