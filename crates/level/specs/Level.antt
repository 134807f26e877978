-- One level on words: its ids are marked one after another, then filtered one after another; and what the level leaves by the level rule.
-- A function g gives each id its position.
use Rattle.std.specs.Prelude.{◌≡◌, Bool, cond, ℕ, ◌≤◌, leb, length, take, drop, replicate}
use mathlib.Core.List.{List, ◌++◌, foldl}
use Rattle.laws.specs.Counting.{hits, sift}
use Rattle.laws.specs.Bits.{has, words_for, with_bit, without_bit, packed}
use Rattle.laws.specs.Stores.{fronted}
use Rattle.rule.specs.Rule.{single, rest}

-- ---- the stores

-- the stores that are marked in: the level's words, and collide's
pub record MarkStores : Type 0 where
  pub words : List ℕ
  pub collide : List ℕ

abbrev pub mark_stores : List ℕ → List ℕ → MarkStores
mark_stores words collide = record { words = words; collide = collide }

-- both have the words that the size needs
pub record Room (size : ℕ) (s : MarkStores) : Type 0 where
  pub own : words_for size ≤ length s.words
  pub other : words_for size ≤ length s.collide

-- the first n words are 0
abbrev pub ClearWords : ℕ → List ℕ → Type 0
ClearWords n words = take n words ≡ replicate n 0

-- ---- marking

-- One id: where collide has its position nothing happens; else where the level has it, collide gets it; else the level gets it.
unfoldable pub mark_one : (ℕ → ℕ) → MarkStores → ℕ → MarkStores
mark_one g s id =
    cond (has s.collide (g id)) s
    (cond (has s.words (g id)) (mark_stores s.words (with_bit s.collide (g id)))
    (mark_stores (with_bit s.words (g id)) s.collide))

-- all ids of a list, in order
abbrev pub mark_all : (ℕ → ℕ) → MarkStores → List ℕ → MarkStores
mark_all g s ids = foldl (mark_one g) s ids

-- ---- filtering

-- an id goes on where collide has its position
abbrev pub goes_on : (ℕ → ℕ) → List ℕ → ℕ → Bool
goes_on g collide id = has collide (g id)

-- One id: if it goes on, its bit leaves the level.
unfoldable pub filter_one : (ℕ → ℕ) → List ℕ → List ℕ → ℕ → List ℕ
filter_one g collide words id = cond (goes_on g collide id) (without_bit words (g id)) words

-- all ids of a list, in order
abbrev pub filter_all : (ℕ → ℕ) → List ℕ → List ℕ → List ℕ → List ℕ
filter_all g collide words ids = foldl (filter_one g collide) words ids

-- what filtering one id tells and leaves
pub record OneFiltered (g : ℕ → ℕ) (collide words : List ℕ) (id : ℕ) (told : Bool) (words' : List ℕ) : Type 0 where
  pub on : told ≡ goes_on g collide id
  pub words_are : words' ≡ filter_one g collide words id

-- what filtering the first `count` ids of the rest store tells and leaves: those that go on stand at its front, in their order
pub record Filtered (g : ℕ → ℕ) (collide : List ℕ) (count : ℕ) (words store : List ℕ) (told : ℕ) (words' store' : List ℕ) : Type 0 where
  pub words_are : words' ≡ filter_all g collide words (take count store)
  pub store_is : store' ≡ fronted (sift (goes_on g collide) (take count store)) store
  pub count_is : told ≡ length (sift (goes_on g collide) (take count store))

-- ---- the whole level

-- the positions that some id has, and those that two or more have; `single` of the level rule has those of exactly one
abbrev pub met : (ℕ → ℕ) → List ℕ → ℕ → Bool
met g ids p = leb 1 (hits g p ids)

abbrev pub shared : (ℕ → ℕ) → List ℕ → ℕ → Bool
shared g ids p = leb 2 (hits g p ids)

-- What a level leaves in words that were 0, for the first `count` ids of the rest store. Its bits are the positions that exactly one of them has, and collide's
-- those that two or more have; the ids that go on stand at the front of the rest store, and their number is told. All else is as it was.
pub record AfterLevel (g : ℕ → ℕ) (size count : ℕ) (words collide store : List ℕ) (told : ℕ) (words' collide' store' : List ℕ) : Type 0 where
  pub words_are : words' ≡ packed (words_for size) (single g (take count store)) ++ drop (words_for size) words
  pub collide_is : collide' ≡ packed (words_for size) (shared g (take count store)) ++ drop (words_for size) collide
  pub store_is : store' ≡ fronted (rest g (take count store)) store
  pub count_is : told ≡ length (rest g (take count store))
