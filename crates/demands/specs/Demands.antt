-- What a user can rely on, said of the public calls as they are promised: `build_call`, `lookup_call` and `rows_call` are the answers and stores that `build`,
-- `lookup` and `rows` leave. Of builds it speaks for known kinds, of one at a time: nothing is said between indexes of different kinds. An id is a number that
-- stands in ids: `0 < count x ids`; `Same` lists hold the same ids, each as often, in any order.
use Rattle.std.specs.Prelude.{◌≡◌, ◌↔◌, ◌⊎◌, Bool, true, false, ◌||◌, List, [], ◌++◌, ℕ, suc, ◌*◌, ◌≤◌, ◌<◌, eqb, Float, Result, Ok, length, get_or, drop}
use Rattle.refusal.specs.Answers.{Outcome, answered, refused}
use Rattle.refusal.specs.declared.Refusal.{Refusal}
use Rattle.bounds.specs.Bounds.{max_ids, level_limit}
use Rattle.laws.specs.Counting.{count, Same}
use Rattle.laws.specs.Bits.{words_for}
use Rattle.build.specs.Build.{BuildEnd, build_after, refused_run, build_checks, ended, build_call}
use Rattle.run.specs.Stores.{Stores}
use Rattle.mixer.specs.Kinds.{kind_number}
use Rattle.mixer.specs.declared.Kind.{Kind}
use Rattle.head.specs.declared.Head.{Head}
use Rattle.head.specs.Index.{no_head, rule_of, room_of}
use Rattle.head.specs.Layout.{samples_of_size}
use Rattle.finding.specs.Find.{Answer, found, nothing, refused_for}
use Rattle.lookup.specs.Lookup.{lookup_call}
use Rattle.rows.specs.Rows.{RowStores, row_stores, clear_marks, rows_call}
use Rattle.refusal.specs.declared.Refusal.TheVariants.{NoRoomForLevel, IdsRemain, UnknownKind}
use Rattle.rule.specs.Demand.{Before, Reaches, Enough}
use Rattle.rule.specs.Rule.{Room, RowPlace, remaining, fits, run}
use Rattle.sizes.specs.Gamma.{Allowed}
use Rattle.sizes.specs.Sizes.{size_for}

-- ---- kinds

-- a build of a known kind
abbrev pub build_by : Kind → Float → List ℕ → Stores → BuildEnd
build_by kind gamma ids s = build_call (kind_number kind) gamma ids s

-- A number that no kind has is refused with 16, whatever else is wrong: a build leaves a head of 0, and all stores stay as they were.
pub record NoKind (number : ℕ) : Type 0 where
  pub build : (gamma : Float) (ids : List ℕ) (s : Stores) → build_call number gamma ids s ≡ refused (build_after no_head s) UnknownKind
  pub lookup : (head : Head) (ws ss : List ℕ) (x : ℕ) → head.kind ≡ number → lookup_call head ws ss x ≡ refused_for UnknownKind
  pub rows : (head : Head) (ws ss ids rows marks : List ℕ) → head.kind ≡ number
      → rows_call head ws ss ids rows marks ≡ refused (row_stores rows marks) UnknownKind

-- Any number is that of a known kind, or no kind has it.
abbrev pub KindOrNone : ℕ → Type 0
KindOrNone number = ((kind : Kind) × (number ≡ kind_number kind)) ⊎ NoKind number

-- ---- what comes of the run, and what of the checks before it

-- the checks of a build past that of its kind
abbrev pub checks_of : Float → List ℕ → Stores → Result Unit Refusal
checks_of gamma ids s = build_checks gamma (length ids) (length s.collide) (length s.rest)

-- the room that the stores have
abbrev pub room_in : Stores → Room
room_in s = room_of (length s.words) (length s.samples)

-- the numbers that come of the run: 0, which is no refusal, 5 and 6
abbrev pub of_run : ℕ → Bool
of_run refusal = eqb refusal 0 || eqb refusal 5 || eqb refusal 6

-- Where the outcome of a build comes from.
pub record Outcomes (kind : Kind) (gamma : Float) (ids : List ℕ) (s : Stores) : Type 0 where
  -- 0, 5 or 6 is given exactly if the checks are passed,
  pub of_run_lem : (of_run (build_by kind gamma ids s).refusal ≡ true) ↔ (checks_of gamma ids s ≡ Ok tt)
  -- and then it is what the run comes to
  pub as_run : checks_of gamma ids s ≡ Ok tt → build_by kind gamma ids s ≡ ended kind gamma ids s (run (rule_of kind gamma) (room_in s) ids level_limit)
  -- every other refusal leaves a head of 0, and the stores as they were
  pub of_check : of_run (build_by kind gamma ids s).refusal ≡ false → ((build_by kind gamma ids s).after.head ≡ no_head) × ((build_by kind gamma ids s).after.stores ≡ s)

-- ---- when a build is refused

-- gamma and the id count are in bounds, and the work stores are long enough
pub record InBounds (gamma : Float) (ids : List ℕ) (s : Stores) : Type 0 where
  pub allowed : Allowed gamma
  pub few_ids : length ids ≤ max_ids
  pub rest_long : length ids ≤ length s.rest
  pub collide_long : words_for (size_for gamma (length ids)) ≤ length s.collide

-- a build comes to level i: there is room for the levels before it, and ids are left after each of them
abbrev pub ComesTo : Kind → Float → List ℕ → Stores → ℕ → Type 0
ComesTo kind gamma ids s i = Reaches (rule_of kind gamma) (room_in s) ids i

-- whether there is room for level i too
abbrev pub room_for : Kind → Float → List ℕ → Stores → ℕ → Bool
room_for kind gamma ids s i = fits (rule_of kind gamma) (room_in s) ids (suc i)

-- room enough: for each level that the build comes to, as the level rule has it
abbrev pub RoomEnough : Kind → Float → List ℕ → Stores → Type 0
RoomEnough kind gamma ids s = Enough (rule_of kind gamma) (room_in s) ids level_limit

-- room for as many levels as there can be, each as large as level 0 of n ids
abbrev pub words_enough : Float → ℕ → ℕ
words_enough gamma n = level_limit * words_for (size_for gamma n)

abbrev pub samples_enough : Float → ℕ → ℕ
samples_enough gamma n = level_limit * samples_of_size (size_for gamma n)

-- The stores have that room, which is always enough.
pub record FullRoom (gamma : Float) (ids : List ℕ) (s : Stores) : Type 0 where
  pub words : words_enough gamma (length ids) ≤ length s.words
  pub samples : samples_enough gamma (length ids) ≤ length s.samples

-- how many ids the level rule leaves after level 99, the last
abbrev pub left_over : Kind → Float → List ℕ → ℕ
left_over kind gamma ids = length (remaining (rule_of kind gamma) ids level_limit)

-- How a build in bounds and with room enough is refused.
pub record Refusals (kind : Kind) (gamma : Float) (ids : List ℕ) (s : Stores) : Type 0 where
  -- it is refused exactly if the level rule leaves ids after level 99,
  pub exactly : (0 < (build_by kind gamma ids s).refusal) ↔ (0 < left_over kind gamma ids)
  -- and then with 6 and their number, a head of 0 and stores of 0
  pub as_6 : 0 < left_over kind gamma ids → build_by kind gamma ids s ≡ refused_run (IdsRemain (left_over kind gamma ids)) s
  -- so that 5 never comes
  pub never_5 : (build_by kind gamma ids s).refusal ≡ 5 → ⊥

-- How a build in bounds ends, whatever room there is.
pub record Endings (kind : Kind) (gamma : Float) (ids : List ℕ) (s : Stores) : Type 0 where
  -- accepted with levels 0 to i exactly if it comes to level i, there is room for it, and no id is left after it
  pub done : (i : ℕ) → (((build_by kind gamma ids s).refusal ≡ 0) × ((build_by kind gamma ids s).after.head.levels ≡ suc i))
      ↔ ((i < level_limit) × ComesTo kind gamma ids s i × (room_for kind gamma ids s i ≡ true) × (remaining (rule_of kind gamma) ids (suc i) ≡ []))
  -- refused with 5, giving i, exactly if it comes to level i and there is no room for it
  pub as_5 : (i : ℕ) → (build_by kind gamma ids s ≡ refused_run (NoRoomForLevel i) s) ↔ ((i < level_limit) × ComesTo kind gamma ids s i × (room_for kind gamma ids s i ≡ false))
  -- refused with 6, giving n, exactly if it comes past the last level and n ids are left
  pub as_6 : (n : ℕ) → (build_by kind gamma ids s ≡ refused_run (IdsRemain n) s) ↔ (ComesTo kind gamma ids s level_limit × (left_over kind gamma ids ≡ n))

-- ---- what an accepted build leaves

-- The answers of `lookup` in an index of n ids.
pub record Lookups (ids : List ℕ) (lookup : ℕ → Answer) : Type 0 where
  -- no id was given twice
  pub distinct : (x : ℕ) → count x ids ≤ 1
  -- each id has a row below n
  pub id_row : (x : ℕ) → 0 < count x ids → (u : RowPlace) × (lookup x ≡ found u) × (u.row < length ids)
  -- each row below n is the row of an id, and of no other id
  pub row_id : (k : ℕ) → k < length ids → (x : ℕ) × (0 < count x ids) × (u : RowPlace) × (lookup x ≡ found u) × (u.row ≡ k)
  pub one_id : (x y : ℕ) (u v : RowPlace) → 0 < count x ids → 0 < count y ids → lookup x ≡ found u → lookup y ≡ found v → u.row ≡ v.row → x ≡ y
  -- any number, a foreign id too, gets none or a row below n: no lookup is refused
  pub any_number : (x : ℕ) → (lookup x ≡ nothing) ⊎ ((u : RowPlace) × (lookup x ≡ found u) × (u.row < length ids))

-- what a row list that is not refused leaves: the list at the front of the row store, the rest of it as it was, and the needed marks 0
abbrev pub listed_as : List ℕ → ℕ → List ℕ → List ℕ → Outcome RowStores
listed_as list n rows marks = answered 0 (row_stores (list ++ drop n rows) (clear_marks n marks))

-- The row list of an index of n ids, as `rows` leaves it and `lookup` reads it.
pub record IndexRows (ids : List ℕ) (lookup : ℕ → Answer) (rows_of : (given rows marks : List ℕ) → Outcome RowStores) (list : List ℕ) : Type 0 where
  -- `rows` succeeds with this list where the row and mark stores are long enough, in whatever order the ids are given
  pub succeeds : (given rows marks : List ℕ) → Same given ids → length ids ≤ length rows → words_for (length ids) ≤ length marks
      → rows_of given rows marks ≡ listed_as list (length ids) rows marks
  -- it holds every id exactly once, and nothing else
  pub every_id : (x : ℕ) → 0 < count x ids → count x list ≡ 1
  pub only_ids : Same list ids
  -- each id stands at its row,
  pub at_row : (x : ℕ) (u : RowPlace) → 0 < count x ids → lookup x ≡ found u → get_or list u.row 0 ≡ x
  -- by level and then position
  pub in_order : (k l : ℕ) (u v : RowPlace) → k < l → l < length ids → lookup (get_or list k 0) ≡ found u → lookup (get_or list l 0) ≡ found v → Before u v

-- An index of the ids: the head and the stores that a build left.
pub record Indexed (ids : List ℕ) (end : BuildEnd) : Type 0 where
  pub counted : end.after.head.count ≡ length ids
  pub lookups : Lookups ids (lookup_call end.after.head end.after.stores.words end.after.stores.samples)
  pub row_list : List ℕ
  pub listed : IndexRows ids (lookup_call end.after.head end.after.stores.words end.after.stores.samples)
      (rows_call end.after.head end.after.stores.words end.after.stores.samples) row_list

-- ---- demand 3

pub record Demand3 (kind : Kind) (gamma : Float) (ids : List ℕ) (s : Stores) : Type 0 where
  -- With gamma and id count in bounds and room for each level that it comes to, a build is refused exactly when the level rule leaves ids after level 99.
  pub refused : InBounds gamma ids s → RoomEnough kind gamma ids s → Refusals kind gamma ids s
  -- Once accepted, each row below n belongs to exactly one of the n ids, the row list holds every id exactly once, by level and then position, and a foreign
  -- id gets none or a row below n.
  pub accepted : (build_by kind gamma ids s).refusal ≡ 0 → Indexed ids (build_by kind gamma ids s)
  -- Its head has the kind that was asked for.
  pub kind_kept : (build_by kind gamma ids s).refusal ≡ 0 → (build_by kind gamma ids s).after.head.kind ≡ kind_number kind
  -- The same ids in any order, with the same kind, gamma and stores, give the same index or the same refusal.
  pub any_order : (others : List ℕ) → Same others ids → build_by kind gamma others s ≡ build_by kind gamma ids s

-- ---- the order of the ids does not matter, nor what the stores held

-- stores of the same lengths
pub record SameRoom (s t : Stores) : Type 0 where
  pub words : length s.words ≡ length t.words
  pub samples : length s.samples ≡ length t.samples
  pub collide : length s.collide ≡ length t.collide
  pub rest : length s.rest ≡ length t.rest

-- Two builds end alike: with the same refusal or none, the same value and head. Their stores are the same too, where the outcome is the run's; every other
-- leaves the stores as they were.
pub record SameEnd (a b : BuildEnd) : Type 0 where
  pub refusal : a.refusal ≡ b.refusal
  pub value : a.value ≡ b.value
  pub head : a.after.head ≡ b.after.head
  pub stores : of_run a.refusal ≡ true → a.after.stores ≡ b.after.stores
