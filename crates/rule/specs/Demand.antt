-- What the level rule promises: the balance of a level, how a run ends, demand 3, and that the order of the ids does not matter.
-- In proofs/, `levels` shows the first and `demand3` the third, for any sound rule; `run_ends` and `ends_only` show the second and `same_index` the last, for any.
-- An id is a number that stands in ids: `0 < count x ids`.
use Rattle.std.specs.Prelude.{◌≡◌, ◌↔◌, true, false, List, [], ℕ, suc, ◌+◌, ◌≤◌, ◌<◌, length, get_or}
use Rattle.std.proofs.Math.Option.{some}
use Rattle.laws.specs.Counting.{count, Same}
use Rattle.rule.specs.Rule.{Rule, remaining, span, bit, Room, RunEnd, built, no_room, ids_left, fits, run, ones, base, RowPlace, find, row, row_list}

-- What the laws ask of a rule: a position lies below the size, and no size is 0.
pub record Sound (rule : Rule) : Type 0 where
  pub within : (i s x : ℕ) → 0 < s → rule.pos i s x < s
  pub positive : (n : ℕ) → 0 < rule.size n

-- Each level: the bits it sets and the ids that go on are the ids that came in. Sizes never rise, where the size rule gives fewer ids no more bits.
pub record Levels (rule : Rule) (ids : List ℕ) : Type 0 where
  pub balance : (i : ℕ) → ones (span rule ids) (bit rule ids) i + length (remaining rule ids (suc i)) ≡ length (remaining rule ids i)
  pub no_rise : ((m n : ℕ) → m ≤ n → n ≤ length ids → rule.size m ≤ rule.size n) → (i j : ℕ) → i ≤ j → span rule ids j ≤ span rule ids i

-- a place lies before another: in an earlier level, or in the same level at a lower position
pub data Before (u v : RowPlace) : Type 0 where
  by_level : u.level < v.level → Before u v
  by_position : u.level ≡ v.level → u.position < v.position → Before u v

-- The first L levels are a minimal perfect hash of the ids.
pub record Perfect (rule : Rule) (ids : List ℕ) (L : ℕ) : Type 0 where
  -- the ids are pairwise distinct, and each has a bit
  pub distinct : (i j : ℕ) → i < j → j < length ids → get_or ids i 0 ≡ get_or ids j 0 → ⊥
  pub all_set : base (span rule ids) (bit rule ids) L ≡ length ids
  -- each id has a row; any number at all has no row, or one below the number of ids
  pub has_row : (x : ℕ) → 0 < count x ids → (k : ℕ) × (row rule ids L x ≡ some k)
  pub row_lt : (x k : ℕ) → row rule ids L x ≡ some k → k < length ids
  -- each row below the number of ids is the row of an id, and of no other id
  pub row_taken : (k : ℕ) → k < length ids → (x : ℕ) × (0 < count x ids) × (row rule ids L x ≡ some k)
  pub one_row : (x y k : ℕ) → 0 < count x ids → 0 < count y ids → row rule ids L x ≡ some k → row rule ids L y ≡ some k → x ≡ y
  -- the row list holds every id exactly once, each at its row, by rising level and then position
  pub listed : (x : ℕ) → 0 < count x ids → count x (row_list rule ids L) ≡ 1
  pub list_same : Same (row_list rule ids L) ids
  pub list_at : (x k : ℕ) → 0 < count x ids → row rule ids L x ≡ some k → get_or (row_list rule ids L) k 0 ≡ x
  pub list_row : (k : ℕ) → k < length ids → row rule ids L (get_or (row_list rule ids L) k 0) ≡ some k
  pub rising : (k l : ℕ) (u v : RowPlace) → k < l → l < length ids → find rule ids L (get_or (row_list rule ids L) k 0) ≡ some u
      → find rule ids L (get_or (row_list rule ids L) l 0) ≡ some v → Before u v
  -- and it is the only list that has each id at its row
  pub list_only : (t : List ℕ) → length t ≡ length ids → ((x k : ℕ) → 0 < count x ids → row rule ids L x ≡ some k → get_or t k 0 ≡ x)
      → t ≡ row_list rule ids L

module _ (rule : Rule) (room : Room) (ids : List ℕ) where
  -- a run comes to level i: there is room for the levels before, and ids were left after each of them
  pub record Reaches (i : ℕ) : Type 0 where
    pub room_for : fits rule room ids i ≡ true
    pub more_after : (j : ℕ) → j < i → 0 < length (remaining rule ids (suc j))

  -- How a run to the limit ends: none are left after level i, or there is no room for it, or the limit is reached.
  pub data Ends (limit : ℕ) (end : RunEnd) : Type 0 where
    none_left : (i : ℕ) → i < limit → Reaches i → fits rule room ids (suc i) ≡ true → remaining rule ids (suc i) ≡ []
        → end ≡ built (suc i) → Ends limit end
    out_of_room : (i : ℕ) → i < limit → Reaches i → fits rule room ids (suc i) ≡ false → end ≡ no_room i → Ends limit end
    at_limit : Reaches limit → end ≡ ids_left (length (remaining rule ids limit)) → Ends limit end

  -- the stores have room enough: for each level below the limit that the run comes to
  abbrev pub Enough : ℕ → Type 0
  Enough limit = (i : ℕ) → i < limit → Reaches i → fits rule room ids (suc i) ≡ true

  -- Demand 3, of a run to a limit that is not 0.
  pub record RunDemand (limit : ℕ) : Type 0 where
    -- with room enough: refused exactly if ids are left after the last level below the limit, with their number, and else built
    pub refused : Enough limit → (n : ℕ) → (run rule room ids limit ≡ ids_left n) ↔ ((0 < n) × (length (remaining rule ids limit) ≡ n))
    pub accepted : Enough limit → ((L : ℕ) × (run rule room ids limit ≡ built L)) ↔ (remaining rule ids limit ≡ [])
    -- with any room: what is built is a minimal perfect hash of the ids
    pub perfect : (L : ℕ) → run rule room ids limit ≡ built L → Perfect rule ids L
    -- an id given twice is never accepted, and stays to the end
    pub twice_never : (x : ℕ) → 2 ≤ count x ids → (L : ℕ) → run rule room ids limit ≡ built L → ⊥
    pub twice_left : (x : ℕ) → 2 ≤ count x ids → (n : ℕ) → run rule room ids limit ≡ ids_left n → 2 ≤ n

-- Two lists of ids give one index: sizes, bits, the run's outcome in any room and to any limit, lookups and row lists are the same.
pub record SameIndex (rule : Rule) (xs ys : List ℕ) : Type 0 where
  pub sizes : span rule xs ≡ span rule ys
  pub bits : bit rule xs ≡ bit rule ys
  pub runs : (room : Room) → run rule room xs ≡ run rule room ys
  pub finds : find rule xs ≡ find rule ys
  pub lists : row_list rule xs ≡ row_list rule ys
