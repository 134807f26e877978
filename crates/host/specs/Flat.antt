-- The calls as a host sees them: each is what the call itself leaves behind, as one number and stores.
use Rattle.std.specs.Prelude.{ℕ, ◌+◌, Bool, cond, List, [], ◌∷◌, eqb, leb, Float, Option, None, Some, Result, Ok, Err, length}
use Rattle.laws.specs.Stores.{fronted}
use Rattle.refusal.specs.Table.{number_of}
use Rattle.refusal.specs.Answers.{Outcome, check}
use Rattle.refusal.specs.declared.Refusal.{Refusal}
use Rattle.refusal.specs.declared.Refusal.TheVariants.{UnfitHead, ShortOutput}
use Rattle.head.specs.declared.Head.{Head}
use Rattle.head.specs.Index.{no_head}
use Rattle.head.specs.Numbers.{head_numbers, head_of, numbers_of}
use Rattle.run.specs.Stores.{Stores}
use Rattle.build.specs.Build.{BuildEnd, build_call}
use Rattle.finding.specs.Find.{Answer, found, nothing, refused}
use Rattle.lookup.specs.Lookup.{lookup_call}
use Rattle.rows.specs.Rows.{RowStores, row_stores, rows_call}
use Rattle.image.specs.Image.{ReadAfter, write_call, read_call}
use Rattle.host.specs.Numbers.{refused_number, of_outcome, of_answer}

-- what a host sees: the number, and the stores that the call may write, after it
pub record Seen (After : Type 0) : Type 0 where
  pub number : ℕ
  pub after : After

module _ {After : Type 0} where
  abbrev pub seen : ℕ → After → Seen After
  seen number after = record { number = number; after = after }

  -- of an outcome, and of a refusal that leaves the stores as they were
  abbrev pub seen_of : Outcome After → Seen After
  seen_of o = seen (of_outcome o) o.after

  abbrev pub seen_refused : After → Refusal → Seen After
  seen_refused after r = seen (refused_number (number_of r)) after

-- a call that takes a head needs as many numbers as a head is
abbrev pub is_head : List ℕ → Bool
is_head ns = eqb (length ns) head_numbers

-- the head of such numbers, if they are
unfoldable pub head_lent : List ℕ → Option Head
head_lent ns = cond (is_head ns) (Some (head_of ns)) None

-- the head of a call that makes one: of 0 where it is refused
abbrev pub head_made : Result Head Refusal → Head
head_made (Ok head) = head
head_made (Err why) = no_head

-- ---- a build: first `out` is asked, which gets the value of refusal 5 or 6, else 0, and the head; its later places stay

pub record FlatBuilt : Type 0 where
  pub stores : Stores
  pub out : List ℕ

abbrev pub flat_built : Stores → List ℕ → FlatBuilt
flat_built stores out = record { stores = stores; out = out }

-- the places that `out` needs
abbrev pub out_places : ℕ
out_places = 1 + head_numbers

abbrev pub end_seen : BuildEnd → List ℕ → Seen FlatBuilt
end_seen end out = seen (of_outcome end) (flat_built end.after.stores (fronted (end.value ∷ numbers_of end.after.head) out))

unfoldable pub flat_build : ℕ → Float → List ℕ → Stores → List ℕ → Seen FlatBuilt
flat_build number gamma ids s out =
    check (leb out_places (length out)) ShortOutput (seen_refused (flat_built s out))
    (end_seen (build_call number gamma ids s) out)

-- ---- an image: what reading it leaves, with `out` as in a build; of writing it first the length of the head is asked

pub record FlatLoaded : Type 0 where
  pub words : List ℕ
  pub samples : List ℕ
  pub out : List ℕ

abbrev pub flat_loaded : List ℕ → List ℕ → List ℕ → FlatLoaded
flat_loaded ws ss out = record { words = ws; samples = ss; out = out }

abbrev pub read_seen : Outcome ReadAfter → List ℕ → Seen FlatLoaded
read_seen end out = seen (of_outcome end) (flat_loaded end.after.words end.after.samples (fronted (end.value ∷ numbers_of end.after.head) out))

unfoldable pub flat_read : List ℕ → List ℕ → List ℕ → List ℕ → Seen FlatLoaded
flat_read image ws ss out =
    check (leb out_places (length out)) ShortOutput (seen_refused (flat_loaded ws ss out))
    (read_seen (read_call image ws ss) out)

unfoldable pub flat_write : List ℕ → List ℕ → List ℕ → List ℕ → Seen (List ℕ)
flat_write head ws ss image =
    check (is_head head) UnfitHead (seen_refused image)
    (seen_of (write_call (head_of head) ws ss image))

-- ---- a lookup: first `place` is asked, which gets the level and the position of a row, and else stays; then the length of the head

-- the places that `place` needs
abbrev pub place_places : ℕ
place_places = 2

abbrev pub place_for : Answer → List ℕ → List ℕ
place_for (found p) place = fronted (p.level ∷ p.position ∷ []) place
place_for nothing place = place
place_for (refused r value) place = place

abbrev pub answer_seen : Answer → List ℕ → Seen (List ℕ)
answer_seen answer place = seen (of_answer answer) (place_for answer place)

unfoldable pub flat_lookup : List ℕ → List ℕ → List ℕ → ℕ → List ℕ → Seen (List ℕ)
flat_lookup head ws ss x place =
    check (leb place_places (length place)) ShortOutput (seen_refused place)
    (check (is_head head) UnfitHead (seen_refused place)
    (answer_seen (lookup_call (head_of head) ws ss x) place))

-- ---- a row list: first the length of the head

unfoldable pub flat_rows : List ℕ → List ℕ → List ℕ → List ℕ → List ℕ → List ℕ → Seen RowStores
flat_rows head ws ss ids rows marks =
    check (is_head head) UnfitHead (seen_refused (row_stores rows marks))
    (seen_of (rows_call (head_of head) ws ss ids rows marks))
