-- No room for a second answer, module 6: two outcomes that meet a call's promise are equal, the answer and every word of every store. bitvector's
-- proofs/Unique.antt says the same of the sets. Assumes nothing.
use mathlib.Core.Path.{◌≡◌, refl, sym, ap, ◌∙◌}
use mathlib.Core.List.{List}
use Prim.Native.Nat.{ℕ}
use lib.Ieee.{Float}
use Rattle.std.specs.Prelude.{Option, None, Some, Result, Ok, Err}
use Rattle.refusal.specs.Answers.{made}
use Rattle.refusal.specs.declared.Refusal.{Refusal}
use Rattle.refusal.proofs.Apart.{case_of, numbered, refused_back}
use Rattle.refusal.proofs.Once.{once_by, Once, result_in, made_once}
use Rattle.run.specs.Stores.{Stores}
use Rattle.build.specs.Build.{BuildEnd, built_of, build_call}
use Rattle.finding.specs.Find.{Answer, found, nothing, refused, answer_of}
use Rattle.finding.specs.declared.Place.{Place}
use Rattle.head.specs.declared.Head.{Head}
use Rattle.lookup.specs.Lookup.{lookup_call}
use Rattle.rows.specs.Rows.{RowStores, rows_call}

-- a build, by any number of a kind: the outcome and the head, and the four stores
pub build_once : (number : ℕ) (gamma : Float) (ids : List ℕ) (s : Stores) (a b : Result Head Refusal) (t u : Stores) → built_of a t ≡ build_call number gamma ids s
    → built_of b u ≡ build_call number gamma ids s → (a ≡ b) × (t ≡ u)
build_once number gamma ids s =
    once_by built_of (result_in (λ (x : BuildEnd). x.after.head)) (λ (x : BuildEnd). x.after.stores) answer left (build_call number gamma ids s)
  where
    answer : (a : Result Head Refusal) (t : Stores) → result_in (λ (x : BuildEnd). x.after.head) (built_of a t) ≡ a
    answer (Ok head) t = refl
    answer (Err why) t = refused_back _ Err why

    left : (a : Result Head Refusal) (t : Stores) → (built_of a t).after.stores ≡ t
    left (Ok head) t = refl
    left (Err why) t = refl

-- a lookup: the answer, for it writes no store
abbrev found_back : Answer → Result (Option Place) Refusal
found_back (found p) = Ok (Some (record { row = p.row; level = p.level; position = p.position }))
found_back nothing = Ok None
found_back (refused number value) = Err (case_of number value)

pub lookup_once : (head : Head) (ws ss : List ℕ) (x : ℕ) (a b : Result (Option Place) Refusal) → answer_of a ≡ lookup_call head ws ss x
    → answer_of b ≡ lookup_call head ws ss x → a ≡ b
lookup_once head ws ss x a b e f = sym (back a) ∙ ap found_back (e ∙ sym f) ∙ back b
  where
    back : (a : Result (Option Place) Refusal) → found_back (answer_of a) ≡ a
    back (Ok (Some p)) = refl
    back (Ok None) = refl
    back (Err r) = rw (numbered r).back

-- a row list: the answer, the row store and the mark store
pub rows_once : (head : Head) (ws ss ids rows marks : List ℕ) → Once RowStores (Result Unit Refusal) made (rows_call head ws ss ids rows marks)
rows_once head ws ss ids rows marks = made_once RowStores (rows_call head ws ss ids rows marks)
