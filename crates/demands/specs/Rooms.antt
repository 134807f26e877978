-- What does not matter: room beyond what is enough, and what lies past the used part of the stores.
use Rattle.std.specs.Prelude.{◌≡◌, List, ℕ, ◌≤◌, ◌<◌, Float, length, get_or, take}
use Rattle.build.specs.Build.{BuildEnd, build_after}
use Rattle.run.specs.Stores.{Stores, stores}
use Rattle.laws.specs.Stores.{filled}
use Rattle.head.specs.Layout.{used_words, used_samples}
use Rattle.lookup.specs.Lookup.{lookup_call}
use Rattle.rows.specs.Rows.{rows_call}
use Rattle.head.specs.declared.Head.{Head}
use Rattle.mixer.specs.declared.Kind.{Kind}
use Rattle.demands.specs.Demands.{build_by, InBounds}

-- ---- room beyond what is enough does not matter

-- t has at least as many words and samples as s
pub record AtLeast (s t : Stores) : Type 0 where
  pub words : length s.words ≤ length t.words
  pub samples : length s.samples ≤ length t.samples

-- The build b, made in the stores t, ends as a did: with the same refusal or none, the same value and head, and the same words and samples, with 0 past them.
pub record EndsAs (t : Stores) (a b : BuildEnd) : Type 0 where
  pub refusal : b.refusal ≡ a.refusal
  pub value : b.value ≡ a.value
  pub head : b.after.head ≡ a.after.head
  pub words : b.after.stores.words ≡ filled a.after.stores.words (length t.words)
  pub samples : b.after.stores.samples ≡ filled a.after.stores.samples (length t.samples)

-- A build in bounds that is not refused with 5 ends so in any stores in bounds that have at least as many words and samples.
pub record MoreRoom (kind : Kind) (gamma : Float) (ids : List ℕ) (s t : Stores) : Type 0 where
  pub ends_as : InBounds gamma ids s → InBounds gamma ids t → AtLeast s t → ((build_by kind gamma ids s).refusal ≡ 5 → ⊥)
      → EndsAs t (build_by kind gamma ids s) (build_by kind gamma ids t)

-- ---- only the used part of the stores matters

-- two stores have at least n places, and the same number in each of the first n
pub record SameFront (n : ℕ) (us vs : List ℕ) : Type 0 where
  pub in_first : n ≤ length us
  pub in_second : n ≤ length vs
  pub agree : (k : ℕ) → k < n → get_or us k 0 ≡ get_or vs k 0

-- two pairs of a word and a sample store have the same used part; how long they are, and what lies past it, is left open
pub record SameUsed (head : Head) (ws ss vs ts : List ℕ) : Type 0 where
  pub words : SameFront (used_words head) ws vs
  pub samples : SameFront (used_samples head) ss ts

-- Every lookup and every row list is the same in both pairs.
pub record SameReads (head : Head) (ws ss vs ts : List ℕ) : Type 0 where
  pub lookups : (x : ℕ) → lookup_call head ws ss x ≡ lookup_call head vs ts x
  pub row_lists : (ids rows marks : List ℕ) → rows_call head ws ss ids rows marks ≡ rows_call head vs ts ids rows marks

-- what a build left, with other stores beside its head; and with its words and samples cut to the used part
abbrev pub with_stores : BuildEnd → Stores → BuildEnd
with_stores end t = record { refusal = end.refusal; value = end.value; after = build_after end.after.head t }

abbrev pub cut : BuildEnd → BuildEnd
cut end =
    with_stores end
    (stores (take (used_words end.after.head) end.after.stores.words) (take (used_samples end.after.head) end.after.stores.samples) end.after.stores.collide end.after.stores.rest)
