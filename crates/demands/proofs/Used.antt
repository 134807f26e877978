-- Lookups and row lists depend on the used part of the stores alone: they may be cut to it, or be longer, with anything past it. Assumes nothing.
use mathlib.Core.Path.{◌≡◌, refl, sym, ap, ap₂, ◌∙◌, subst, fun_ext}
use mathlib.Core.Logic.{inl, inr}
use mathlib.Core.Bool.{Bool, true, false}
use mathlib.Core.List.{List, ◌++◌}
use mathlib.Core.Option.{Option, none, some}
use Prim.Native.Nat.{ℕ, suc, ◌+◌, ◌≤◌, ◌<◌}
use native.Mathlib.Omega.{arith}
use borrow.Author.Tests.{le-leb}
use lib.Ieee.{Float}
use lib.ListN.{length, take, drop, length-append, get_or-append}
use lib.Seq.{ext_get_or, get_or-take, get_or-drop, length-take-le}
use Rattle.mixer.specs.declared.Kind.{Kind}
use Rattle.demands.specs.Demands.{build_by, Lookups, IndexRows, Indexed}
use Rattle.demands.specs.Rooms.{SameFront, SameUsed, SameReads, with_stores, cut}
use Rattle.demands.proofs.Demand3.{demand3, never_refused}
use Rattle.laws.specs.Bits.{has, words_for}
use Rattle.laws.proofs.Parts.{length_part}
use Rattle.laws.proofs.Sums.{sum_mono}
use Rattle.mixer.specs.Kinds.{kind_of}
use Rattle.head.specs.KindCheck.{check_kind}
use Rattle.std.specs.Prelude.{Ok}
use Rattle.mixer.proofs.KindNumbers.{number_known, number_or_not}
use Rattle.head.specs.Index.{positions}
use Rattle.build.specs.Build.{BuildEnd}
use Rattle.run.specs.Stores.{Stores}
use Rattle.head.specs.Layout.{samples_of_size, size_at, level_words, level_samples, used_words, used_samples, fit}
use Rattle.finding.specs.Find.{Answer, row_answer, level_answer, find_in}
use Rattle.lookup.specs.Lookup.{lookup_call}
use Rattle.refusal.specs.Answers.{Outcome}
use Rattle.rows.specs.Rows.{RowStores, rows_call}
use Rattle.head.specs.Fit.{Fit}
use Rattle.head.specs.declared.Head.{Head}
use Rattle.lookup.proofs.Lookups.{lookup_unknown, lookup_unfit}
use Rattle.head.proofs.Fits.{fit_known}
use Rattle.refusal.specs.declared.Refusal.TheVariants.{UnfitHead, UnknownKind}
use Rattle.rule.specs.Rule.{first}
use Rattle.rule.proofs.Reader.{first-has, first_same}

-- a part that lies in the same front is the same
part_same : (n : ℕ) {us vs : List ℕ} → SameFront n us vs → (at k : ℕ) → at + k ≤ n → take k (drop at us) ≡ take k (drop at vs)
part_same n {us} {vs} f at k h =
    let l : length (take k (drop at us)) ≡ k = length_part at k us (omega (arith, f.in_first)) refl in
    let m : length (take k (drop at vs)) ≡ k = length_part at k vs (omega (arith, f.in_second)) refl in
    ext_get_or 0 _ _ (l ∙ sym m)
    (λ j q.
    get_or-take k (drop at us) j 0 (omega arith) ∙ get_or-drop at us j 0 ∙ f.agree (at + j) (omega arith)
    ∙ sym (get_or-drop at vs j 0) ∙ sym (get_or-take k (drop at vs) j 0 (omega arith)))

-- a store that is cut has the same front, and one with anything past it too
cut_front : (n : ℕ) (us : List ℕ) → n ≤ length us → SameFront n us (take n us)
cut_front n us h = record { in_first = h; in_second = omega (arith, length-take-le n us h); agree = λ k l. sym (get_or-take n us k 0 l) }

pub front_past : (n : ℕ) {us vs : List ℕ} → SameFront n us vs → (past : List ℕ) → SameFront n us (vs ++ past)
front_past n {vs = vs} f past = record {
  in_first = f.in_first;
  in_second = omega (arith, f.in_second, length-append vs past);
  agree = λ k l. f.agree k l ∙ sym (get_or-append vs past 0 k (omega (arith, f.in_second)));
}

module _ (head : Head) (ws ss vs ts : List ℕ) (same : SameUsed head ws ss vs ts) where
  abbrev size : ℕ → ℕ
  size = size_at head.sizes

  same_words : (i : ℕ) → i < head.levels → level_words size ws i ≡ level_words size vs i
  same_words i h =
      part_same (used_words head) same.words _ (words_for (size i)) (sum_mono (λ j. words_for (size j)) {m = suc i} {n = head.levels} h)

  same_samples : (i : ℕ) → i < head.levels → level_samples size ss i ≡ level_samples size ts i
  same_samples i h =
      part_same (used_samples head) same.samples _ (samples_of_size (size i)) (sum_mono (λ j. samples_of_size (size j)) {m = suc i} {n = head.levels} h)

  same_fit : fit head.count head.levels head.sizes (length ws) (length ss) ≡ fit head.count head.levels head.sizes (length vs) (length ts)
  unfolding fit
  same_fit =
      rw (
        le-leb (used_words head) (length ws) same.words.in_first,
        le-leb (used_words head) (length vs) same.words.in_second,
        le-leb (used_samples head) (length ss) same.samples.in_first,
        le-leb (used_samples head) (length ts) same.samples.in_second,
      )

  same_find : (pos : (level size id : ℕ) → ℕ) (x : ℕ) → find_in pos head.count size ws ss x head.levels ≡ find_in pos head.count size vs ts x head.levels
  unfolding find_in
  same_find pos x =
      go (first pos size (λ i. has (level_words size ws i)) head.levels 0 x) refl
      ∙ ap (level_answer pos head.count size vs ts x)
      (first_same pos size size (λ i. has (level_words size ws i)) (λ i. has (level_words size vs i)) x head.levels 0
      (λ j h. ap (λ (us : List ℕ). has us (pos j (size j) x)) (same_words j (omega arith))))
    where
      go : (o : Option ℕ) → first pos size (λ i. has (level_words size ws i)) head.levels 0 x ≡ o
          → level_answer pos head.count size ws ss x o ≡ level_answer pos head.count size vs ts x o
      go none e = refl
      go (some i) e =
          let h : i < head.levels = omega (arith, (first-has pos size (λ i. has (level_words size ws i)) head.levels 0 i x e).1) in
          ap₂ (λ (us rs : List ℕ). row_answer head.count us rs i (pos i (size i) x)) (same_words i h) (same_samples i h)

  same_lookup : (x : ℕ) → lookup_call head ws ss x ≡ lookup_call head vs ts x
  unfolding lookup_call
  same_lookup x = rw same_fit (ap (check_kind (kind_of head.kind) _) (fun_ext (λ kind. rw (same_find (positions kind) x))))

  same_rows : (ids rows marks : List ℕ) → rows_call head ws ss ids rows marks ≡ rows_call head vs ts ids rows marks
  unfolding rows_call
  same_rows ids rows marks = rw (same_fit, fun_ext same_lookup)

  pub same_reads : SameReads head ws ss vs ts
  same_reads = record { lookups = same_lookup; row_lists = same_rows }

-- ---- an index

-- stays one in any stores that have the same used part
pub indexed_in : {ids : List ℕ} {end : BuildEnd} → Indexed ids end → (t : Stores)
    → SameUsed end.after.head end.after.stores.words end.after.stores.samples t.words t.samples → Indexed ids (with_stores end t)
indexed_in {ids} {end} index t same =
    let reads = same_reads end.after.head end.after.stores.words end.after.stores.samples t.words t.samples same in
    let looks : lookup_call end.after.head end.after.stores.words end.after.stores.samples ≡ lookup_call end.after.head t.words t.samples
    = fun_ext reads.lookups in
    let rows : rows_call end.after.head end.after.stores.words end.after.stores.samples ≡ rows_call end.after.head t.words t.samples
    = fun_ext (λ given. fun_ext (λ rs. fun_ext (λ marks. reads.row_lists given rs marks))) in
    record {
      counted = index.counted;
      lookups = subst (Lookups ids) looks index.lookups;
      row_list = index.row_list;
      listed =
          subst (λ (f : ℕ → Answer). IndexRows ids f (rows_call end.after.head t.words t.samples) index.row_list) looks
          (subst (λ (f : List ℕ → List ℕ → List ℕ → Outcome RowStores). IndexRows ids (lookup_call end.after.head end.after.stores.words end.after.stores.samples) f index.row_list)
          rows index.listed);
    }

module _ {ids : List ℕ} {end : BuildEnd} (index : Indexed ids end) where
  abbrev fits : Bool
  fits = fit end.after.head.count end.after.head.levels end.after.head.sizes (length end.after.stores.words) (length end.after.stores.samples)

  -- has a known kind and fits its stores, or lookups would be refused
  index_fits : fits ≡ true
  index_fits =
      elim (number_or_not end.after.head.kind) [
        | inl (kind, e) ↦ go kind (ap kind_of e ∙ number_known kind) fits refl
        | inr u ↦ absurd (never_refused index 0 UnknownKind (lookup_unknown end.after.head end.after.stores.words end.after.stores.samples 0 u))
      ]
    where
      go : (kind : Kind) → kind_of end.after.head.kind ≡ Ok kind → (b : Bool) → fits ≡ b → b ≡ true
      go kind k true e = refl
      go kind k false e = absurd (never_refused index 0 UnfitHead (lookup_unfit end.after.head end.after.stores.words end.after.stores.samples 0 kind k e))

  -- so they have the used part
  has_used : Fit end.after.head.count end.after.head.levels end.after.head.sizes (length end.after.stores.words) (length end.after.stores.samples)
  has_used = fit_known _ _ _ _ _ index_fits

  -- and it stays one when its stores are cut to that part
  pub cut_same : SameUsed end.after.head end.after.stores.words end.after.stores.samples (cut end).after.stores.words (cut end).after.stores.samples
  cut_same = record {
    words = cut_front (used_words end.after.head) end.after.stores.words has_used.word_room;
    samples = cut_front (used_samples end.after.head) end.after.stores.samples has_used.sample_room;
  }

  pub cut_indexed : Indexed ids (cut end)
  cut_indexed = indexed_in index (cut end).after.stores cut_same

-- so does that of an accepted build
pub build_cut : (kind : Kind) (gamma : Float) (ids : List ℕ) (s : Stores) → (build_by kind gamma ids s).refusal ≡ 0 → Indexed ids (cut (build_by kind gamma ids s))
build_cut kind gamma ids s done = cut_indexed ((demand3 kind gamma ids s).accepted done)
