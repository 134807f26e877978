-- Demand 3: the index that an accepted build leaves is a minimal perfect hash of its ids, by the answers of `lookup` and `rows`. Assumes nothing.
use mathlib.Core.Path.{◌≡◌, refl, sym, ap, ◌∙◌, subst, fun_ext}
use mathlib.Core.Logic.{◌⊎◌, inl, inr}
use mathlib.Core.Bool.{Bool, true, false}
use mathlib.Core.List.{List, [], ◌∷◌}
use mathlib.Core.Option.{Option, none, some}
use Prim.Native.Nat.{ℕ, ◌≤◌, ◌<◌}
use native.Mathlib.Nat.{add-zero}
use native.Mathlib.Decide.{ℕ_discrete}
use native.Mathlib.Omega.{arith}
use borrow.Author.Tests.{eq-eqb, ne_eqb, le-leb}
use lib.Dec.{eqb, lit<}
use lib.Ieee.{Float}
use lib.ListN.{length, get_or}
use lib.Seq.{ext_get_or}
use Rattle.std.specs.Prelude.{Ok, Err}
use Rattle.bounds.specs.Bounds.{max_ids}
use Rattle.demands.specs.Demands.{build_by, room_in, Lookups, listed_as, IndexRows, Indexed, Demand3}
use Rattle.demands.specs.Levels.{EachLevelLeft, samples_by, FromWords}
use Rattle.demands.proofs.Built.{Finished, run_done, built_head, words_in, samples_in, as_answer, index_fits, lookup_is, levels_left, from_words}
use Rattle.demands.proofs.Order.{rows_any_order, build_any_order}
use Rattle.demands.proofs.Room.{accepted, refusals}
use Rattle.laws.specs.Bits.{words_for}
use Rattle.laws.specs.Counting.{one, tally, count, sift, chain, Same}
use Rattle.laws.proofs.Chains.{chain_same, chain_at, length-chain}
use Rattle.laws.proofs.Cases.{Tri, lt, eq, gt, tri, one-eq}
use Rattle.laws.proofs.Counts.{same_length, length-sift, count-sift, count_at, only}
use Rattle.laws.proofs.Sums.{sum_ones}
use Rattle.build.specs.Build.{BuildEnd, built_of}
use Rattle.run.specs.Stores.{Stores}
use Rattle.laws.specs.Stores.{filled}
use Rattle.head.specs.Index.{rule_of, room_of}
use Rattle.finding.specs.Find.{found, nothing, answer_of, row_in}
use Rattle.lookup.specs.Lookup.{lookup_call}
use Rattle.rows.specs.Rows.{is_none, is_row, apart, listed, rows_by, rows_call}
use Rattle.head.specs.declared.Head.{Head}
use Rattle.rows.proofs.Lists.{apart_is}
use Rattle.head.proofs.Indexes.{rule_sound}
use Rattle.refusal.specs.declared.Refusal.{Refusal}
use Rattle.rule.specs.Demand.{Perfect}
use Rattle.rule.specs.Rule.{Rule, RowPlace, row_of, find, row, row_list}
use Rattle.rule.proofs.Reader.{row_found}
use Rattle.rule.proofs.RowLaws.{perfect}
use Rattle.mixer.specs.Kinds.{kind_number}
use Rattle.mixer.specs.declared.Kind.{Kind}
use Rattle.mixer.proofs.KindNumbers.{number_known}
use Rattle.sizes.specs.Gamma.{Allowed}

-- ---- lists

-- a tally asks only of the members
tally_members : (f g : ℕ → Bool) (xs : List ℕ) → ((x : ℕ) → 0 < count x xs → f x ≡ g x) → tally f xs ≡ tally g xs
tally_members f g [] e = refl
tally_members f g (x ∷ xs) e =
    omega (arith, ap one (e x (omega (arith, one-eq x x refl))), tally_members f g xs (λ y h. e y (omega arith)))

no_tally : (f : ℕ → Bool) (xs : List ℕ) → ((x : ℕ) → 0 < count x xs → f x ≡ false) → tally f xs ≡ 0
no_tally f [] e = refl
no_tally f (x ∷ xs) e = omega (arith, ap one (e x (omega (arith, one-eq x x refl))), no_tally f xs (λ y h. e y (omega arith)))

-- a list by its members
by_members : (xs : List ℕ) → chain (λ k. get_or xs k 0 ∷ []) (length xs) ≡ xs
by_members xs =
    let len : length (chain (λ k. get_or xs k 0 ∷ []) (length xs)) ≡ length xs = length-chain _ (length xs) ∙ sum_ones (length xs) in
    ext_get_or 0 _ xs len
    (λ k h. rw (sum_ones k, add-zero k) at (chain_at (λ j. get_or xs j 0 ∷ []) (λ j. 1) (λ j. refl) (length xs) k 0 (omega arith) (lit< tt)))

-- ---- answers

answered-place : (o : Option RowPlace) (u : RowPlace) → as_answer o ≡ found u → o ≡ some u
answered-place none u e = let z : ◌≡◌ {A = ℕ} 0 1 = cc in absurd (omega arith)
answered-place (some v) u e = cc

answered-row : (o : Option RowPlace) → row_in (as_answer o) ≡ row_of o
answered-row none = refl
answered-row (some u) = refl

-- ---- a row list by any rule that gives each id a row of its own

module _ (rowFor : ℕ → Option ℕ) (ids list : List ℕ) (once : (x : ℕ) → 0 < count x ids → count x ids ≡ 1)
    (has_row : (x : ℕ) → 0 < count x ids → (k : ℕ) × (rowFor x ≡ some k))
    (one_row : (x y k : ℕ) → 0 < count x ids → 0 < count y ids → rowFor x ≡ some k → rowFor y ≡ some k → x ≡ y) (same : Same list ids)
    (at_row : (k : ℕ) → k < length ids → rowFor (get_or list k 0) ≡ some k) where
  -- the id that the list has at row k is the only one sent there
  module _ (k : ℕ) (h : k < length ids) where
    member : 0 < count (get_or list k 0) ids
    member = omega (arith, count_at list k (rw (same_length same) h), same.counts (get_or list k 0))

    sent_is : (y : ℕ) → 0 < count y ids → is_row k (rowFor y) ≡ eqb y (get_or list k 0)
    sent_is y m =
        elim (ℕ_discrete y (get_or list k 0)) [
          | yes e ↦ rw (e, at_row k h, eq-eqb k k refl, eq-eqb (get_or list k 0) (get_or list k 0) refl)
          | no d ↦
              let r = has_row y m in
              rw (r.1, ne_eqb y (get_or list k 0) d) (ne_eqb r.0 k (λ e. d (one_row y (get_or list k 0) k m member (r.1 ∙ ap some e) (at_row k h))))
        ]

    sent-one : tally (λ x. is_row k (rowFor x)) ids ≡ 1
    sent-one = tally_members (λ x. is_row k (rowFor x)) (λ x. eqb x (get_or list k 0)) ids sent_is ∙ once (get_or list k 0) member

    sent_list : sift (λ x. is_row k (rowFor x)) ids ≡ get_or list k 0 ∷ []
    sent_list =
        only (get_or list k 0) _ (length-sift (λ x. is_row k (rowFor x)) ids ∙ sent-one)
        (rw (count-sift (λ x. is_row k (rowFor x)) (get_or list k 0) ids, at_row k h, one-eq k k refl) (omega (arith, member)))

  all_apart : apart rowFor ids (length ids) ≡ true
  all_apart =
      apart_is rowFor ids (length ids) (no_tally (λ x. is_none (rowFor x)) ids (λ x m. ap is_none (has_row x m).1)) (λ k h. omega (arith, sent-one k h))

  listed_is : listed rowFor ids (length ids) ≡ list
  unfolding listed
  listed_is = chain_same _ _ (length ids) sent_list ∙ ap (chain (λ k. get_or list k 0 ∷ [])) (sym (same_length same)) ∙ by_members list

  rows_are : (rows marks : List ℕ) → rows_by rowFor (length ids) ids rows marks ≡ listed_as list (length ids) rows marks
  unfolding rows_by
  rows_are rows marks = rw (eq-eqb (length ids) (length ids) refl, all_apart, listed_is)

-- ---- the index of n levels

module _ (kind : Kind) (gamma : Float) (ids : List ℕ) (word_room sample_room n : ℕ) (done : Finished (rule_of kind gamma) (room_of word_room sample_room) ids n)
    (allowed : Allowed gamma) (few : length ids ≤ max_ids) where
  abbrev rule : Rule
  rule = rule_of kind gamma

  -- the head and the stores, and the row list
  abbrev Top : Head
  Top = built_head kind gamma ids n

  abbrev Words : List ℕ
  Words = words_in kind gamma ids n word_room

  abbrev Samples : List ℕ
  Samples = samples_in kind gamma ids n sample_room

  abbrev Rows : List ℕ
  Rows = row_list rule ids n

  hash : Perfect rule ids n
  hash = perfect rule ids (rule_sound kind gamma) n done.none_left

  look : (x : ℕ) → lookup_call Top Words Samples x ≡ as_answer (find rule ids n x)
  look x = lookup_is kind gamma ids word_room sample_room n done allowed few x

  -- a place that is found is the rule's, and its row too
  place_is : (x : ℕ) (u : RowPlace) → lookup_call Top Words Samples x ≡ found u → find rule ids n x ≡ some u
  place_is x u e = answered-place (find rule ids n x) u (sym (look x) ∙ e)

  row_is : (x : ℕ) (u : RowPlace) → lookup_call Top Words Samples x ≡ found u → row rule ids n x ≡ some u.row
  row_is x u e = ap row_of (place_is x u e)

  -- what has a row is found there
  found_at : (x k : ℕ) → row rule ids n x ≡ some k → (u : RowPlace) × (lookup_call Top Words Samples x ≡ found u) × (u.row ≡ k)
  found_at x k e =
      let f = row_found (find rule ids n x) k e in
      (f.0, look x ∙ ap as_answer f.1, f.2)

  once : (x : ℕ) → 0 < count x ids → count x ids ≡ 1
  once x h = omega (arith, hash.listed x h, hash.list_same.counts x)

  lookups : Lookups ids (lookup_call Top Words Samples)
  lookups = record {
    distinct = λ x. at_most x (tri 0 (count x ids));
    id_row = λ x h.
        let r = hash.has_row x h in
        let f = found_at x r.0 r.1 in
        (f.0, f.1, omega (arith, hash.row_lt x r.0 r.1, f.2));
    row_id = λ k h.
        let r = hash.row_taken k h in
        let f = found_at r.0 k r.2 in
        (r.0, r.1, f.0, f.1, f.2);
    one_id = λ x y u v p q e f r. hash.one_row x y u.row p q (row_is x u e) (row_is y v f ∙ ap some (sym r));
    any_number = λ x. any x (find rule ids n x) refl;
  }
    where
      at_most : (x : ℕ) → Tri 0 (count x ids) → count x ids ≤ 1
      at_most x (lt h) = omega (arith, once x h)
      at_most x (eq e) = omega arith
      at_most x (gt h) = absurd (omega arith)

      any : (x : ℕ) (o : Option RowPlace) → find rule ids n x ≡ o
          → (lookup_call Top Words Samples x ≡ nothing) ⊎ ((u : RowPlace) × (lookup_call Top Words Samples x ≡ found u) × (u.row < length ids))
      any x none e = inl (look x ∙ ap as_answer e)
      any x (some u) e = inr (u, look x ∙ ap as_answer e, hash.row_lt x u.row (ap row_of e))

  -- ---- the row list

  row_rule : (x : ℕ) → row_in (lookup_call Top Words Samples x) ≡ row rule ids n x
  row_rule x = ap row_in (look x) ∙ answered-row (find rule ids n x)

  call : (rows marks : List ℕ) → length ids ≤ length rows → words_for (length ids) ≤ length marks
      → rows_call Top Words Samples ids rows marks ≡ listed_as Rows (length ids) rows marks
  unfolding rows_call
  call rows marks p q =
      rw (number_known kind, index_fits kind gamma ids word_room sample_room n done allowed few, le-leb (length ids) (length rows) p, le-leb (words_for (length ids)) (length marks) q)
      (ap (λ (f : ℕ → Option ℕ). rows_by f (length ids) ids rows marks) (fun_ext row_rule)
      ∙ rows_are (row rule ids n) ids Rows once hash.has_row hash.one_row hash.list_same hash.list_row rows marks)

  listing : IndexRows ids (lookup_call Top Words Samples) (rows_call Top Words Samples) Rows
  listing = record {
    succeeds = λ given rows marks s p q. rows_any_order Top Words Samples rows marks s ∙ call rows marks p q;
    every_id = hash.listed;
    only_ids = hash.list_same;
    at_row = λ x u h e. hash.list_at x u.row h (row_is x u e);
    in_order = λ k l u v h m e f. hash.rising k l u v h m (place_is (get_or Rows k 0) u e) (place_is (get_or Rows l 0) v f);
  }

-- ---- of an accepted build

module _ (kind : Kind) (gamma : Float) (ids : List ℕ) (s : Stores) where
  indexed : (build_by kind gamma ids s).refusal ≡ 0 → Indexed ids (build_by kind gamma ids s)
  indexed done =
      let a = accepted kind gamma ids s done in
      let d = run_done (rule_of kind gamma) (room_in s) ids a.levels a.ran in
      subst (Indexed ids) (sym a.call_is) (record {
        counted = refl;
        lookups = lookups kind gamma ids (length s.words) (length s.samples) a.levels d a.bounds.allowed a.bounds.few_ids;
        row_list = row_list (rule_of kind gamma) ids a.levels;
        listed = listing kind gamma ids (length s.words) (length s.samples) a.levels d a.bounds.allowed a.bounds.few_ids;
      })

  kind_kept : (build_by kind gamma ids s).refusal ≡ 0 → (build_by kind gamma ids s).after.head.kind ≡ kind_number kind
  kind_kept done = ap (λ (x : BuildEnd). x.after.head.kind) (accepted kind gamma ids s done).call_is

  pub demand3 : Demand3 kind gamma ids s
  demand3 = record { refused = λ b r. refusals kind gamma ids s r b; accepted = indexed; kind_kept = kind_kept; any_order = λ others e. build_any_order kind gamma e s }

  -- the same of what `build` returns where it is not refused, by its promise
  pub returned : (head : Head) (after : Stores) → built_of (Ok head) after ≡ build_by kind gamma ids s → Indexed ids (built_of (Ok head) after)
  returned head after e = subst (Indexed ids) (sym e) (indexed (ap (λ (x : BuildEnd). x.refusal) (sym e)))

  -- The samples of an accepted build are those that its head and its words give.
  pub samples_from_words : (build_by kind gamma ids s).refusal ≡ 0
      → FromWords (build_by kind gamma ids s).after.head (build_by kind gamma ids s).after.stores.words (build_by kind gamma ids s).after.stores.samples
  samples_from_words done =
      let a = accepted kind gamma ids s done in
      subst (λ (x : BuildEnd). FromWords x.after.head x.after.stores.words x.after.stores.samples) (sym a.call_is)
      (from_words kind gamma ids (length s.words) (length s.samples) a.levels (run_done (rule_of kind gamma) (room_in s) ids a.levels a.ran))

  -- In each of its levels the ones in its words and the ids going on are as many as the ids that came in, and its sizes never rise.
  pub levels_balance : (build_by kind gamma ids s).refusal ≡ 0 → EachLevelLeft kind gamma ids (build_by kind gamma ids s).after.head (build_by kind gamma ids s).after.stores.words
  levels_balance done =
      let a = accepted kind gamma ids s done in
      subst (λ (x : BuildEnd). EachLevelLeft kind gamma ids x.after.head x.after.stores.words) (sym a.call_is)
      (levels_left kind gamma ids (length s.words) (length s.samples) a.levels)

-- so that there is one sample store of a given length for a head and its words
pub samples_decided : (head : Head) (words ss ts : List ℕ) → FromWords head words ss → FromWords head words ts → length ss ≡ length ts → ss ≡ ts
samples_decided head words ss ts e f l = e.store ∙ ap (filled (chain (samples_by head words) head.levels)) l ∙ sym f.store

-- ---- no lookup in an index is refused, by the promise of `lookup`: its answer is a row or none

pub never_refused : {ids : List ℕ} {end : BuildEnd} → Indexed ids end → (x : ℕ) (why : Refusal)
    → answer_of (Err why) ≡ lookup_call end.after.head end.after.stores.words end.after.stores.samples x → ⊥
never_refused t x why e =
    elim (t.lookups.any_number x) [
      | inl n ↦ let z : ◌≡◌ {A = ℕ} 0 1 = cc in absurd (omega arith)
      | inr f ↦
          let g = f.1 in
          let z : ◌≡◌ {A = ℕ} 0 1 = cc in
          absurd (omega arith)
    ]
