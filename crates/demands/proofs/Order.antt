-- The order of the ids does not matter, to a build nor to a row list. Assumes nothing.
use mathlib.Core.Path.{◌≡◌, refl, sym, ap, ap₂, ◌∙◌, fun_ext}
use mathlib.Core.Bool.{Bool, true, false, ◌&&◌}
use mathlib.Core.List.{List, [], ◌∷◌, ◌++◌, Permᴰ}
use mathlib.Core.Option.{Option}
use Prim.Native.Nat.{ℕ, ◌≤◌}
use native.Mathlib.Omega.{arith}
use lib.Dec.{eqb, leb}
use lib.Ieee.{Float}
use lib.ListN.{length, drop}
use Rattle.mixer.specs.declared.Kind.{Kind}
use Rattle.std.specs.Prelude.{Result, Ok, Err}
use Rattle.refusal.specs.declared.Refusal.{Refusal}
use Rattle.bounds.specs.Bounds.{level_limit}
use Rattle.demands.specs.Demands.{build_by, checks_of, room_in, SameRoom, SameEnd}
use Rattle.demands.proofs.Outcomes.{Apart, checks_apart, build_is}
use Rattle.laws.specs.Bits.{words_for, packed}
use Rattle.laws.specs.Counting.{one, rank, chain, Same}
use Rattle.laws.proofs.Chains.{chain_same}
use Rattle.laws.proofs.Cases.{Tri, lt, eq, gt, tri}
use Rattle.laws.proofs.Counts.{same_total, same_length, same_sift, same_one, length-sift, empty, perm_same}
use Rattle.build.specs.Build.{BuildEnd, build_checks, ended, after_checks}
use Rattle.run.specs.Stores.{Stores}
use Rattle.head.specs.Index.{rule_of, room_of, index_words, index_samples, index_sizes}
use Rattle.finding.specs.Find.{row_in}
use Rattle.lookup.specs.Lookup.{lookup_call}
use Rattle.refusal.specs.Answers.{Outcome, answered, refused, check}
use Rattle.refusal.specs.declared.Refusal.TheVariants.{WrongIds}
use Rattle.rows.specs.Rows as R
use Rattle.head.specs.declared.Head.{Head}
use Rattle.rows.proofs.Lists.{apart_known}
use Rattle.ranks.specs.Ranks.{samples_of}
use Rattle.rule.specs.Demand.{SameIndex}
use Rattle.rule.specs.Rule.{RunEnd, built, no_room, ids_left, run, base}
use Rattle.rule.proofs.Order.{same_index}

-- ---- a row list

-- a list of one member or none has no other order
same_short : {xs ys : List ℕ} → Same xs ys → length xs ≤ 1 → xs ≡ ys
same_short {xs} {ys} s h = go (tri (length xs) 1)
  where
    go : Tri (length xs) 1 → xs ≡ ys
    go (lt l) = empty xs (omega arith) ∙ sym (empty ys (omega (arith, same_length s)))
    go (eq e) = same_one s e
    go (gt l) = absurd (omega arith)

module _ (row : ℕ → Option ℕ) (count : ℕ) {xs ys : List ℕ} (s : Same xs ys) where
  same_apart : R.apart row xs count ≡ R.apart row ys count
  unfolding R.apart
  same_apart =
      ap₂ (λ (a : ℕ) (b : ℕ → ℕ). eqb a 0 && eqb (rank (λ k. leb 2 (b k)) count) 0) (same_total (λ x. one (R.is_none (row x))) s)
      (fun_ext (λ k. same_total (λ x. one (R.is_row k (row x))) s))

  -- ids that are apart are listed alike: each row has one of them or none
  same_listed : R.apart row xs count ≡ true → R.listed row xs count ≡ R.listed row ys count
  unfolding R.listed
  same_listed e =
      chain_same _ _ count
      (λ k h.
      same_short (same_sift (λ x. R.is_row k (row x)) s)
      (omega (arith, length-sift (λ x. R.is_row k (row x)) xs, (apart_known row xs count e).1 k h)))

  same_by : (rows marks : List ℕ) → R.rows_by row count xs rows marks ≡ R.rows_by row count ys rows marks
  unfolding R.rows_by
  same_by rows marks = rw (← same_apart, same_length s) (go (R.apart row xs count) refl (eqb (length ys) count))
    where
      after : Bool → List ℕ → Outcome R.RowStores
      after passed list =
          check passed WrongIds (refused (R.row_stores rows (R.clear_marks count marks)))
          (answered 0 (R.row_stores (list ++ drop count rows) (R.clear_marks count marks)))

      go : (b : Bool) → R.apart row xs count ≡ b → (n : Bool) → after (n && b) (R.listed row xs count) ≡ after (n && b) (R.listed row ys count)
      go true e n = ap (after (n && true)) (same_listed e)
      go false e true = refl
      go false e false = refl

-- whatever the head and the stores hold, `rows` leaves the same list and marks, or the same refusal
pub rows_any_order : (head : Head) (words samples rows marks : List ℕ) {xs ys : List ℕ} → Same xs ys
    → R.rows_call head words samples xs rows marks ≡ R.rows_call head words samples ys rows marks
unfolding R.rows_call
rows_any_order head words samples rows marks s = rw (same_by (λ x. row_in (lookup_call head words samples x)) head.count s rows marks)

-- ---- a build

module _ (kind : Kind) (gamma : Float) {xs ys : List ℕ} (s : Same xs ys) where
  same : SameIndex (rule_of kind gamma) xs ys
  same = same_index (rule_of kind gamma) s

  same_words : (n : ℕ) → index_words (rule_of kind gamma) xs n ≡ index_words (rule_of kind gamma) ys n
  unfolding index_words
  same_words n = ap₂ (λ (w : ℕ → ℕ) (b : ℕ → ℕ → Bool). chain (λ i. packed (words_for (w i)) (b i)) n) same.sizes same.bits

  same_samples : (n : ℕ) → index_samples (rule_of kind gamma) xs n ≡ index_samples (rule_of kind gamma) ys n
  unfolding index_samples
  same_samples n =
      ap₂ (λ (w : ℕ → ℕ) (b : ℕ → ℕ → Bool). chain (λ i. samples_of (base w b i) (packed (words_for (w i)) (b i))) n) same.sizes same.bits

  same_sizes : (n : ℕ) → index_sizes (rule_of kind gamma) xs n ≡ index_sizes (rule_of kind gamma) ys n
  unfolding index_sizes
  same_sizes n = ap (λ (w : ℕ → ℕ). chain (λ i. w i ∷ []) n) same.sizes

  same_ended : (t : Stores) (o : RunEnd) → ended kind gamma xs t o ≡ ended kind gamma ys t o
  same_ended t (built n) = rw (same_length s, same_words n, same_samples n, same_sizes n)
  same_ended t (no_room i) = refl
  same_ended t (ids_left n) = refl

  -- with the same stores: the same answer, head and stores
  pub build_any_order : (t : Stores) → build_by kind gamma xs t ≡ build_by kind gamma ys t
  build_any_order t = rw (build_is kind gamma xs t, build_is kind gamma ys t, same_length s) (go (build_checks gamma (length ys) (length t.collide) (length t.rest)))
    where
      go : (m : Result Unit Refusal) → after_checks m kind gamma xs t ≡ after_checks m kind gamma ys t
      go (Err r) = refl
      go (Ok tt) =
          same_ended t (run (rule_of kind gamma) (room_of (length t.words) (length t.samples)) xs level_limit)
          ∙ ap (λ (f : ℕ → RunEnd). ended kind gamma ys t (f level_limit)) (same.runs (room_of (length t.words) (length t.samples)))

-- ---- stores of the same lengths

alike : {a b : BuildEnd} → a ≡ b → SameEnd a b
alike e = record {
  refusal = ap (λ (x : BuildEnd). x.refusal) e;
  value = ap (λ (x : BuildEnd). x.value) e;
  head = ap (λ (x : BuildEnd). x.after.head) e;
  stores = λ c. ap (λ (x : BuildEnd). x.after.stores) e;
}

module _ (kind : Kind) (gamma : Float) (ids : List ℕ) {s t : Stores} (r : SameRoom s t) where
  room_ended : (o : RunEnd) → ended kind gamma ids s o ≡ ended kind gamma ids t o
  room_ended (built n) = rw (r.words, r.samples, r.collide, r.rest)
  room_ended (no_room i) = rw (r.words, r.samples, r.collide, r.rest)
  room_ended (ids_left n) = rw (r.words, r.samples, r.collide, r.rest)

  build_by_room : SameEnd (build_by kind gamma ids s) (build_by kind gamma ids t)
  build_by_room = rw (build_is kind gamma ids s, build_is kind gamma ids t, r.collide, r.rest) (go (checks_of gamma ids t) (checks_apart gamma (length ids) (length t.collide) (length t.rest)))
    where
      go : (m : Result Unit Refusal) → Apart m → SameEnd (after_checks m kind gamma ids s) (after_checks m kind gamma ids t)
      go (Ok tt) apart =
          alike
          (room_ended (run (rule_of kind gamma) (room_in s) ids level_limit)
          ∙ ap₂ (λ (w v : ℕ). ended kind gamma ids t (run (rule_of kind gamma) (room_of w v) ids level_limit)) r.words r.samples)
      go (Err why) apart = record {
        refusal = refl;
        value = refl;
        head = refl;
        stores = λ c.
            let k = apart why refl in
            let z : ◌≡◌ {A = ℕ} 0 1 = cc in
            absurd (omega arith);
      }

-- with stores of the same lengths: the same index or the same refusal
pub build_same : (kind : Kind) (gamma : Float) {xs ys : List ℕ} → Same xs ys → {s t : Stores} → SameRoom s t → SameEnd (build_by kind gamma xs s) (build_by kind gamma ys t)
build_same kind gamma {xs} {ys} e {s} {t} r = rw (build_any_order kind gamma e s) (build_by_room kind gamma ys r)

-- the same, where the ids are rearranged as mathlib has it
pub build_permuted : (kind : Kind) (gamma : Float) {xs ys : List ℕ} → Permᴰ xs ys → {s t : Stores} → SameRoom s t
    → SameEnd (build_by kind gamma xs s) (build_by kind gamma ys t)
build_permuted kind gamma p r = build_same kind gamma (perm_same p) r

pub rows_permuted : (head : Head) (words samples rows marks : List ℕ) {xs ys : List ℕ} → Permᴰ xs ys
    → R.rows_call head words samples xs rows marks ≡ R.rows_call head words samples ys rows marks
rows_permuted head words samples rows marks p = rows_any_order head words samples rows marks (perm_same p)
