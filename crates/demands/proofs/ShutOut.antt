-- Programs that are shut out: what they leave behind does not meet the promise; builds at small inputs, and lookups in the index of any build.
-- Assumes nothing.
use mathlib.Core.Path.{◌≡◌, sym, ap, ◌∙◌}
use mathlib.Core.Bool.{true}
use mathlib.Core.List.{List, [], ◌∷◌}
use Prim.Native.Nat.{ℕ, ◌^◌, ◌≤◌, ◌<◌}
use native.Mathlib.Omega.{arith}
use lib.Dec.{lit<}
use lib.Ieee.{Float}
use lib.ListN.{length, get_or}
use Rattle.std.specs.Prelude.{Option, Some, Result, Ok, Err}
use Rattle.refusal.specs.declared.Refusal.{Refusal}
use Rattle.refusal.specs.declared.Refusal.TheVariants.{NoRoomForLevel, IdsRemain}
use Rattle.laws.specs.Counting.{one, count}
use Rattle.laws.specs.Bits.{bit_at, has}
use Rattle.mixer.specs.Mixer.{mixed}
use Rattle.mixer.specs.Kinds.{kind_number}
use Rattle.mixer.specs.declared.Kind.{Kind}
use Rattle.mixer.specs.declared.Kind.TheVariants.{Plain}
use Rattle.mixer.specs.Position.{position}
use Rattle.run.specs.Stores.{Stores}
use Rattle.build.specs.Build.{BuildEnd, built_of, cleared, build_call}
use Rattle.head.specs.Index.{no_head}
use Rattle.finding.specs.Find.{found, answer_of}
use Rattle.lookup.specs.Lookup.{lookup_call}
use Rattle.head.specs.declared.Head.{Head}
use Rattle.finding.specs.declared.Place.{Place}
use Rattle.demands.specs.Demands.{build_by}
use Rattle.demands.specs.Inputs.{two, three, lent_three, three_built, three_left, refused_with}
use Rattle.rule.specs.Rule as R
use Rattle.demands.proofs.Demand3.{returned}
use Rattle.demands.proofs.OneAnswer.{build_once, lookup_once}
use Rattle.demands.proofs.Worked.{three_built_lem}
use Rattle.demands.proofs.Twice.{twice_left, twice_full}

-- ---- builds, at three ids of which two share their position in level 0

module _ (a : Result Head Refusal) (t : Stores) (meets : built_of a t ≡ build_call 0 two three lent_three) where
  -- the whole outcome is decided
  pub three_only : (a ≡ three_built) × (t ≡ three_left)
  three_only = build_once 0 two three lent_three a three_built t three_left meets three_built_lem

  -- a build that only refuses
  pub not_refused : (r : Refusal) → a ≡ Err r → ⊥
  not_refused r e =
      let d = three_only.0 in
      let z : ◌≡◌ {A = ℕ} 0 1 = cc in
      omega arith

  -- one that returns an empty head
  pub not_empty : (built_of a t).after.head ≡ no_head → ⊥
  not_empty e =
      let z : ◌≡◌ {A = ℕ} 0 3 = ap (λ (h : Head). h.count) (sym e) ∙ ap (λ (x : BuildEnd). x.after.head.count) (meets ∙ sym three_built_lem) in
      omega arith

  -- one that writes nothing
  pub not_idle : t ≡ lent_three → ⊥
  not_idle e =
      let z : ◌≡◌ {A = ℕ} 0 (2 ^ 5) = ap (λ (s : Stores). get_or s.words 3 0) (sym e ∙ three_only.1) in
      omega arith

  -- one that places every id in level 0, whatever it makes up for later levels
  pub not_all_in_0 : ((x : ℕ) → 0 < count x three → has t.words (position Plain 0 255 x) ≡ true) → ⊥
  unfolding has bit_at position mixed
  not_all_in_0 all =
      let z : ◌≡◌ {A = ℕ} 0 1 = ap one (rw three_only.1 at (all 1 (lit< tt))) in
      omega arith

-- ---- builds, at any id given twice

module _ (kind : Kind) (x : ℕ) (s : Stores) (in_collide : 4 ≤ length s.collide) (in_rest : 2 ≤ length s.rest) (in_samples : length s.samples ≡ 100) where
  module _ (a : Result Head Refusal) (t : Stores) (meets : built_of a t ≡ build_by kind two (x ∷ x ∷ []) s) where
    -- the whole outcome is decided, in 399 words and in 400
    pub full_only : length s.words ≡ 399 → (a ≡ refused_with (NoRoomForLevel 99)) × (t ≡ cleared s)
    full_only h = build_once (kind_number kind) two (x ∷ x ∷ []) s a (refused_with (NoRoomForLevel 99)) t (cleared s) meets (sym (twice_full kind x s in_collide in_rest h in_samples))

    pub left_only : length s.words ≡ 400 → (a ≡ refused_with (IdsRemain 2)) × (t ≡ cleared s)
    left_only h = build_once (kind_number kind) two (x ∷ x ∷ []) s a (refused_with (IdsRemain 2)) t (cleared s) meets (sym (twice_left kind x s in_collide in_rest h in_samples))

    -- a build that makes up the level in refusal 5
    pub not_other_level : length s.words ≡ 399 → (i : ℕ) → a ≡ Err (NoRoomForLevel i) → i ≡ 99
    not_other_level h i e =
        let d = (full_only h).0 in
        cc

    -- one that makes up how many ids remain in refusal 6
    pub not_other_count : length s.words ≡ 400 → (n : ℕ) → a ≡ Err (IdsRemain n) → n ≡ 2
    not_other_count h n e =
        let d = (left_only h).0 in
        cc

-- ---- lookups, in the index of any accepted build

module _ (kind : Kind) (gamma : Float) (ids : List ℕ) (s : Stores) (head : Head) (t : Stores) (built : built_of (Ok head) t ≡ build_by kind gamma ids s) where
  module _ (f : ℕ → Result (Option Place) Refusal) (meets : (x : ℕ) → answer_of (f x) ≡ lookup_call head t.words t.samples x) where
    module _ (x y : ℕ) (x-id : 0 < count x ids) (y-id : 0 < count y ids) (differ : x ≡ y → ⊥) where
      -- one that says one row or none, whatever row it is: two different ids have different rows
      pub not_one_row : (k : ℕ) → ((z : ℕ) (p : Place) → f z ≡ Ok (Some p) → p.row ≡ k) → ⊥
      not_one_row k says =
          let l = (returned kind gamma ids s head t built).lookups in
          let u = l.id_row x x-id in
          let v = l.id_row y y-id in
          differ (l.one_id x y u.0 v.0 x-id y-id u.1 v.1 (told x u.0 u.1 ∙ sym (told y v.0 v.1)))
        where
          told : (z : ℕ) (u : R.RowPlace) → lookup_call head t.words t.samples z ≡ found u → u.row ≡ k
          told z u e =
              let p : Place = record { row = u.row; level = u.level; position = u.position } in
              says z p (lookup_once head t.words t.samples z (f z) (Ok (Some p)) (meets z) (sym e))

      -- one that always says row 0 or none
      pub not_all_first : ((z : ℕ) (p : Place) → f z ≡ Ok (Some p) → p.row ≡ 0) → ⊥
      not_all_first = not_one_row 0
