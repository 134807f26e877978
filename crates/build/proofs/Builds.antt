-- The checks of a build, and what it leaves with and without a run. Assumes nothing.
use mathlib.Core.Path.{◌≡◌, refl, ap, subst, ◌∙◌}
use mathlib.Core.Bool.{true, false}
use mathlib.Core.List.{List, ◌++◌}
use Prim.Native.Nat.{ℕ, ◌≤◌}
use lib.Ieee.{Float}
use lib.ListN.{length, take, drop, replicate, length-append, length-drop, length-replicate}
use lib.Seq.{take_at}
use native.Mathlib.Omega.{arith}
use borrow.Author.Tests.{le-leb, leb-true, not-true}
use Rattle.std.specs.Prelude.{Result, Ok, Err}
use Rattle.bounds.specs.Bounds.{max_ids, level_limit, head_sizes}
use Rattle.laws.specs.Bits.{words_for}
use Rattle.laws.proofs.Cases.{both}
use Rattle.laws.proofs.Parts.{filled_whole}
use Rattle.refusal.specs.Answers.{refused}
use Rattle.refusal.specs.declared.Refusal.{Refusal}
use Rattle.laws.specs.Stores.{fronted, zeros}
use Rattle.rule.specs.Rule.{RunEnd, built, no_room, ids_left, run}
use Rattle.sizes.specs.Gamma.{above_min, above_max, Allowed}
use Rattle.sizes.specs.Sizes.{size_for}
use Rattle.run.specs.Stores.{Stores, stores}
use Rattle.build.specs.Build.{build_after, build_checks, ended, build_call}
use Rattle.refusal.proofs.Passed.{ok_passed}
use Rattle.mixer.specs.Kinds.{kind_of}
use Rattle.mixer.specs.declared.Kind.{Kind}
use Rattle.mixer.proofs.KindNumbers.{known_number}
use Rattle.head.specs.Index.{no_head, rule_of, room_of}
use Rattle.run.specs.Run.{answer_of, Begun, Ran}
use Rattle.build.specs.Ending.{prepared, after_run}

-- ---- checks that are passed

pub checked : (gamma : Float) (n collide rest : ℕ) → above_min gamma ≡ true → above_max gamma ≡ false → n ≤ max_ids → n ≤ rest → words_for (size_for gamma n) ≤ collide
    → Ok tt ≡ build_checks gamma n collide rest
unfolding build_checks
checked gamma n collide rest a b few in_rest h =
    rw (a, b, le-leb n max_ids few, le-leb n rest in_rest, le-leb (words_for (size_for gamma n)) collide h)

-- ---- the stores that a run begins with

pub prepared_is : (ids : List ℕ) (s : Stores) {ws ss cs rs : List ℕ}
    → ws ≡ replicate (length s.words) 0 ++ drop (length s.words) s.words
    → ss ≡ replicate (length s.samples) 0 ++ drop (length s.samples) s.samples
    → cs ≡ replicate (length s.collide) 0 ++ drop (length s.collide) s.collide → rs ≡ fronted ids s.rest → stores ws ss cs rs ≡ prepared ids s
prepared_is ids s p q u v = rw (p ∙ filled_whole s.words 0, q ∙ filled_whole s.samples 0, u ∙ filled_whole s.collide 0, v)

-- ---- a build that passes the checks

pub record Passed (gamma : Float) (n collide rest : ℕ) : Type 0 where
  pub allowed : Allowed gamma
  pub few_ids : n ≤ max_ids
  pub in_rest : n ≤ rest
  pub in_collide : words_for (size_for gamma n) ≤ collide

pub passed : (gamma : Float) (n collide rest : ℕ) → build_checks gamma n collide rest ≡ Ok tt → Passed gamma n collide rest
unfolding build_checks
passed gamma n collide rest e =
    let a = ok_passed _ _ _ e in
    let b = ok_passed _ _ _ a.1 in
    let c = ok_passed _ _ _ b.1 in
    let d = both _ _ (ok_passed _ _ _ c.1).0 in
    record {
      allowed = record { above = a.0; within = not-true _ b.0 };
      few_ids = leb-true _ _ c.0;
      in_rest = leb-true _ _ d.0;
      in_collide = leb-true _ _ d.1;
    }

module _ (gamma : Float) (ids : List ℕ) (s : Stores) where
  pub build_unknown : (number : ℕ) {why : Refusal} → kind_of number ≡ Err why → refused (build_after no_head s) why ≡ build_call number gamma ids s
  unfolding build_call
  build_unknown number e = rw e

  pub build_refused : (number : ℕ) {kind : Kind} {why : Refusal} → kind_of number ≡ Ok kind
      → Err why ≡ build_checks gamma (length ids) (length s.collide) (length s.rest) → refused (build_after no_head s) why ≡ build_call number gamma ids s
  unfolding build_call
  build_refused number known e = rw (known, ← e)

  module _ (p : Passed gamma (length ids) (length s.collide) (length s.rest)) where
    front_long : length (fronted ids s.rest) ≡ length s.rest
    front_long = simp (length-append, length-drop) (omega (arith, p.in_rest))

    front_ids : take (length ids) (fronted ids s.rest) ≡ ids
    front_ids = take_at ids (drop (length ids) s.rest) (length ids) refl

    pub begun : Begun gamma (length ids) (zeros head_sizes) (prepared ids s)
    begun = record {
      allowed = p.allowed;
      few_ids = p.few_ids;
      in_rest = rw front_long p.in_rest;
      in_collide = rw length-replicate p.in_collide;
      no_sizes = refl;
      clear_words = rw length-replicate;
      clear_samples = rw length-replicate;
      clear_collide = rw length-replicate;
    }

    -- by the number of a kind
    module _ (number : ℕ) {kind : Kind} (known : kind_of number ≡ Ok kind) where
      -- what is made of the run's end is what a build leaves
      pub build_ends : build_checks gamma (length ids) (length s.collide) (length s.rest) ≡ Ok tt
          → {s₁ : Stores} → s₁ ≡ prepared ids s → (end : Result ℕ Refusal) {sizes : List ℕ} {t : Stores} → Ran (rule_of kind gamma) (take (length ids) s₁.rest) s₁ end sizes t
          → length t.words ≡ length s.words → length t.samples ≡ length s.samples → length t.rest ≡ length s.rest
          → after_run end number (length ids) sizes t ≡ build_call number gamma ids s
      unfolding build_call
      build_ends done {s₁} same end {sizes} {t} ran₁ lw ls lr =
          rw (known, done) (go _ refl)
        where
          r : Ran (rule_of kind gamma) (take (length ids) (fronted ids s.rest)) (prepared ids s) end sizes t
          r = subst (λ (s₁ : Stores). Ran (rule_of kind gamma) (take (length ids) s₁.rest) s₁ end sizes t) same ran₁

          long : (n : ℕ) → length (zeros n) ≡ n
          long n = length-replicate n 0

          ran : end ≡ answer_of (run (rule_of kind gamma) (room_of (length s.words) (length s.samples)) ids level_limit)
          ran = rw (long (length s.words), long (length s.samples), front_ids) at r.outcome

          clear : t.collide ≡ zeros (length s.collide)
          clear = rw (long (length s.collide)) at r.collide_is

          go : (e : RunEnd) → run (rule_of kind gamma) (room_of (length s.words) (length s.samples)) ids level_limit ≡ e
              → after_run end number (length ids) sizes t ≡ ended kind gamma ids s e
          go (built n) q =
              let b : end ≡ Ok n = ran ∙ ap answer_of q in
              rw (
                b,
                known_number number _ known,
                rw front_ids at (r.sizes_are n b),
                rw (long (length s.words), front_ids) at (r.words_are n b),
                rw (long (length s.samples), front_ids) at (r.samples_are n b),
                clear,
                lr,
              )
          go (no_room i) q = rw (ran ∙ ap answer_of q, lw, ls, lr, clear)
          go (ids_left n) q = rw (ran ∙ ap answer_of q, lw, ls, lr, clear)
