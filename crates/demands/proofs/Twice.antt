-- An id given twice, at gamma 2.0: it stays in every level, of 255 bits each, so the stores or the levels run out. Assumes nothing.
use mathlib.Core.Path.{◌≡◌, refl, sym, ap, ap₂, ◌∙◌}
use mathlib.Core.Bool.{false}
use mathlib.Core.List.{List, [], ◌∷◌}
use Prim.Native.Nat.{ℕ, zero, suc, ◌+◌, ◌*◌, ◌≤◌, ◌<◌}
use native.Mathlib.Nat.{zero-mul, suc-mul}
use native.Mathlib.Omega.{arith}
use lib.Dec.{lit<, lit≤}
use lib.Ieee.{of_bits, lt}
use lib.ListN.{length}
use borrow.Author.Tests.{eq-eqb}
use Rattle.bounds.specs.Bounds.{level_limit}
use Rattle.std.specs.Prelude.{Ok}
use Rattle.refusal.specs.declared.Refusal.TheVariants.{NoRoomForLevel, IdsRemain}
use Rattle.rule.specs.Rule.{Rule, remaining, span, start, Room, fits, ids_left}
use Rattle.rule.specs.Demand.{Reaches, out_of_room, at_limit}
use Rattle.rule.proofs.Run.{room_enough, words_short, ends_only}
use Rattle.sizes.specs.Sizes.{size_for, whole_of, rounded}
use Rattle.run.specs.Stores.{Stores}
use Rattle.build.specs.Build.{build_checks, refused_run}
use Rattle.head.specs.Index.{rule_of, room_of}
use Rattle.build.proofs.Builds.{checked}
use Rattle.demands.specs.Demands.{build_by}
use Rattle.demands.proofs.Outcomes.{build_is}
use Rattle.mixer.specs.declared.Kind.{Kind}
use Rattle.demands.specs.Inputs.{two}

-- ---- by any rule

module _ (rule : Rule) (x : ℕ) where
  -- both stay
  stays : (i : ℕ) → remaining rule (x ∷ x ∷ []) i ≡ x ∷ x ∷ []
  unfolding remaining
  stays zero = refl
  stays (suc i) =
      let p = rule.pos i (rule.size 2) x in
      rw (stays i, eq-eqb p p refl)

  -- so every level has the size of two ids
  taken : (need : ℕ → ℕ) (i : ℕ) → start need (span rule (x ∷ x ∷ [])) i ≡ i * need (rule.size 2)
  taken need zero = sym (zero-mul _)
  taken need (suc i) =
      ap₂ ◌+◌ (taken need i) (ap (λ (xs : List ℕ). need (rule.size (length xs))) (stays i)) ∙ sym (suc-mul i (need (rule.size 2)))

-- ---- at gamma 2.0, by any kind

module _ (kind : Kind) (x : ℕ) (s : Stores) where
  abbrev ids : List ℕ
  ids = x ∷ x ∷ []

  abbrev rule : Rule
  rule = rule_of kind two

  abbrev room : Room
  room = room_of (length s.words) (length s.samples)

  -- a level takes four words and one sample
  words_taken : (i : ℕ) → start room.words (span rule ids) i ≡ i * 4
  unfolding of_bits size_for whole_of rounded
  words_taken i = taken rule x room.words i

  samples_taken : (i : ℕ) → start room.samples (span rule ids) i ≡ i * 1
  unfolding of_bits size_for whole_of rounded
  samples_taken i = taken rule x room.samples i

  -- the run comes as far as there is room
  reached : (i : ℕ) → i * 4 ≤ length s.words → i ≤ length s.samples → Reaches rule room ids i
  reached i h k = record {
    room_for = room_enough rule room ids i (omega (arith, words_taken i)) (omega (arith, samples_taken i));
    more_after = λ j l. rw (stays rule x (suc j)) (lit< tt);
  }

  full : (i : ℕ) → length s.words < i * 4 → fits rule room ids i ≡ false
  full i h = words_short rule room ids i (omega (arith, words_taken i))

  module _ (in_collide : 4 ≤ length s.collide) (in_rest : 2 ≤ length s.rest) where
    passes : Ok tt ≡ build_checks two 2 (length s.collide) (length s.rest)
    unfolding lt of_bits size_for whole_of rounded
    passes = checked two 2 (length s.collide) (length s.rest) refl refl (lit≤ tt) in_rest in_collide

    -- with 400 words and 100 samples two ids remain after level 99: refusal 6 with 2
    pub twice_left : length s.words ≡ 400 → length s.samples ≡ 100 → build_by kind two (x ∷ x ∷ []) s ≡ refused_run (IdsRemain 2) s
    twice_left h k =
        let two-left = ap ids_left (sym (ap length (stays rule x level_limit))) in
        rw (build_is kind two ids s, ← passes, ends_only rule room ids level_limit (at_limit (reached level_limit (omega arith) (omega arith)) two-left))

    -- with 399 words there is no room for level 99: refusal 5 with 99
    pub twice_full : length s.words ≡ 399 → length s.samples ≡ 100 → build_by kind two (x ∷ x ∷ []) s ≡ refused_run (NoRoomForLevel 99) s
    twice_full h k =
        rw (build_is kind two ids s, ← passes, ends_only rule room ids level_limit (out_of_room 99 (lit< tt) (reached 99 (omega arith) (omega arith)) (full 100 (omega arith)) refl))
