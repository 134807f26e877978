-- How a run ends: always in one of three ways, and no other outcome fits them. Assumes nothing.
use mathlib.Core.Path.{◌≡◌, refl, sym, ap, ◌∙◌}
use mathlib.Core.Bool.{Bool, true, false, cond, ◌&&◌}
use mathlib.Core.List.{List, []}
use Prim.Native.Nat.{ℕ, zero, suc, ◌+◌, ◌-◌, ◌≤◌, ◌<◌, zero-le}
use native.Mathlib.Omega.{arith}
use lib.Dec.{eqb, leb}
use lib.ListN.{length}
use borrow.Author.Tests.{eqb-true, eqb-false, ne_eqb, leb-true, le-leb, lt-leb}
use Rattle.laws.proofs.Cases.{Tri, lt, eq, gt, tri}
use Rattle.laws.proofs.Sums.{sum_mono}
use Rattle.laws.proofs.Counts.{empty}
use Rattle.rule.specs.Rule.{Rule, remaining, span, start, Room, RunEnd, built, no_room, ids_left, fits, run_from, run}
use Rattle.rule.specs.Demand.{Reaches, Enough, Ends, none_left, out_of_room, at_limit}
use Rattle.rule.proofs.Levels.{remaining_fewer}

module _ (rule : Rule) (room : Room) (ids : List ℕ) where
  abbrev words_to : ℕ → ℕ
  words_to = start room.words (span rule ids)

  abbrev samples_to : ℕ → ℕ
  samples_to = start room.samples (span rule ids)

  -- ---- room

  pub room_enough : (i : ℕ) → words_to i ≤ room.word_room → samples_to i ≤ room.sample_room → fits rule room ids i ≡ true
  room_enough i p q = rw (le-leb (words_to i) room.word_room p) (le-leb (samples_to i) room.sample_room q)

  pub words_short : (i : ℕ) → room.word_room < words_to i → fits rule room ids i ≡ false
  words_short i p = rw (lt-leb (words_to i) room.word_room p)

  pub samples_short : (i : ℕ) → room.sample_room < samples_to i → fits rule room ids i ≡ false
  samples_short i q = rw (lt-leb (samples_to i) room.sample_room q) (go (leb (words_to i) room.word_room))
    where
      go : (b : Bool) → b && false ≡ false
      go true = refl
      go false = refl

  pub room_words : (i : ℕ) → fits rule room ids i ≡ true → words_to i ≤ room.word_room
  room_words i = go (leb (words_to i) room.word_room) refl
    where
      go : (b : Bool) → leb (words_to i) room.word_room ≡ b → b && leb (samples_to i) room.sample_room ≡ true → words_to i ≤ room.word_room
      go true e f = leb-true (words_to i) room.word_room e
      go false e f = let z : ◌≡◌ {A = ℕ} 0 1 = cc in absurd (omega arith)

  pub room_samples : (i : ℕ) → fits rule room ids i ≡ true → samples_to i ≤ room.sample_room
  room_samples i = go (leb (words_to i) room.word_room)
    where
      go : (b : Bool) → b && leb (samples_to i) room.sample_room ≡ true → samples_to i ≤ room.sample_room
      go true f = leb-true (samples_to i) room.sample_room f
      go false f = let z : ◌≡◌ {A = ℕ} 0 1 = cc in absurd (omega arith)

  pub room_fewer : (i j : ℕ) → i ≤ j → fits rule room ids j ≡ true → fits rule room ids i ≡ true
  room_fewer i j h f =
      room_enough i
      (omega (arith, room_words j f, sum_mono (λ k. room.words (span rule ids k)) {m = i} {n = j} h))
      (omega (arith, room_samples j f, sum_mono (λ k. room.samples (span rule ids k)) {m = i} {n = j} h))

  -- ---- one turn

  module _ (n i : ℕ) where
    turn_full : fits rule room ids (suc i) ≡ false → run_from rule room ids (suc n) i ≡ no_room i
    unfolding run_from
    turn_full f = rw f

    turn_last : fits rule room ids (suc i) ≡ true → remaining rule ids (suc i) ≡ [] → run_from rule room ids (suc n) i ≡ built (suc i)
    unfolding run_from
    turn_last f e = rw (f, e)

    turn_next : fits rule room ids (suc i) ≡ true → 0 < length (remaining rule ids (suc i))
        → run_from rule room ids (suc n) i ≡ run_from rule room ids n (suc i)
    unfolding run_from
    turn_next f h = rw (f, ne_eqb (length (remaining rule ids (suc i))) 0 (omega arith))

  -- ---- a run comes to a level

  pub reaches_0 : Reaches rule room ids 0
  reaches_0 = record { room_for = room_enough 0 zero-le zero-le; more_after = λ j h. absurd (omega arith) }

  pub reaches_next : (i : ℕ) → Reaches rule room ids i → fits rule room ids (suc i) ≡ true → 0 < length (remaining rule ids (suc i))
      → Reaches rule room ids (suc i)
  reaches_next i r f h = record { room_for = f; more_after = λ j l. go j l (tri j i) }
    where
      go : (j : ℕ) → j < suc i → Tri j i → 0 < length (remaining rule ids (suc j))
      go j l (lt q) = r.more_after j q
      go j l (eq q) = rw q h
      go j l (gt q) = absurd (omega arith)

  reaches_before : (i : ℕ) → Reaches rule room ids (suc i) → Reaches rule room ids i
  reaches_before i r = record { room_for = room_fewer i (suc i) (omega arith) r.room_for; more_after = λ j h. r.more_after j (omega arith) }

  -- with room enough it comes to every level that ids come to
  pub reaches_all : (limit : ℕ) → Enough rule room ids limit → 0 < length (remaining rule ids limit) → (i : ℕ) → i ≤ limit → Reaches rule room ids i
  reaches_all limit enough h zero l = reaches_0
  reaches_all limit enough h (suc i) l =
      let r = reaches_all limit enough h i (omega arith) in
      reaches_next i r (enough i l r) (omega (arith, remaining_fewer rule ids (suc i) limit l))

  -- room for every level is enough
  pub all_enough : (limit : ℕ) → fits rule room ids limit ≡ true → Enough rule room ids limit
  all_enough limit f i h r = room_fewer (suc i) limit h f

  -- what a run comes to decides its outcome
  run_there : (i n limit : ℕ) → i + n ≡ limit → Reaches rule room ids i → run rule room ids limit ≡ run_from rule room ids n i
  run_there zero n limit e r = ap (λ (m : ℕ). run_from rule room ids m 0) (omega arith)
  run_there (suc i) n limit e r =
      run_there i (suc n) limit (omega arith) (reaches_before i r) ∙ turn_next n i r.room_for (r.more_after i (omega arith))

  -- ---- the end

  end_from : (n i limit : ℕ) → i + n ≡ limit → Reaches rule room ids i → Ends rule room ids limit (run_from rule room ids n i)
  unfolding run_from
  end_from zero i limit e r =
      let q : i ≡ limit = omega arith in
      at_limit (rw q at r) (rw q)
  end_from (suc n) i limit e r =
      go (fits rule room ids (suc i)) refl (eqb (length (remaining rule ids (suc i))) 0) refl (λ s. end_from n (suc i) limit (omega arith) s)
    where
      go : (f : Bool) → fits rule room ids (suc i) ≡ f → (d : Bool) → eqb (length (remaining rule ids (suc i))) 0 ≡ d
          → (Reaches rule room ids (suc i) → Ends rule room ids limit (run_from rule room ids n (suc i)))
          → Ends rule room ids limit (cond f (cond d (built (suc i)) (run_from rule room ids n (suc i))) (no_room i))
      go false p d q next = out_of_room i (omega arith) r p refl
      go true p true q next = none_left i (omega arith) r p (empty (remaining rule ids (suc i)) (eqb-true (length (remaining rule ids (suc i))) 0 q)) refl
      go true p false q next = next (reaches_next i r p (omega (arith, eqb-false (length (remaining rule ids (suc i))) 0 q)))

  pub run_ends : (limit : ℕ) → Ends rule room ids limit (run rule room ids limit)
  run_ends limit = end_from limit 0 limit (omega arith) reaches_0

  pub ends_only : (limit : ℕ) {end : RunEnd} → Ends rule room ids limit end → run rule room ids limit ≡ end
  unfolding run_from
  ends_only limit (none_left i h r f e q) = run_there i (suc (limit - suc i)) limit (omega arith) r ∙ turn_last (limit - suc i) i f e ∙ sym q
  ends_only limit (out_of_room i h r f q) = run_there i (suc (limit - suc i)) limit (omega arith) r ∙ turn_full (limit - suc i) i f ∙ sym q
  ends_only limit (at_limit r q) = run_there limit 0 limit (omega arith) r ∙ sym q

  -- what an outcome says of how far the run came, and of the ids that are left
  pub built_known : (limit n : ℕ) → run rule room ids limit ≡ built n
      → (i : ℕ) × (suc i ≡ n) × (i < limit) × Reaches rule room ids i × (fits rule room ids (suc i) ≡ true) × (remaining rule ids (suc i) ≡ [])
  built_known limit n e = go (run_ends limit)
    where
      go : Ends rule room ids limit (run rule room ids limit)
          → (i : ℕ) × (suc i ≡ n) × (i < limit) × Reaches rule room ids i × (fits rule room ids (suc i) ≡ true) × (remaining rule ids (suc i) ≡ [])
      go (none_left i h r f d q) = (i, cc, h, r, f, d)
      go (out_of_room i h r f q) = let z : ◌≡◌ {A = ℕ} 0 1 = cc in absurd (omega arith)
      go (at_limit r q) = let z : ◌≡◌ {A = ℕ} 0 1 = cc in absurd (omega arith)

  pub built_done : (limit n : ℕ) → run rule room ids limit ≡ built n → (n ≤ limit) × (remaining rule ids n ≡ [])
  built_done limit n e =
      let k = built_known limit n e in
      (omega (arith, k.1, k.2), rw k.1 at k.5)

  pub full_known : (limit i : ℕ) → run rule room ids limit ≡ no_room i
      → (i < limit) × Reaches rule room ids i × (fits rule room ids (suc i) ≡ false)
  full_known limit i e = go (run_ends limit)
    where
      go : Ends rule room ids limit (run rule room ids limit) → (i < limit) × Reaches rule room ids i × (fits rule room ids (suc i) ≡ false)
      go (none_left j h r f d q) = let z : ◌≡◌ {A = ℕ} 0 1 = cc in absurd (omega arith)
      go (out_of_room j h r f q) =
          let z : j ≡ i = cc in
          (omega arith, rw z at r, rw z at f)
      go (at_limit r q) = let z : ◌≡◌ {A = ℕ} 0 1 = cc in absurd (omega arith)

  pub remaining_known : (limit n : ℕ) → run rule room ids limit ≡ ids_left n → Reaches rule room ids limit × (length (remaining rule ids limit) ≡ n)
  remaining_known limit n e = go (run_ends limit)
    where
      go : Ends rule room ids limit (run rule room ids limit) → Reaches rule room ids limit × (length (remaining rule ids limit) ≡ n)
      go (none_left i h r f d q) = let z : ◌≡◌ {A = ℕ} 0 1 = cc in absurd (omega arith)
      go (out_of_room i h r f q) = let z : ◌≡◌ {A = ℕ} 0 1 = cc in absurd (omega arith)
      go (at_limit r q) = (r, cc)

  -- ---- a further limit

  -- changes nothing, unless ids were left
  pub further_same : (limit more : ℕ) → ((n : ℕ) → run rule room ids limit ≡ ids_left n → ⊥)
      → run rule room ids (limit + more) ≡ run rule room ids limit
  further_same limit more u = go (run_ends limit)
    where
      go : Ends rule room ids limit (run rule room ids limit) → run rule room ids (limit + more) ≡ run rule room ids limit
      go (none_left i h r f d q) = ends_only (limit + more) (none_left i (omega arith) r f d q)
      go (out_of_room i h r f q) = ends_only (limit + more) (out_of_room i (omega arith) r f q)
      go (at_limit r q) = absurd (u (length (remaining rule ids limit)) q)

  -- and then the run goes on from there
  pub further_on : (limit more n : ℕ) → run rule room ids limit ≡ ids_left n
      → run rule room ids (limit + more) ≡ run_from rule room ids more limit
  further_on limit more n e = run_there limit more (limit + more) refl (remaining_known limit n e).0

-- ---- a larger room

-- the same room with so many words and samples
abbrev pub room_with : Room → ℕ → ℕ → Room
room_with room w v = record { words = room.words; samples = room.samples; word_room = w; sample_room = v }

-- A run that does not end for want of room ends alike in any room with at least as many words and samples.
module _ (rule : Rule) (room : Room) (ids : List ℕ) (w v : ℕ) (more-words : room.word_room ≤ w) (more-samples : room.sample_room ≤ v) where
  fits_more : (i : ℕ) → fits rule room ids i ≡ true → fits rule (room_with room w v) ids i ≡ true
  fits_more i f =
      room_enough rule (room_with room w v) ids i (omega (arith, room_words rule room ids i f)) (omega (arith, room_samples rule room ids i f))

  reaches_more : (i : ℕ) → Reaches rule room ids i → Reaches rule (room_with room w v) ids i
  reaches_more i r = record { room_for = fits_more i r.room_for; more_after = r.more_after }

  pub larger_same : (limit : ℕ) → ((i : ℕ) → run rule room ids limit ≡ no_room i → ⊥) → run rule (room_with room w v) ids limit ≡ run rule room ids limit
  larger_same limit u = go (run_ends rule room ids limit)
    where
      go : Ends rule room ids limit (run rule room ids limit) → run rule (room_with room w v) ids limit ≡ run rule room ids limit
      go (none_left i h r f d q) = ends_only rule (room_with room w v) ids limit (none_left i h (reaches_more i r) (fits_more (suc i) f) d q)
      go (out_of_room i h r f q) = absurd (u i q)
      go (at_limit r q) = ends_only rule (room_with room w v) ids limit (at_limit (reaches_more limit r) q)
