-- A run of levels in stores is the run of the level rule: what the stores hold before each level, and how the run ends. Assumes nothing.
use mathlib.Core.Path.{◌≡◌, refl, sym, ap, ap₂, ◌∙◌}
use mathlib.Core.Bool.{true}
use mathlib.Core.List.{List, []}
use Prim.Native.Nat.{ℕ, suc, ◌+◌, ◌≤◌, ◌<◌}
use native.Mathlib.Nat.{sub-zero}
use native.Mathlib.Omega.{arith}
use lib.Ieee.{Float}
use lib.ListN.{length, take, drop, set, length-append, length-take, length-drop, length-replicate}
use lib.Seq.{take_at, length-take-le}
use Rattle.bounds.specs.Bounds.{max_ids, level_limit, head_sizes}
use Rattle.std.specs.Prelude.{Ok, Err, Some, None}
use Rattle.refusal.specs.declared.Refusal.TheVariants.{NoRoomForLevel, IdsRemain}
use Rattle.laws.specs.Bits.{words_for}
use Rattle.laws.proofs.Packing.{packed-has}
use Rattle.laws.proofs.Counts.{empty}
use Rattle.laws.specs.Stores.{fronted, zeros, filled, pasted}
use Rattle.ranks.specs.Ranks.{set_bits, samples_of}
use Rattle.ranks.proofs.ByRule.{next_base}
use Rattle.rule.specs.Rule.{Rule, Room, rest, remaining, span, bit, base, fits}
use Rattle.rule.specs.Demand.{Reaches, none_left, out_of_room, at_limit}
use Rattle.rule.proofs.Level.{unset_past, rest-length}
use Rattle.rule.proofs.Levels.{remaining_fewer, all_accounted, spot-lt}
use Rattle.rule.proofs.Run.{room_words, room_samples, reaches_next, ends_only}
use Rattle.sizes.specs.Gamma.{Allowed}
use Rattle.sizes.specs.Sizes.{size_for}
use Rattle.sizes.proofs.Sizes.{size_mono}
use Rattle.head.specs.Layout.{samples_of_size}
use Rattle.run.specs.Stores.{Stores}
use Rattle.mixer.specs.declared.Kind.{Kind}
use Rattle.head.specs.Index.{rule_of, room_of, words_at, samples_at, index_words, index_samples, index_sizes}
use Rattle.run.specs.Turn.{next_size, TurnRoom, has_room, comers, spot, own_words, turned, next_progress, next_stores, level_turn}
use Rattle.run.specs.Run.{answer_of, Begun, Ran}
use Rattle.run.specs.declared.Progress.{Progress}
use Rattle.run.specs.declared.Placed.{Placed}
use Rattle.run.proofs.Turns.{turn_placed, turn_full}
use Rattle.head.proofs.Indexes.{rule_sound, length-filled, filled_past, filled-pasted, filled-set, length_words_at, length_samples_at, length_words, length_samples_to, length_sizes, words_next, samples_next, sizes_next}

module _ (kind : Kind) (gamma : Float) (ids : List ℕ) (s₀ : Stores) where
  abbrev rule : Rule
  rule = rule_of kind gamma

  abbrev room : Room
  room = room_of (length s₀.words) (length s₀.samples)

  -- what the build knows and the stores hold before level i
  pub record State (i : ℕ) (at : Progress) (sizes : List ℕ) (s : Stores) : Type 0 where
    pub level_is : at.level ≡ i
    pub remaining_is : at.remaining ≡ length (remaining rule ids i)
    pub words_at_lem : at.words ≡ length (index_words rule ids i)
    pub samples_at_lem : at.samples ≡ length (index_samples rule ids i)
    pub set_is : at.set ≡ base (span rule ids) (bit rule ids) i
    pub come : take at.remaining s.rest ≡ remaining rule ids i
    pub sizes_are : sizes ≡ filled (index_sizes rule ids i) head_sizes
    pub words_are : s.words ≡ filled (index_words rule ids i) (length s₀.words)
    pub samples_are : s.samples ≡ filled (index_samples rule ids i) (length s₀.samples)
    pub collide_is : s.collide ≡ zeros (length s₀.collide)
    pub rest-length : length s.rest ≡ length s₀.rest

  -- ---- before a level

  module _ (i : ℕ) (at : Progress) (sizes : List ℕ) (s : Stores) (t : State i at sizes s) (r : Reaches rule room ids i) where
    words_fit : length (index_words rule ids i) ≤ length s₀.words
    words_fit = rw (length_words rule ids i) (room_words rule room ids i r.room_for)

    samples_fit : length (index_samples rule ids i) ≤ length s₀.samples
    samples_fit = rw (length_samples_to rule ids i) (room_samples rule room ids i r.room_for)

    words_long : length s.words ≡ length s₀.words
    words_long = ap length t.words_are ∙ length-filled (index_words rule ids i) (length s₀.words) words_fit

    samples_long : length s.samples ≡ length s₀.samples
    samples_long = ap length t.samples_are ∙ length-filled (index_samples rule ids i) (length s₀.samples) samples_fit

    collide_long : length s.collide ≡ length s₀.collide
    collide_long = ap length t.collide_is ∙ length-replicate (length s₀.collide) 0

    size_is : next_size rule at ≡ span rule ids i
    size_is = ap (size_for gamma) t.remaining_is

    ready : Allowed gamma → length ids ≤ max_ids → words_for (size_for gamma (length ids)) ≤ length s₀.collide → i < level_limit → TurnRoom gamma at s
    unfolding remaining
    ready allowed few wide h =
        let fewer : length (remaining rule ids i) ≤ length ids = remaining_fewer rule ids 0 i (omega arith) in
        let sum : base (span rule ids) (bit rule ids) i + length (remaining rule ids i) ≡ length ids = all_accounted rule ids (rule_sound kind gamma) i in
        record {
          allowed = allowed;
          few_ids = omega (arith, t.remaining_is);
          few_levels = omega (arith, t.level_is);
          few_set = omega (arith, t.set_is);
          in_rest = omega (arith, t.remaining_is, ap length t.come, length-take at.remaining s.rest);
          in_words = omega (arith, t.words_at_lem, words_fit, words_long);
          in_samples = omega (arith, t.samples_at_lem, samples_fit, samples_long);
          in_collide = rw (collide_long, size_is) (omega (arith, size_mono gamma (length (remaining rule ids i)) (length ids) fewer));
          clear_words = rw (words_long, t.words_at_lem, t.words_are) (filled_past (index_words rule ids i) (length s₀.words));
          clear_collide = rw collide_long t.collide_is;
        }

    -- ---- the level is the rule's

    same_room : has_room rule at s ≡ fits rule room ids (suc i)
    same_room = rw (words_long, samples_long, t.words_at_lem, t.samples_at_lem, t.remaining_is, length_words rule ids i, length_samples_to rule ids i)

    own_words_lem : own_words rule at s ≡ words_at rule ids i
    own_words_lem = rw (t.come, t.remaining_is, t.level_is)

    next_left : rest (spot rule at s) (comers rule at s) ≡ remaining rule ids (suc i)
    unfolding remaining
    next_left = rw (t.come, t.remaining_is, t.level_is)

    set_next : base (span rule ids) (bit rule ids) i + set_bits (words_at rule ids i) ≡ base (span rule ids) (bit rule ids) (suc i)
    set_next =
        let n : ℕ = words_for (span rule ids i) in
        let l : length (words_at rule ids i) ≡ n = length_words_at rule ids i in
        next_base (span rule ids) (bit rule ids) i (words_at rule ids i) (omega arith)
        (λ q h. sym (packed-has n (bit rule ids i) q (omega arith)))
        (λ q h k. packed-has n (bit rule ids i) q (omega arith) ∙ unset_past (rule.pos i (span rule ids i)) (remaining rule ids i) (span rule ids i) (spot-lt rule ids (rule_sound kind gamma) i) q h)

    -- ---- after it

    sizes_after : i < level_limit → set sizes i (next_size rule at) ≡ filled (index_sizes rule ids (suc i)) head_sizes
    sizes_after h =
        let xs : List ℕ = index_sizes rule ids i in
        let l : length xs ≡ i = length_sizes rule ids i in
        ap₂ (λ (us : List ℕ) (v : ℕ). set us i v) t.sizes_are size_is
        ∙ ap (λ (k : ℕ). set (filled xs head_sizes) k (span rule ids i)) (sym l)
        ∙ filled-set xs head_sizes (span rule ids i) (omega arith)
        ∙ ap (λ (us : List ℕ). filled us head_sizes) (sym (sizes_next rule ids i))

    module _ (f : fits rule room ids (suc i) ≡ true) where
      words_after : pasted at.words (own_words rule at s) s.words ≡ filled (index_words rule ids (suc i)) (length s₀.words)
      words_after =
          let fit : length (index_words rule ids i) + length (words_at rule ids i) ≤ length s₀.words
          = omega (arith, length_words rule ids i, length_words_at rule ids i, room_words rule room ids (suc i) f) in
          rw (t.words_at_lem, own_words_lem, t.words_are)
          (filled-pasted (index_words rule ids i) (length s₀.words) (words_at rule ids i) fit
          ∙ ap (λ (us : List ℕ). filled us (length s₀.words)) (sym (words_next rule ids i)))

      samples_after : pasted at.samples (samples_of at.set (own_words rule at s)) s.samples ≡ filled (index_samples rule ids (suc i)) (length s₀.samples)
      samples_after =
          let fit : length (index_samples rule ids i) + length (samples_at rule ids i) ≤ length s₀.samples
          = omega (arith, length_samples_to rule ids i, length_samples_at rule ids i, room_samples rule room ids (suc i) f) in
          rw (t.samples_at_lem, t.set_is, own_words_lem, t.samples_are)
          (filled-pasted (index_samples rule ids i) (length s₀.samples) (samples_at rule ids i) fit
          ∙ ap (λ (us : List ℕ). filled us (length s₀.samples)) (sym (samples_next rule ids i)))

    rest_after : length (fronted (rest (spot rule at s) (comers rule at s)) s.rest) ≡ length s₀.rest
    rest_after =
        simp (length-append, length-drop)
        (omega (arith, rest-length (spot rule at s) (comers rule at s), length-take at.remaining s.rest, t.rest-length))

    pub state_next : fits rule room ids (suc i) ≡ true → i < level_limit
        → State (suc i) (next_progress rule at s) (set sizes i (next_size rule at)) (next_stores rule at s)
    state_next f h = record {
      level_is = omega (arith, t.level_is);
      remaining_is = ap length next_left;
      words_at_lem = omega (arith, t.words_at_lem, length_words rule ids i, length_words rule ids (suc i), ap words_for size_is);
      samples_at_lem = omega (arith, t.samples_at_lem, length_samples_to rule ids i, length_samples_to rule ids (suc i), ap samples_of_size size_is);
      set_is = ap₂ (λ (n : ℕ) (ws : List ℕ). n + set_bits ws) t.set_is own_words_lem ∙ set_next;
      come = take_at (rest (spot rule at s) (comers rule at s)) (drop (length (rest (spot rule at s) (comers rule at s))) s.rest) (length (rest (spot rule at s) (comers rule at s))) refl ∙ next_left;
      sizes_are = sizes_after h;
      words_are = words_after f;
      samples_are = samples_after f;
      collide_is = t.collide_is;
      rest-length = rest_after;
    }

    -- ---- how a turn ends the run, or goes on

    module _ (h : i < level_limit) {after : Stores} where
      pub ran_full : {sizes' : List ℕ} → turned None after ≡ level_turn rule at s → Ran rule ids s₀ (Err (NoRoomForLevel at.level)) sizes' after
      ran_full e =
          let u = turn_full rule at s e in
          rw t.level_is (record {
            outcome = sym (ap answer_of (ends_only rule room ids level_limit (out_of_room i h r (sym same_room ∙ u.0) refl)));
            collide_is = ap (λ (x : Stores). x.collide) u.1 ∙ t.collide_is;
            sizes_are = λ n q. cc;
            words_are = λ n q. cc;
            samples_are = λ n q. cc;
          })

      module _ {placed : Placed} (e : turned (Some placed) after ≡ level_turn rule at s) where
        placed_room : fits rule room ids (suc i) ≡ true
        placed_room = sym same_room ∙ (turn_placed rule at s e).has_room_lem

        placed_state : State (suc i) placed.next (set sizes i placed.size) after
        placed_state =
            let u = turn_placed rule at s e in
            rw (u.placed_is, u.stores_are) (state_next placed_room h)

        pub goes_on : (placed.next.remaining ≡ 0 → ⊥) → State (suc i) placed.next (set sizes i placed.size) after × Reaches rule room ids (suc i)
        goes_on n = (placed_state, reaches_next rule room ids i r placed_room (omega (arith, placed_state.remaining_is)))

        pub ran_built : placed.next.remaining ≡ 0 → Ran rule ids s₀ (Ok placed.next.level) (set sizes i placed.size) after
        ran_built z =
            let p = placed_state in
            let none : remaining rule ids (suc i) ≡ [] = empty (remaining rule ids (suc i)) (omega (arith, p.remaining_is)) in
            rw p.level_is (record {
              outcome = sym (ap answer_of (ends_only rule room ids level_limit (none_left i h r placed_room none refl)));
              collide_is = p.collide_is;
              sizes_are = λ n q. let m : suc i ≡ n = cc in rw (← m) p.sizes_are;
              words_are = λ n q. let m : suc i ≡ n = cc in rw (← m) p.words_are;
              samples_are = λ n q. let m : suc i ≡ n = cc in rw (← m) p.samples_are;
            })

  -- ---- the limit

  pub ran_left : (at : Progress) (sizes : List ℕ) (s : Stores) → State level_limit at sizes s → Reaches rule room ids level_limit
      → Ran rule ids s₀ (Err (IdsRemain at.remaining)) sizes s
  ran_left at sizes s t r =
      rw t.remaining_is (record {
        outcome = sym (ap answer_of (ends_only rule room ids level_limit (at_limit r refl)));
        collide_is = t.collide_is;
        sizes_are = λ n q. cc;
        words_are = λ n q. cc;
        samples_are = λ n q. cc;
      })

-- ---- the beginning

pub begins : (kind : Kind) (gamma : Float) (count : ℕ) (sizes : List ℕ) (s : Stores) → Begun gamma count sizes s
    → State kind gamma (take count s.rest) s 0 (record { level = 0; remaining = count; words = 0; samples = 0; set = 0 }) sizes s
unfolding remaining index_words index_samples index_sizes
begins kind gamma count sizes s b = record {
  level_is = refl;
  remaining_is = sym (length-take-le count s.rest b.in_rest);
  words_at_lem = refl;
  samples_at_lem = refl;
  set_is = refl;
  come = refl;
  sizes_are = b.no_sizes;
  words_are = b.clear_words ∙ ap zeros (sym (sub-zero (length s.words)));
  samples_are = b.clear_samples ∙ ap zeros (sym (sub-zero (length s.samples)));
  collide_is = b.clear_collide;
  rest-length = refl;
}

pub ready_next : (kind : Kind) (gamma : Float) (count : ℕ) (sizes₀ : List ℕ) (s₀ : Stores) → Begun gamma count sizes₀ s₀ → (i : ℕ) (at : Progress) (sizes : List ℕ) (s : Stores)
    → State kind gamma (take count s₀.rest) s₀ i at sizes s
    → Reaches (rule_of kind gamma) (room_of (length s₀.words) (length s₀.samples)) (take count s₀.rest) i → i < level_limit → TurnRoom gamma at s
ready_next kind gamma count sizes₀ s₀ b i at sizes s t r h =
    let l : length (take count s₀.rest) ≡ count = length-take-le count s₀.rest b.in_rest in
    ready kind gamma (take count s₀.rest) s₀ i at sizes s t r b.allowed (rw l b.few_ids) (rw l b.in_collide) h
