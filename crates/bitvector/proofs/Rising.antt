-- The members in rising order: the set digits of a word lowest first, and word by word. Assumes nothing.
use mathlib.Core.Path.{◌≡◌, refl, sym, ap, ap₂, ◌∙◌}
use mathlib.Core.Logic.{◌≢◌}
use mathlib.Core.Bool.{Bool, true, false, cond}
use mathlib.Core.List.{List, [], ◌∷◌, ◌++◌, append-nil}
use Prim.Native.Nat.{ℕ, zero, suc, ◌+◌, ◌-◌, ◌*◌, ◌^◌, ◌≤◌, ◌<◌}
use native.Mathlib.Nat.{add-zero, add-suc, mod-eq_of_lt, zero-add, suc-add}
use native.Mathlib.Decide.{ℕ_discrete}
use native.Mathlib.Omega.{arith}
use borrow.Author.Tests.{lt-ltb, leb-true}
use lib.Bits.{bit_and}
use lib.Count.{ones, count_trailing_zeros}
use lib.Dec.{eqb, leb}
use lib.ListN.{length, get_or, set, take, drop, length-append}
use lib.Pow.{pow_pos}
use lib.Seq.{sets, sets-eq, length-sets}
use Rattle.laws.specs.Counting.{one, rank, chain}
use Rattle.laws.specs.Bits.{digit, has, words_for, Words}
use Rattle.laws.proofs.Sums.{sum_same}
use Rattle.laws.proofs.Counts.{empty}
use Rattle.laws.proofs.Chains.{length-chain, chain_split, chain_same, chain_none}
use Rattle.laws.proofs.Digits.{digit_lt, down_le, down_same, down_other, ones_low, lowest, lowest_off}
use Rattle.laws.proofs.Words.{has-digit}
use Rattle.laws.proofs.Ones.{rank_next}
use Rattle.bitvector.specs.Sets.{Plain, rising, set_of}
use Rattle.bitvector.specs.Steps.{counted_from, numbers_in, WordListed, PartListed, stretch, Listed, Front}
use Rattle.refusal.specs.Answers.{answered, refused}
use Rattle.refusal.specs.declared.Refusal.TheVariants.{ShortOutput}
use Rattle.bitvector.specs.Calls.{sound, members_call}
use Rattle.bitvector.proofs.Soundness.{stray, set_size}
use Rattle.bitvector.proofs.Fronts.{PartOf, front_has, front_rank, part_rank}

-- ---- one word

-- the number of digit k, where it is set
abbrev of_digit : ℕ → ℕ → ℕ → List ℕ
of_digit base w k = cond (eqb (digit w k) 1) ((base + k) ∷ []) []

no_number : (base w k : ℕ) → digit w k ≡ 0 → of_digit base w k ≡ []
no_number base w k e = rw e

-- the lowest set digit comes first, and then those of the word without it
pub numbers_pop : (base w : ℕ) → w < 2 ^ 64 → w ≢ 0 → numbers_in base w ≡ (base + count_trailing_zeros 64 w) ∷ numbers_in base (w - 2 ^ count_trailing_zeros 64 w)
unfolding numbers_in counted_from
numbers_pop base w h n =
    let low = lowest 64 w h n in
    let t : ℕ = count_trailing_zeros 64 w in
    let v : ℕ = w - 2 ^ t in
    let m : ℕ = 63 - t in
    let e : 64 ≡ suc t + m = omega (arith, low.within) in
    let here : chain (of_digit base w) (suc t) ≡ (base + t) ∷ [] =
    ap₂ (λ (x y : List ℕ). x ++ y) (chain_none (of_digit base w) t (λ k l. no_number base w k (low.first k l))) (rw low.set) in
    let gone : chain (of_digit base v) (suc t) ≡ [] =
    chain_none (of_digit base v) (suc t) (λ k l. no_number base v k (below k l)) in
    let above : chain (λ k. of_digit base w (suc t + k)) m ≡ chain (λ k. of_digit base v (suc t + k)) m =
    chain_same _ _ m (λ k l. ap (λ (d : ℕ). cond (eqb d 1) ((base + (suc t + k)) ∷ []) []) (sym (down_other w t (suc t + k) low.set (omega arith)))) in
    let rest : chain (of_digit base v) 64 ≡ chain (λ k. of_digit base v (suc t + k)) m =
    ap (chain (of_digit base v)) e ∙ chain_split (of_digit base v) (suc t) m ∙ ap (λ (l : List ℕ). l ++ chain (λ k. of_digit base v (suc t + k)) m) gone in
    ap (chain (of_digit base w)) e ∙ chain_split (of_digit base w) (suc t) m ∙ ap₂ (λ (x y : List ℕ). x ++ y) here (above ∙ sym rest)
  where
    below : (k : ℕ) → k < suc (count_trailing_zeros 64 w) → digit (w - 2 ^ count_trailing_zeros 64 w) k ≡ 0
    below k l =
        let low = lowest 64 w h n in
        elim (ℕ_discrete k (count_trailing_zeros 64 w)) [
          | yes e ↦ rw e (down_same w (count_trailing_zeros 64 w) low.set)
          | no m ↦ down_other w (count_trailing_zeros 64 w) k low.set m ∙ low.first k (omega arith)
        ]

pub numbers_zero : (base : ℕ) → numbers_in base 0 ≡ []
unfolding numbers_in counted_from
numbers_zero base = refl

pub length_numbers : (base w : ℕ) → w < 2 ^ 64 → length (numbers_in base w) ≡ ones w
unfolding numbers_in counted_from
length_numbers base w h =
    length-chain (of_digit base w) 64 ∙ sum_same _ (λ k. digit w k) 64 (λ k l. go (digit w k) (digit_lt w k) k) ∙ sym (ones_low w 64) ∙ ap ones (mod-eq_of_lt h)
  where
    go : (d : ℕ) → d < 2 → (k : ℕ) → length (cond (eqb d 1) ((base + k) ∷ []) []) ≡ d
    go zero l k = refl
    go (suc zero) l k = refl
    go (suc (suc d)) l k = absurd (omega arith)

-- a turn of the loop over a word's digits
pub record Turn (w k : ℕ) : Type 0 where
  pub within : k < 64
  pub cleared : bit_and w (w - 1) ≡ w - 2 ^ k
  pub exact : 2 ^ k ≤ w
  pub some : 0 < 2 ^ k
  pub fewer : ones w ≡ 1 + ones (w - 2 ^ k)

pub turn : (w : ℕ) → w < 2 ^ 64 → w ≢ 0 → Turn w (count_trailing_zeros 64 w)
turn w h n =
    let low = lowest 64 w h n in
    let t : ℕ = count_trailing_zeros 64 w in
    let le : 2 ^ t ≤ w = down_le w t low.set in
    record {
      within = low.within;
      cleared = lowest_off low;
      exact = le;
      some = pow_pos t;
      fewer = omega (arith, length_numbers 0 w h, length_numbers 0 (w - 2 ^ t) (omega arith), ap length (numbers_pop 0 w h n));
    }

-- ---- word by word

pub length-rising : (s : Plain) (n : ℕ) → length (rising s n) ≡ rank s n
length-rising s n = length-chain _ n ∙ sum_same _ (λ b. one (s b)) n (λ b l. go b (s b))
  where
    go : (b : ℕ) (t : Bool) → length (cond t (b ∷ []) []) ≡ one t
    go b true = refl
    go b false = refl

length_counted : (base : ℕ) (s : Plain) (n : ℕ) → length (counted_from base s n) ≡ rank s n
unfolding counted_from
length_counted base s n = length-chain _ n ∙ sum_same _ (λ k. one (s k)) n (λ k l. go k (s k))
  where
    go : (k : ℕ) (t : Bool) → length (cond t ((base + k) ∷ []) []) ≡ one t
    go k true = refl
    go k false = refl

-- one word more
counted_next : (base : ℕ) (ws : List ℕ) (m : ℕ)
    → counted_from base (has ws) (64 * (m + 1)) ≡ counted_from base (has ws) (64 * m) ++ numbers_in (base + 64 * m) (get_or ws m 0)
unfolding counted_from numbers_in
counted_next base ws m =
    let e : 64 * (m + 1) ≡ 64 * m + 64 = omega arith in
    let member : ℕ → List ℕ = λ k. cond (has ws k) ((base + k) ∷ []) [] in
    ap (chain member) e ∙ chain_split member (64 * m) 64
    ∙ ap (λ (l : List ℕ). chain member (64 * m) ++ l)
    (chain_same _ _ 64 (λ k l. ap₂ (λ (t : Bool) (b : ℕ). cond t (b ∷ []) []) (test k l) (same k)))
  where
    same : (k : ℕ) → base + (64 * m + k) ≡ base + 64 * m + k
    same k = omega arith

    back : (t : Bool) → t ≡ eqb (one t) 1
    back true = refl
    back false = refl

    test : (k : ℕ) → k < 64 → has ws (64 * m + k) ≡ eqb (digit (get_or ws m 0) k) 1
    test k l = back (has ws (64 * m + k)) ∙ ap (λ (d : ℕ). eqb d 1) (has-digit ws m k l)

sets_append : (l us vs : List ℕ) (i : ℕ) → sets l i (us ++ vs) ≡ sets (sets l i us) (i + length us) vs
sets_append l [] vs i = ap (λ (k : ℕ). sets l k vs) (sym (add-zero i))
sets_append l (u ∷ us) vs i =
    sets_append (set l i u) us vs (suc i) ∙ ap (λ (k : ℕ). sets (sets (set l i u) (suc i) us) k vs) (suc-add i (length us) ∙ sym (add-suc i (length us)))

module _ (ws : List ℕ) (base place : ℕ) (out : List ℕ) where
  -- no word
  pub part_none : PartListed ws 0 base place out place out
  unfolding counted_from
  part_none = record { told = sym (add-zero place); store = refl }

  -- one word more
  pub part_turn : Words ws → (j : ℕ) {next next₂ : ℕ} {mid after : List ℕ} → PartListed ws j base place out next mid
      → WordListed (base + 64 * j) (get_or ws j 0) next mid next₂ after → PartListed ws (j + 1) base place out next₂ after
  part_turn f j {next = next} x y =
      let r : List ℕ = counted_from base (has ws) (64 * j) in
      let on : next ≡ place + length r = omega (arith, x.told, length_counted base (has ws) (64 * j)) in
      record {
        told = omega (arith, x.told, y.told, rank_next ws f j);
        store =
            y.store ∙ ap (λ (o : List ℕ). sets o next (numbers_in (base + 64 * j) (get_or ws j 0))) x.store
            ∙ rw (counted_next base ws j, on) (sym (sets_append out r (numbers_in (base + 64 * j) (get_or ws j 0)) place));
      }

-- ---- from one word of a list up to another

-- from a on, where they are the numbers below a and those from there on
rising-stretch : (s : Plain) (a n : ℕ) → rising s (a + n) ≡ rising s a ++ stretch s a n
unfolding stretch
rising-stretch s a n = chain_split _ a n

length-stretch : (s : Plain) (a n : ℕ) → rank s a + length (stretch s a n) ≡ rank s (a + n)
length-stretch s a n =
    ap (λ (k : ℕ). k + length (stretch s a n)) (sym (length-rising s a)) ∙ sym (length-append (rising s a) (stretch s a n))
    ∙ ap length (sym (rising-stretch s a n)) ∙ length-rising s (a + n)

-- one word more
stretch_next : (ws : List ℕ) (i m : ℕ) → stretch (has ws) (64 * i) (64 * (m + 1)) ≡ stretch (has ws) (64 * i) (64 * m) ++ numbers_in ((i + m) * 64) (get_or ws (i + m) 0)
unfolding stretch numbers_in counted_from
stretch_next ws i m =
    let e : 64 * (m + 1) ≡ 64 * m + 64 = omega arith in
    let member : ℕ → List ℕ = λ k. cond (has ws (64 * i + k)) ((64 * i + k) ∷ []) [] in
    ap (chain member) e ∙ chain_split member (64 * m) 64
    ∙ ap (λ (l : List ℕ). chain member (64 * m) ++ l)
    (chain_same _ _ 64 (λ k l. ap₂ (λ (t : Bool) (b : ℕ). cond t (b ∷ []) []) (test k l) (same k)))
  where
    same : (k : ℕ) → 64 * i + (64 * m + k) ≡ (i + m) * 64 + k
    same k = omega arith

    back : (t : Bool) → t ≡ eqb (one t) 1
    back true = refl
    back false = refl

    test : (k : ℕ) → k < 64 → has ws (64 * i + (64 * m + k)) ≡ eqb (digit (get_or ws (i + m) 0) k) 1
    test k l =
        let e : 64 * i + (64 * m + k) ≡ 64 * (i + m) + k = omega arith in
        ap (has ws) e ∙ back (has ws (64 * (i + m) + k)) ∙ ap (λ (d : ℕ). eqb d 1) (has-digit ws (i + m) k l)

module _ (ws : List ℕ) (i : ℕ) where
  -- no word
  pub listed_none : (place : ℕ) (out : List ℕ) → Listed ws i i place out place out
  unfolding stretch
  listed_none place out =
      let e : i - i ≡ 0 = omega arith in
      record { told = refl; store = rw e }

  -- one word more
  pub listed_turn : Words ws → (j : ℕ) → i ≤ j → (place : ℕ) {next next₂ : ℕ} (out : List ℕ) {mid after : List ℕ} → Listed ws i j place out next mid
      → WordListed (j * 64) (get_or ws j 0) next mid next₂ after → Listed ws i (j + 1) place out next₂ after
  listed_turn f j l place {next = next} out {mid = mid} {after = after} x y =
      let m : ℕ = j - i in
      let r : List ℕ = stretch (has ws) (64 * i) (64 * m) in
      let e : j + 1 - i ≡ m + 1 = omega arith in
      let at : i + m ≡ j = omega arith in
      let far : 64 * i + 64 * m ≡ 64 * j = omega arith in
      let on : next ≡ place + length r = omega (arith, x.told, length-stretch (has ws) (64 * i) (64 * m), ap (rank (has ws)) far) in
      record {
        told = omega (arith, x.told, y.told, rank_next ws f j);
        store =
            y.store ∙ ap (λ (o : List ℕ). sets o next (numbers_in (j * 64) (get_or ws j 0))) x.store
            ∙ rw (e, stretch_next ws i m, at, on) (sym (sets_append out r (numbers_in (j * 64) (get_or ws j 0)) place));
      }

-- ---- the front of the store

pub front_none : (ws out₀ : List ℕ) → Front ws out₀ 0 0 out₀
front_none ws out₀ = record { told = refl; store = refl }

pub front_length : {ws out₀ : List ℕ} {i next : ℕ} {out : List ℕ} → Front ws out₀ i next out → length out ≡ length out₀
front_length x = ap length x.store ∙ simp length-sets refl

-- the words of a part are so listed
pub part_span : {ws : List ℕ} {i place next : ℕ} {part out after : List ℕ} → PartOf ws i part → PartListed part (length part) (64 * i) place out next after
    → Listed ws i (i + length part) place out next after
unfolding counted_from stretch
part_span {ws} {i} {place} {next} {part} {out} p y =
    let n : i + length part - i ≡ length part = omega arith in
    record {
      told = omega (arith, y.told, part_rank p);
      store = y.store ∙ ap (sets out place)
          (chain_same _ _ (64 * length part) (λ k l. ap (λ (t : Bool). cond t ((64 * i + k) ∷ []) []) (p.bits k l))
          ∙ ap (λ (m : ℕ). stretch (has ws) (64 * i) (64 * m)) (sym n));
    }

-- those of the words from i on are put after those of the words before
module _ (ws out₀ : List ℕ) (i j next : ℕ) (out : List ℕ) (l : i ≤ j) (x : Front ws out₀ i next out) where
  abbrev between : List ℕ
  between = stretch (has ws) (64 * i) (64 * (j - i))

  split : rising (has ws) (64 * j) ≡ rising (has ws) (64 * i) ++ between
  split =
      let past : 64 * j ≡ 64 * i + 64 * (j - i) = omega arith in
      ap (rising (has ws)) past ∙ rising-stretch (has ws) (64 * i) (64 * (j - i))

  pub front_on : {next₂ : ℕ} {after : List ℕ} → Listed ws i j next out next₂ after → Front ws out₀ j next₂ after
  front_on y =
      let r : List ℕ = rising (has ws) (64 * i) in
      let k : next ≡ 0 + length r = x.told ∙ sym (length-rising (has ws) (64 * i)) ∙ sym (zero-add (length r)) in
      record { told = omega (arith, x.told, y.told); store = rw (split, sets_append out₀ r between 0, ← k, ← x.store) y.store }

  -- where they have none, nothing is
  pub front_over : rank (has ws) (64 * j) ≡ rank (has ws) (64 * i) → Front ws out₀ j next out
  front_over e =
      let whole : length (rising (has ws) (64 * i) ++ between) ≡ length (rising (has ws) (64 * i)) =
      ap length (sym split) ∙ length-rising (has ws) (64 * j) ∙ e ∙ sym (length-rising (has ws) (64 * i)) in
      let none : between ≡ [] = empty between (omega (arith, whole, length-append (rising (has ws) (64 * i)) between)) in
      record { told = x.told ∙ sym e; store = rw (split, none, append-nil (rising (has ws) (64 * i))) x.store }

-- the words at the front of others
pub front_of_front : (ws : List ℕ) (n : ℕ) {front : List ℕ} → front ≡ take n ws → length front ≡ n → {out₀ : List ℕ} {next : ℕ} {out : List ℕ}
    → Front front out₀ (length front) next out → Front ws out₀ n next out
front_of_front ws n {front} e l {out₀} x =
    let same : rising (has front) (64 * n) ≡ rising (has ws) (64 * n) =
    chain_same _ _ (64 * n) (λ b m. ap (λ (t : Bool). cond t (b ∷ []) []) (front_has ws n e b m)) in
    record {
      told = x.told ∙ front_rank ws n e l;
      store = x.store ∙ ap (λ (k : ℕ). sets out₀ 0 (rising (has front) (64 * k))) l ∙ ap (sets out₀ 0) same;
    }

-- ---- the call

module _ (capacity : ℕ) (ws : List ℕ) (s : sound capacity ws ≡ true) where
  set-rising : rising (has ws) (64 * words_for capacity) ≡ rising (set_of capacity ws) capacity
  set-rising =
      let m : ℕ = 64 * words_for capacity - capacity in
      let e : 64 * words_for capacity ≡ capacity + m = omega arith in
      let member : ℕ → List ℕ = λ b. cond (has ws b) (b ∷ []) [] in
      ap (chain member) e ∙ chain_split member capacity m
      ∙ ap₂ (λ (x y : List ℕ). x ++ y)
      (chain_same member _ capacity (λ b l. rw (lt-ltb b capacity l)))
      (chain_none (λ k. member (capacity + k)) m (λ k l. rw (stray capacity ws s (capacity + k) (omega arith) (omega arith))))
      ∙ append-nil (rising (set_of capacity ws) capacity)

  room : (out : List ℕ) → leb (rank (set_of capacity ws) capacity) (length out) ≡ leb (rank (has ws) (64 * words_for capacity)) (length out)
  room out = ap (λ (n : ℕ). leb n (length out)) (sym (set_size capacity ws s))

  pub all_listed : (out after : List ℕ) (size : ℕ) → leb (rank (has ws) (64 * words_for capacity)) (length out) ≡ true
      → Front ws out (words_for capacity) size after → answered size after ≡ members_call capacity ws out
  all_listed out after size h f =
      let r : List ℕ = rising (set_of capacity ws) capacity in
      let n : size ≡ rank (set_of capacity ws) capacity = f.told ∙ set_size capacity ws s in
      let k : 0 + length r ≡ size = zero-add (length r) ∙ length-rising (set_of capacity ws) capacity ∙ sym n in
      let l : size ≤ length out = rw f.told (leb-true _ _ h) in
      let g : after ≡ r ++ drop size out = f.store ∙ ap (sets out 0) set-rising ∙ sets-eq r out 0 (rw k l) ∙ ap (λ (j : ℕ). r ++ drop j out) k in
      rw (s, room out, h, ← n) (ap (answered size) g)

  pub no_room : (out : List ℕ) → leb (rank (has ws) (64 * words_for capacity)) (length out) ≡ false → refused out ShortOutput ≡ members_call capacity ws out
  no_room out h = rw (s, room out, h)
