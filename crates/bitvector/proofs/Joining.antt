-- The bits of two lists of words in one, word by word: what `insert_all` does. Assumes nothing.
use mathlib.Core.Path.{◌≡◌, refl, sym, ap, ap₂, ◌∙◌}
use mathlib.Core.Bool.{Bool, true, false, not, ◌||◌, ◌&&◌}
use mathlib.Core.List.{List, ◌++◌, append_assoc, append-nil}
use Prim.Native.Nat.{ℕ, suc, ◌+◌, ◌*◌, ◌^◌, ◌≤◌, ◌<◌}
use native.Mathlib.Numerals.{add-one}
use native.Mathlib.Omega.{arith}
use borrow.Author.Tests.{eq-eqb, le-ltb}
use lib.Bits.{bit_or}
use lib.Dec.{eqb}
use lib.ListN.{length, get_or, set, take, drop}
use lib.Seq.{drop-cons, get_or_at, length-take-le, set_at}
use Rattle.std.proofs.lemmas.List.{drop_all}
use Rattle.laws.specs.Counting.{one}
use Rattle.laws.specs.Bits.{has, words_for, word_of, packed}
use Rattle.laws.proofs.Cases.{eqb_both}
use Rattle.laws.proofs.Digits.{number_or}
use Rattle.laws.proofs.Packing.{word_has, length-packed, packed_below, packed-suc}
use Rattle.bitvector.specs.Sets.{Plain, union, same_below, set_of, stored}
use Rattle.bitvector.specs.Steps.{either_bits, Joined}
use Rattle.refusal.specs.Answers.{answered}
use Rattle.bitvector.specs.Calls.{sound, insert_all_call}
use Rattle.bitvector.proofs.Soundness.{set_bits_lem}
use Rattle.bitvector.proofs.Fronts.{front_has}
use Rattle.bitvector.proofs.Agreement.{same_next, same_past, same_both}

-- ---- a turn of the loop: the first i words of xs are joined, and the others are those of ws

not_and : (a b : Bool) → not a || not b ≡ not (a && b)
not_and true b = refl
not_and false b = refl

module _ (ws us xs : List ℕ) (i : ℕ) (new : Bool) (l : i < length ws) (j : Joined i ws us new xs) (hx : get_or xs i 0 < 2 ^ 64) (hu : get_or us i 0 < 2 ^ 64) where
  own_word : word_of (has ws) i ≡ get_or xs i 0
  own_word = word_has ws i (rw (← here) hx) ∙ sym here
    where
      here : get_or xs i 0 ≡ get_or ws i 0
      here =
          rw (j.words, drop-cons ws i 0 l)
          (get_or_at (packed i (either_bits ws us)) (get_or ws i 0) (drop (suc i) ws) 0 i (length-packed i (either_bits ws us)))

  or_word : bit_or (get_or xs i 0) (get_or us i 0) ≡ word_of (either_bits ws us) i
  or_word = ap₂ bit_or (sym own_word) (sym (word_has us i hu)) ∙ number_or (λ k. has ws (64 * i + k)) (λ k. has us (64 * i + k)) 64

  pub join_turn : Joined (i + 1) ws us (new || not (eqb (bit_or (get_or xs i 0) (get_or us i 0)) (get_or xs i 0))) (set xs i (bit_or (get_or xs i 0) (get_or us i 0)))
  join_turn =
      let s : Plain = either_bits ws us in
      let w : ℕ = word_of (has ws) i in
      rw or_word
      (record {
        new =
            rw (same_next (has ws) s i, j.new, ← own_word, eqb_both (word_of s i) w w (word_of s i) sym sym)
            (not_and (same_below (has ws) s (64 * i)) (eqb w (word_of s i)));
        words =
            rw (j.words, add-one i, packed-suc i s, append_assoc, drop-cons ws i 0 l)
            (set_at (packed i s) (get_or ws i 0) (drop (suc i) ws) (word_of s i) i (length-packed i s));
      })

-- ---- the call

-- the words at the front of others are joined
pub joined_fronts : (ws us : List ℕ) (n : ℕ) → n ≤ length ws → {front : List ℕ} → front ≡ take n us → {k : ℕ} → k ≡ n → {new : Bool} {after : List ℕ}
    → Joined (length (take k ws)) (take k ws) front new after → Joined n ws us new (after ++ drop k ws)
joined_fronts ws us n l {front} e {k} h {new} {after} j =
    let q : length (take k ws) ≡ n = ap (λ (i : ℕ). length (take i ws)) h ∙ length-take-le n ws l in
    let own : (b : ℕ) → b < 64 * n → has (take k ws) b ≡ has ws b = front_has ws n (ap (λ (i : ℕ). take i ws) h) in
    let either : (b : ℕ) → b < 64 * n → either_bits (take k ws) front b ≡ either_bits ws us b = λ b m. ap₂ ◌||◌ (own b m) (front_has us n e b m) in
    let f : Joined n (take k ws) front new after = rw q at j in
    record {
      new = f.new ∙ ap not (same_both _ _ (has ws) (either_bits ws us) (64 * n) own either);
      words =
          ap₂ (λ (x y : List ℕ). x ++ y)
          (f.words ∙ ap₂ (λ (x y : List ℕ). x ++ y) (packed_below n _ (either_bits ws us) either) (drop_all n (take k ws) (omega arith)) ∙ append-nil (packed n (either_bits ws us)))
          (ap (λ (i : ℕ). drop i ws) h);
    }

pub joined : (capacity : ℕ) (ws : List ℕ) (capacity₂ : ℕ) (us : List ℕ) → sound capacity ws ≡ true → sound capacity₂ us ≡ true → capacity ≡ capacity₂
    → (new : Bool) (after : List ℕ) → Joined (words_for capacity) ws us new after → answered (one new) after ≡ insert_all_call capacity ws capacity₂ us
unfolding stored
joined capacity ws capacity₂ us f g q new after j =
    let s : Plain = set_of capacity ws in
    let t : Plain = union s (set_of capacity₂ us) in
    let n : ℕ = words_for capacity in
    let own : (b : ℕ) → b < 64 * n → has ws b ≡ s b = λ b l. sym (set_bits_lem capacity ws f b l) in
    let either : (b : ℕ) → b < 64 * n → either_bits ws us b ≡ t b = λ b l. ap₂ ◌||◌ (own b l) (sym (set_bits_lem capacity₂ us g b (rw (← q) l))) in
    let past : (b : ℕ) → capacity ≤ b → s b ≡ t b = λ b l. rw (← q, le-ltb b capacity l) in
    let same : same_below (has ws) (either_bits ws us) (64 * n) ≡ same_below s t capacity =
    same_both (has ws) (either_bits ws us) s t (64 * n) own either ∙ same_past s t capacity (64 * n) (omega arith) past in
    rw (f, g, eq-eqb capacity capacity₂ q, j.new, j.words, same, packed_below n (either_bits ws us) t either)
