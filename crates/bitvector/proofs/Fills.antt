-- The words of the empty set, and of every number below a capacity. Assumes nothing.
use mathlib.Core.Path.{◌≡◌, sym, ap, ◌∙◌}
use mathlib.Core.List.{List, ◌++◌, append_assoc}
use Prim.Native.Nat.{ℕ, suc, ◌+◌, ◌-◌, ◌*◌, ◌/◌, ◌%◌, ◌^◌, ◌≤◌, ◌<◌}
use native.Mathlib.Omega.{arith}
use borrow.Author.Tests.{lt-ltb, le-ltb}
use lib.Dec.{ltb, lit≤}
use lib.ListN.{length, drop, set, replicate, length-replicate}
use lib.Seq.{drop-cons, set_at}
use Rattle.laws.specs.Bits.{words_for, number, packed}
use Rattle.laws.proofs.Cases.{Tri, tri, lt, eq, gt}
use Rattle.laws.proofs.Digits.{number_low}
use Rattle.laws.proofs.Packing.{packed-suc, packed_low}
use Rattle.bitvector.specs.Sets.{empty_set, all_below, stored}

pub emptied : (capacity : ℕ) (ws : List ℕ) → replicate (words_for capacity) 0 ++ drop (words_for capacity) ws ≡ stored capacity empty_set ws
unfolding stored
emptied capacity ws =
    ap (λ (l : List ℕ). l ++ drop (words_for capacity) ws)
    (sym (packed_low (words_for capacity) 0 empty_set (lit≤ tt) (λ i k l m. sym (le-ltb k 0 (omega arith)))))

-- the words below the capacity's own are full
full_words : (capacity n : ℕ) → 64 * n ≤ capacity → packed n (all_below capacity) ≡ replicate n (2 ^ 64 - 1)
full_words capacity n h =
    packed_low n 64 (all_below capacity) (lit≤ tt) (λ i k l m. lt-ltb (64 * i + k) capacity (omega arith) ∙ sym (lt-ltb k 64 m))

-- and its own has the digits below it
last_word : (capacity : ℕ) → number (λ k. ltb (64 * (capacity / 64) + k) capacity) 64 ≡ 2 ^ (capacity % 64) - 1
last_word capacity = number_low _ (capacity % 64) 64 (omega arith) (λ k l. go k (tri k (capacity % 64)))
  where
    past : (k : ℕ) → capacity % 64 ≤ k → ltb (64 * (capacity / 64) + k) capacity ≡ ltb k (capacity % 64)
    past k h = le-ltb _ capacity (omega arith) ∙ sym (le-ltb k (capacity % 64) h)

    go : (k : ℕ) → Tri k (capacity % 64) → ltb (64 * (capacity / 64) + k) capacity ≡ ltb k (capacity % 64)
    go k (lt h) = lt-ltb _ capacity (omega arith) ∙ sym (lt-ltb k (capacity % 64) h)
    go k (eq e) = past k (omega arith)
    go k (gt h) = past k (omega arith)

pub filled_whole : (capacity : ℕ) (ws : List ℕ) → capacity % 64 ≤ 0
    → replicate (capacity / 64) (2 ^ 64 - 1) ++ drop (capacity / 64) ws ≡ stored capacity (all_below capacity) ws
unfolding stored
filled_whole capacity ws h =
    let e : words_for capacity ≡ capacity / 64 = omega arith in
    rw (e, full_words capacity (capacity / 64) (omega arith))

pub filled_part : (capacity : ℕ) (ws : List ℕ) → 0 < capacity % 64 → capacity / 64 < length ws
    → set (replicate (capacity / 64) (2 ^ 64 - 1) ++ drop (capacity / 64) ws) (capacity / 64) (2 ^ (capacity % 64) - 1) ≡ stored capacity (all_below capacity) ws
unfolding stored
filled_part capacity ws h l =
    let n : ℕ = capacity / 64 in
    let e : words_for capacity ≡ suc n = omega arith in
    rw (e, packed-suc n (all_below capacity), last_word capacity, full_words capacity n (omega arith), drop-cons ws n 0 l, append_assoc)
    (set_at (replicate n (2 ^ 64 - 1)) _ (drop (suc n) ws) (2 ^ (capacity % 64) - 1) n (length-replicate n (2 ^ 64 - 1)))
