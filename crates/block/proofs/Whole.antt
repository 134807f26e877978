-- Words as bytes and back: the bytes of some words, one word of them changed, and the words of some bytes. Assumes nothing.
use mathlib.Core.Path.{◌≡◌, refl, sym, ap, ap₂, ◌∙◌, subst}
use mathlib.Core.List.{List, [], ◌∷◌, ◌++◌}
use Prim.Native.Nat.{ℕ, zero, suc, ◌+◌, ◌*◌, ◌/◌, ◌%◌, ◌^◌, ◌<◌}
use native.Mathlib.Nat.{add_comm, add-mul-div_right, add-mul-mod_self_right, le_dest, mod-eq_of_lt, mod-lt, zero-add}
use native.Mathlib.Decide.{dec_lt}
use native.Mathlib.Omega.{arith}
use lib.Arith.{digits_lt}
use lib.Dec.{lit<}
use lib.ListN.{length, get_or, set, take, drop, get_or-append, get_or-eq_default}
use lib.Pow.{pow_pos, pow-add, mod-pow-add, high}
use lib.Seq.{drop_at, ext_get_or, get_or-append-add, length-take-le, set_split, split_at, take_at}
use Rattle.laws.specs.Bits.{Words}
use Rattle.laws.specs.Counting.{sum, each}
use Rattle.laws.specs.Stores.{pasted}
use Rattle.laws.proofs.Chains.{each_at, length-each}
use Rattle.laws.proofs.Sums.{sum_same}
use Rattle.block.specs.Bytes.{word_bytes, byte_of, bytes_of, all_bytes, word_at, Bytes}
use Rattle.block.proofs.Written.{all_bytes_append, length_all_bytes}

-- ---- one word

-- the low n bytes of a word make up its low part
bytes_sum : (w n : ℕ) → sum (λ k. byte_of w k * 2 ^ (8 * k)) n ≡ w % 2 ^ (8 * n)
bytes_sum w zero = omega arith
bytes_sum w (suc n) =
    let e : 8 * suc n ≡ 8 + 8 * n = omega arith in
    rw e (omega (arith, bytes_sum w n, mod-pow-add w 8 (8 * n)))

-- a multiple of 2 ^ (8 n) does not reach a byte below byte n
above_byte : (a w k d : ℕ) → byte_of (w + a * 2 ^ (8 * (suc d + k))) k ≡ byte_of w k
above_byte a w k d =
    let p : 2 ^ (8 * (suc d + k)) ≡ 2 ^ (8 * d) * (2 ^ 8 * 2 ^ (8 * k)) =
    ap (λ (i : ℕ). 2 ^ i) (omega arith) ∙ pow-add 2 (8 * d) (8 + 8 * k) ∙ ap (λ (x : ℕ). 2 ^ (8 * d) * x) (pow-add 2 8 (8 * k)) in
    let e : a * 2 ^ (8 * (suc d + k)) ≡ a * 2 ^ (8 * d) * 2 ^ 8 * 2 ^ (8 * k) = ap (λ (x : ℕ). a * x) p ∙ omega arith in
    ap (λ (x : ℕ). (w + x) / 2 ^ (8 * k) % 2 ^ 8) e
    ∙ ap (λ (x : ℕ). x % 2 ^ 8) (add-mul-div_right w (a * 2 ^ (8 * d) * 2 ^ 8) (pow_pos (8 * k)))
    ∙ add-mul-mod_self_right (w / 2 ^ (8 * k)) (a * 2 ^ (8 * d)) (2 ^ 8)

-- the word of some bytes, and its bytes
module _ (byte : ℕ → ℕ) (small : (k : ℕ) → byte k < 2 ^ 8) where
  abbrev joined : ℕ → ℕ
  joined n = sum (λ k. byte k * 2 ^ (8 * k)) n

  joined_lt : (n : ℕ) → joined n < 2 ^ (8 * n)
  joined_lt zero = lit< tt
  joined_lt (suc n) =
      let e : 8 * suc n ≡ 8 + 8 * n = omega arith in
      rw (e, pow-add 2 8 (8 * n)) (omega (arith, digits_lt (small n) (joined_lt n)))

  joined_byte : (n k : ℕ) → k < n → byte_of (joined n) k ≡ byte k
  joined_byte zero k h = absurd (omega arith)
  joined_byte (suc n) k h = elim (dec_lt k n) [
    | yes l ↦
        let t = le_dest l in
        let q : suc t.0 + k ≡ n = omega arith in
        subst (λ (x : ℕ). byte_of (joined n + byte n * 2 ^ (8 * x)) k ≡ byte_of (joined n) k) q (above_byte (byte n) (joined n) k t.0) ∙ joined_byte n k l
    | no m ↦
        let e : k ≡ n = omega arith in
        let f : (joined n + byte n * 2 ^ (8 * n)) / 2 ^ (8 * n) ≡ byte n =
        ap (λ (x : ℕ). x / 2 ^ (8 * n)) (add_comm (joined n) (byte n * 2 ^ (8 * n))) ∙ high (byte n) (8 * n) (joined_lt n) in
        rw (e, f) (mod-eq_of_lt (small n))
  ]

-- ---- the bytes of some words

bytes_each : (w : ℕ) → bytes_of w ≡ each (byte_of w) word_bytes
unfolding each
bytes_each w = refl

bytes_at : (ws : List ℕ) (j k : ℕ) → j < length ws → k < word_bytes → get_or (all_bytes ws) (word_bytes * j + k) 0 ≡ byte_of (get_or ws j 0) k
unfolding all_bytes
bytes_at [] j k h l = absurd (omega arith)
bytes_at (w ∷ ws) zero k h l =
    ap (λ (i : ℕ). get_or (bytes_of w ++ all_bytes ws) i 0) (zero-add k) ∙ get_or-append (bytes_of w) (all_bytes ws) 0 k l ∙ ap (λ (bs : List ℕ). get_or bs k 0) (bytes_each w)
    ∙ each_at (byte_of w) word_bytes k l
bytes_at (w ∷ ws) (suc j) k h l =
    let e : word_bytes * suc j + k ≡ word_bytes + (word_bytes * j + k) = omega arith in
    ap (λ (i : ℕ). get_or (bytes_of w ++ all_bytes ws) i 0) e ∙ get_or-append-add (bytes_of w) (all_bytes ws) (word_bytes * j + k) 0 ∙ bytes_at ws j k (omega arith) l

-- each is a byte
pub bytes_small : (ws : List ℕ) → Bytes (all_bytes ws)
bytes_small ws i =
    let j = i / word_bytes in
    let k = i % word_bytes in
    elim (dec_lt j (length ws)) [
      | yes h ↦
          let e : i ≡ word_bytes * j + k = omega arith in
          let q : get_or (all_bytes ws) i 0 ≡ byte_of (get_or ws j 0) k = ap (λ (x : ℕ). get_or (all_bytes ws) x 0) e ∙ bytes_at ws j k h (omega arith) in
          rw q (mod-lt (get_or ws j 0 / 2 ^ (8 * k)) (lit< tt))
      | no h ↦ rw (get_or-eq_default (all_bytes ws) 0 {n = i} (rw (length_all_bytes ws) (omega arith))) (lit< tt)
    ]

-- the words are read back
pub word_bytes_lem : (ws : List ℕ) → Words ws → (j : ℕ) → j < length ws → word_at (all_bytes ws) j ≡ get_or ws j 0
unfolding word_at
word_bytes_lem ws f j h =
    sum_same _ _ word_bytes (λ k l. ap (λ (b : ℕ). b * 2 ^ (8 * k)) (bytes_at ws j k h l)) ∙ bytes_sum (get_or ws j 0) word_bytes ∙ mod-eq_of_lt (f j)

-- one word is changed
pub bytes_set : (ws : List ℕ) (j v : ℕ) → j < length ws → pasted (word_bytes * j) (bytes_of v) (all_bytes ws) ≡ all_bytes (set ws j v)
unfolding all_bytes
bytes_set ws j v h =
    let w = get_or ws j 0 in
    let front = all_bytes (take j ws) in
    let past = all_bytes (drop (suc j) ws) in
    let l : length front ≡ word_bytes * j = length_all_bytes (take j ws) ∙ ap (λ (n : ℕ). word_bytes * n) (length-take-le j ws (omega arith)) in
    let e : all_bytes ws ≡ front ++ (bytes_of w ++ past) = ap all_bytes (split_at ws j 0 h) ∙ all_bytes_append (take j ws) (w ∷ drop (suc j) ws) in
    ap (pasted (word_bytes * j) (bytes_of v)) e
    ∙ ap₂ (λ (x y : List ℕ). x ++ (bytes_of v ++ drop word_bytes y)) (take_at front (bytes_of w ++ past) _ l) (drop_at front (bytes_of w ++ past) _ l)
    ∙ sym (ap all_bytes (set_split ws j v h) ∙ all_bytes_append (take j ws) (v ∷ drop (suc j) ws))

-- ---- the words of some bytes

module _ (bs : List ℕ) (small : Bytes bs) where
  pub word_lt : (j : ℕ) → word_at bs j < 2 ^ 64
  unfolding word_at
  word_lt j = joined_lt (λ k. get_or bs (word_bytes * j + k) 0) (λ k. small (word_bytes * j + k)) word_bytes

  -- they give the bytes back
  pub bytes_back : (n : ℕ) → length bs ≡ word_bytes * n → all_bytes (each (word_at bs) n) ≡ bs
  unfolding word_at
  bytes_back n l =
      let ws = each (word_at bs) n in
      let m : length (all_bytes ws) ≡ word_bytes * n = length_all_bytes ws ∙ ap (λ (i : ℕ). word_bytes * i) (length-each (word_at bs) n) in
      ext_get_or 0 (all_bytes ws) bs (m ∙ sym l)
      (λ i h.
      let j = i / word_bytes in
      let k = i % word_bytes in
      let e : i ≡ word_bytes * j + k = omega arith in
      let q : j < n = omega (arith, m) in
      ap (λ (x : ℕ). get_or (all_bytes ws) x 0) e
      ∙ bytes_at ws j k (rw (length-each (word_at bs) n) q) (omega arith)
      ∙ ap (λ (w : ℕ). byte_of w k) (each_at (word_at bs) n j q)
      ∙ joined_byte (λ k. get_or bs (word_bytes * j + k) 0) (λ k. small (word_bytes * j + k)) word_bytes k (omega arith)
      ∙ ap (λ (x : ℕ). get_or bs x 0) (sym e))
