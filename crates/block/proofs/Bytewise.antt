-- A word as its eight bytes, which are a chunk of a store of bytes. Assumes nothing.
use mathlib.Core.Path.{◌≡◌, sym, ap, ◌∙◌}
use mathlib.Core.List.{List, [], map}
use Prim.Native.Nat.{ℕ, zero, suc, ◌+◌, ◌*◌, ◌≤◌, ◌<◌}
use native.Mathlib.Nat.{add-zero, mul-zero}
use native.Mathlib.Omega.{arith}
use lib.Dec.{lit<}
use lib.ListN.{length, get_or, take, drop, length-drop}
use lib.Seq.{drop-drop, get_or-drop, get_or-take, length-take-le}
use Rattle.std.specs.Int.{w64, from_le_bytes}
use Rattle.std.specs.List.{between}
use Rattle.std.specs.Simd.{first_chunks}
use Rattle.std.proofs.lemmas.List.{get_or-map, length-map}
use Rattle.laws.specs.Counting.{each}
use Rattle.laws.proofs.Chains.{each_back, each_same}
use Rattle.block.specs.Bytes.{word_bytes, word_at}

-- one chunk of many
chunk_at : {X : Type 0} (n k i : ℕ) (xs : List X) (d : List X) → i < k → get_or (first_chunks n k xs) i d ≡ take n (drop (n * i) xs)
chunk_at n zero i xs d h = absurd (omega arith)
chunk_at n (suc k) zero xs d h = ap (λ (m : ℕ). take n (drop m xs)) (sym (mul-zero n))
chunk_at n (suc k) (suc i) xs d h =
    let e : n + n * i ≡ n * suc i = omega arith in
    chunk_at n k i (drop n xs) d (omega arith) ∙ ap (take n) (drop-drop (n * i) n xs ∙ ap (λ (m : ℕ). drop m xs) e)

module _ (bs : List ℕ) (k : ℕ) (chunks : List (List ℕ)) (e : chunks ≡ first_chunks word_bytes k bs) where
  -- a word is what its chunk stands for, lowest byte first
  pub chunk_word : (j : ℕ) (d : List ℕ) → j < k → from_le_bytes w64 (get_or chunks j d) ≡ word_at bs j
  unfolding word_at
  chunk_word j d h =
      let byte : (i : ℕ) → i < word_bytes → get_or (take word_bytes (drop (word_bytes * j) bs)) i 0 ≡ get_or bs (word_bytes * j + i) 0 =
      λ i l. get_or-take word_bytes (drop (word_bytes * j) bs) i 0 l ∙ get_or-drop (word_bytes * j) bs i 0 in
      let first : get_or bs (word_bytes * j + 0) 0 ≡ get_or bs (word_bytes * j) 0 = ap (λ (i : ℕ). get_or bs i 0) (add-zero (word_bytes * j)) in
      ap (λ (cs : List (List ℕ)). from_le_bytes w64 (get_or cs j d)) e
      ∙ ap (from_le_bytes w64) (chunk_at word_bytes k j bs d h)
      ∙ omega (arith, first, byte 0 (lit< tt), byte 1 (lit< tt), byte 2 (lit< tt), byte 3 (lit< tt), byte 4 (lit< tt), byte 5 (lit< tt), byte 6 (lit< tt), byte 7 (lit< tt))

  -- and so are those of a part of the words
  pub chunk_words : (i n : ℕ) → length chunks ≡ k → i + n ≤ k → map (from_le_bytes w64) (between i (i + n) chunks) ≡ each (λ w. word_at bs (i + w)) n
  chunk_words i n l h =
      let part = take n (drop i chunks) in
      let long : length part ≡ n = length-take-le n (drop i chunks) (omega (arith, length-drop i chunks)) in
      ap (λ (j : ℕ). map (from_le_bytes w64) (take j (drop i chunks))) (omega arith)
      ∙ sym (each_back (map (from_le_bytes w64) part) n (length-map part (from_le_bytes w64) ∙ long))
      ∙ each_same _ _ n
      (λ w q.
      get_or-map (from_le_bytes w64) part w [] 0 (omega arith)
      ∙ ap (from_le_bytes w64) (get_or-take n (drop i chunks) w [] q ∙ get_or-drop i chunks w [])
      ∙ chunk_word (i + w) [] (omega arith))
