-- Words written as bytes one after another, and blocks of them. Assumes nothing.
use mathlib.Core.Path.{◌≡◌, refl, ap}
use mathlib.Core.List.{List, [], ◌∷◌, ◌++◌}
use Prim.Native.Nat.{ℕ, zero, suc, ◌+◌, ◌*◌, ◌≤◌}
use native.Mathlib.Omega.{arith}
use lib.ListN.{length, length-append, take-append-drop}
use Rattle.laws.specs.Counting.{each}
use Rattle.laws.specs.Stores.{pasted}
use Rattle.laws.proofs.Chains.{length-each}
use Rattle.laws.proofs.Parts.{length-pasted, pasted_more}
use Rattle.block.specs.Bytes.{word_bytes, bytes_of, all_bytes}
use Rattle.block.specs.Block.{block_words, block_content, check_of, checked_words, block_of, image_words}

-- a word alone
pub all_bytes_one : (w : ℕ) → all_bytes (w ∷ []) ≡ bytes_of w
unfolding all_bytes
all_bytes_one w = refl

pub all_bytes_append : (us vs : List ℕ) → all_bytes (us ++ vs) ≡ all_bytes us ++ all_bytes vs
unfolding all_bytes
all_bytes_append [] vs = refl
all_bytes_append (u ∷ us) vs = ap (λ (bs : List ℕ). bytes_of u ++ bs) (all_bytes_append us vs)

pub length_all_bytes : (ws : List ℕ) → length (all_bytes ws) ≡ word_bytes * length ws
unfolding all_bytes
length_all_bytes [] = refl
length_all_bytes (w ∷ ws) = omega (arith, length_all_bytes ws)

-- ---- words in a store of bytes, from word j on

abbrev pub written : ℕ → List ℕ → List ℕ → List ℕ
written j ws bytes = pasted (word_bytes * j) (all_bytes ws) bytes

pub written_none : (bytes : List ℕ) (j : ℕ) → written j [] bytes ≡ bytes
unfolding all_bytes
written_none bytes j = take-append-drop (word_bytes * j) bytes

module _ (bytes : List ℕ) (j : ℕ) (us : List ℕ) where
  pub length_written : word_bytes * (j + length us) ≤ length bytes → length (written j us bytes) ≡ length bytes
  length_written h = length-pasted (word_bytes * j) (all_bytes us) bytes (omega (arith, length_all_bytes us))

  -- words behind those that were written before
  pub written_more : (at : ℕ) (vs now next : List ℕ) → at ≡ j + length us → word_bytes * (at + length vs) ≤ length bytes
      → now ≡ written j us bytes → next ≡ written at vs now → next ≡ written j (us ++ vs) bytes
  written_more at vs now next a h e f =
      let k : word_bytes * at ≡ word_bytes * j + length (all_bytes us) = omega (arith, length_all_bytes us) in
      rw (f, e, k, all_bytes_append us vs)
      (pasted_more (word_bytes * j) (all_bytes us) (all_bytes vs) bytes (omega (arith, length_all_bytes us, length_all_bytes vs)))

-- ---- blocks of a content

module _ (content : ℕ → ℕ) where
  pub length-block : (b : ℕ) → length (block_of content b) ≡ block_words
  length-block b =
      let rest = each (λ k. content (block_content * b + k)) block_content in
      omega (arith, length-append rest (check_of (checked_words content b) ∷ []), length-each (λ k. content (block_content * b + k)) block_content)

  pub length_image : (n : ℕ) → length (image_words content n) ≡ block_words * n
  unfolding image_words
  length_image zero = refl
  length_image (suc n) = omega (arith, length-append (image_words content n) (block_of content n), length-block n, length_image n)

  -- no block, and one more
  pub image_none : image_words content 0 ≡ []
  unfolding image_words
  image_none = refl

  pub image_suc : (n : ℕ) → image_words content (suc n) ≡ image_words content n ++ block_of content n
  unfolding image_words
  image_suc n = refl
