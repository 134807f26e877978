-- The content of a block word by word, a block part by part, and an image block by block. Assumes nothing.
use mathlib.Core.Path.{◌≡◌, refl, sym, ap, ◌∙◌}
use mathlib.Core.List.{List, [], ◌∷◌, ◌++◌}
use Prim.Native.Nat.{ℕ, ◌+◌, ◌*◌, ◌≤◌, ◌<◌}
use native.Mathlib.Numerals.{add-one}
use native.Mathlib.Omega.{arith}
use lib.ListN.{length}
use Rattle.laws.specs.Counting.{each}
use Rattle.laws.specs.Stores.{fronted, pasted}
use Rattle.laws.proofs.Chains.{each-suc, length-each}
use Rattle.block.specs.Bytes.{word_bytes, bytes_of, all_bytes}
use Rattle.block.specs.Block.{block_words, block_content, block_bytes, check_place, check_step, check_of, checked_words, block_of, image_words}
use Rattle.block.proofs.Checks.{check-first, check_next}
use Rattle.block.proofs.Written.{written, all_bytes_one, written_none, length_written, written_more, length-block, length_image, image_none, image_suc}
use Rattle.image.specs.Steps.{Contented}

module _ (content : ℕ → ℕ) (b : ℕ) (image : List ℕ) where
  -- the first n words of the content of block b
  abbrev block_first : ℕ → List ℕ
  block_first n = each (λ k. content (block_content * b + k)) n

  length-first : (n : ℕ) → length (block_first n) ≡ n
  length-first n = length-each _ n

  -- they are written behind the number of the block, and this is the check of both
  pub record ContentedTo (n told : ℕ) (after : List ℕ) : Type 0 where
    pub bytes : after ≡ written (block_words * b + 1) (block_first n) image
    pub check : told ≡ check_of (b ∷ block_first n)

  pub contented_none : (told : ℕ) → told ≡ check_step 0 b → ContentedTo 0 told image
  unfolding each
  contented_none told e = record { bytes = sym (written_none image (block_words * b + 1)); check = e ∙ check-first b }

  pub contented_all : (told : ℕ) (after : List ℕ) → ContentedTo block_content told after → Contented content b image told after
  contented_all told after c = record { bytes = c.bytes; check = c.check }

  module _ (room : block_bytes * b + block_bytes ≤ length image) where
    pub contented_length : {n told : ℕ} {after : List ℕ} → n ≤ block_content → ContentedTo n told after → length after ≡ length image
    contented_length {n} h c =
        ap length c.bytes ∙ length_written image (block_words * b + 1) (block_first n) (omega (arith, length-first n))

    pub contented_more : (n told word next : ℕ) (after then : List ℕ) → n < block_content → ContentedTo n told after
        → word ≡ content (block_content * b + n) → then ≡ pasted (word_bytes * (block_words * b + 1 + n)) (bytes_of word) after → next ≡ check_step told word
        → ContentedTo (n + 1) next then
    contented_more n told word next after then h c w p s =
        let l = length-first n in
        let e : block_first (n + 1) ≡ block_first n ++ (word ∷ []) = ap block_first (add-one n) ∙ each-suc _ n ∙ ap (λ (v : ℕ). block_first n ++ (v ∷ [])) (sym w) in
        let q : then ≡ written (block_words * b + 1 + n) (word ∷ []) after = rw (all_bytes_one word) p in
        record {
          bytes = rw e (written_more image (block_words * b + 1) (block_first n) (block_words * b + 1 + n) (word ∷ []) after then (omega arith) (omega arith) c.bytes q);
          check = rw e (check_next (b ∷ block_first n) told word next c.check s);
        }

    -- the block: its number, its content, its check
    pub block_written : (told : ℕ) (once twice last : List ℕ) → once ≡ pasted (word_bytes * (block_words * b)) (bytes_of b) image → Contented content b once told twice
        → last ≡ pasted (word_bytes * (block_words * b + check_place)) (bytes_of told) twice → last ≡ pasted (block_bytes * b) (all_bytes (block_of content b)) image
    block_written told once twice last p c q =
        let place : ℕ = block_words * b in
        let l : length (checked_words content b) ≡ check_place = omega (arith, length-first block_content) in
        let e : block_bytes * b ≡ word_bytes * place = omega arith in
        let number : once ≡ written place (b ∷ []) image = rw (all_bytes_one b) p in
        let checked : twice ≡ written place (checked_words content b) image =
        written_more image place (b ∷ []) (place + 1) (block_first block_content) once twice refl (omega (arith, l)) number c.bytes in
        let check : last ≡ written (place + check_place) (told ∷ []) twice = rw (all_bytes_one told) q in
        rw (e, ← c.check) (written_more image place (checked_words content b) (place + check_place) (told ∷ []) twice last (omega (arith, l)) (omega arith) checked check)

-- ---- an image, of which b blocks are written

module _ (content : ℕ → ℕ) (image : List ℕ) where
  abbrev pub blocks_in : ℕ → List ℕ
  blocks_in b = fronted (all_bytes (image_words content b)) image

  pub blocks_none : image ≡ blocks_in 0
  blocks_none = rw (image_none content) (sym (written_none image 0))

  module _ (b : ℕ) (now : List ℕ) (so_far : now ≡ blocks_in b) where
    pub blocks_length : block_bytes * b ≤ length image → length now ≡ length image
    blocks_length h = ap length so_far ∙ length_written image 0 (image_words content b) (omega (arith, length_image content b))

    pub blocks_more : (next : List ℕ) → block_bytes * b + block_bytes ≤ length image → next ≡ pasted (block_bytes * b) (all_bytes (block_of content b)) now → next ≡ blocks_in (b + 1)
    blocks_more next h p =
        let e : block_bytes * b ≡ word_bytes * (block_words * b) = omega arith in
        rw (add-one b, image_suc content b)
        (written_more image 0 (image_words content b) (block_words * b) (block_of content b) now next (omega (arith, length_image content b)) (omega (arith, length-block content b)) so_far (rw e at p))
