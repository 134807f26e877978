-- The blocks of a content, as words and as bytes, and the content of good blocks. Assumes nothing.
use mathlib.Core.Path.{◌≡◌, refl, sym, ap, ap₂, ◌∙◌}
use mathlib.Core.Bool.{Bool, true, false, cond, ◌&&◌}
use mathlib.Core.List.{List, [], ◌∷◌, ◌++◌}
use Prim.Native.Nat.{ℕ, zero, suc, ◌+◌, ◌*◌, ◌/◌, ◌%◌, ◌^◌, ◌≤◌, ◌<◌}
use native.Mathlib.Numerals.{add-one, one-add}
use native.Mathlib.Omega.{arith}
use borrow.Author.Tests.{eqb-true, eq-eqb}
use Rattle.std.specs.Prelude.{Option, None, Some, MatchOption}
use Rattle.std.specs.Option.{unwrap_or}
use lib.Dec.{eqb, lit<}
use lib.ListN.{length, get_or, get_or-append}
use lib.Pow.{pow_pos}
use lib.Seq.{get_or_at}
use Rattle.laws.specs.Bits.{Words}
use Rattle.laws.specs.Counting.{each}
use Rattle.laws.proofs.Chains.{chain_same, each-suc, each_at, each_split, each-chain, each_same, each_back, length-each}
use Rattle.laws.proofs.Lists.{words_append, words_chain, words_cons, words_each}
use Rattle.laws.proofs.Cases.{Tri, lt, eq, gt, tri, both}
use Rattle.block.specs.Bytes.{all_bytes, word_at}
use Rattle.block.specs.Block.{block_words, block_content, check_place, check_of, content_place, checked_words, block_of, image_words, block_word, is_good, first_bad, content_at}
use Rattle.block.proofs.Checks.{bad_none, good_more, bad_first}
use Rattle.block.proofs.Undone.{check-lt}
use Rattle.block.proofs.Whole.{word_bytes_lem}
use Rattle.block.proofs.Written.{length-block, length_image}

-- ---- the blocks of a content

module _ (content : ℕ → ℕ) where
  length_checked : (b : ℕ) → length (checked_words content b) ≡ check_place
  length_checked b = ap suc (length-each _ block_content)

  -- its words: first the checked ones, with the content from word 1 on, then the check
  block_checked : (b w : ℕ) → w < check_place → get_or (block_of content b) w 0 ≡ get_or (checked_words content b) w 0
  block_checked b w h = get_or-append (checked_words content b) _ 0 w (rw (length_checked b) h)

  block_content_lem : (b k : ℕ) → k < block_content → get_or (block_of content b) (1 + k) 0 ≡ content (block_content * b + k)
  block_content_lem b k h =
      ap (λ (w : ℕ). get_or (block_of content b) w 0) (one-add k) ∙ block_checked b (suc k) (omega arith) ∙ each_at (λ k. content (block_content * b + k)) block_content k h

  block-check : (b : ℕ) → get_or (block_of content b) check_place 0 ≡ check_of (checked_words content b)
  block-check b = get_or_at (checked_words content b) _ [] 0 check_place (length_checked b)

  module _ (n : ℕ) where
    -- the words of the blocks, by their place
    placed : image_words content n ≡ each (λ i. get_or (block_of content (i / block_words)) (i % block_words) 0) (block_words * n)
    unfolding image_words
    placed =
        chain_same _ _ n
        (λ b h.
        sym (each_back (block_of content b) block_words (length-block content b))
        ∙ each_same _ _ block_words
        (λ w l.
        let p : b ≡ (block_words * b + w) / block_words = omega arith in
        let q : w ≡ (block_words * b + w) % block_words = omega arith in
        ap₂ (λ (x y : ℕ). get_or (block_of content x) y 0) p q))
        ∙ sym (each-chain _ block_words n)

    image_at_lem : (b w : ℕ) → b < n → w < block_words → get_or (image_words content n) (block_words * b + w) 0 ≡ get_or (block_of content b) w 0
    image_at_lem b w h l =
        let p : (block_words * b + w) / block_words ≡ b = omega arith in
        let q : (block_words * b + w) % block_words ≡ w = omega arith in
        ap (λ (ws : List ℕ). get_or ws (block_words * b + w) 0) placed ∙ each_at _ (block_words * n) (block_words * b + w) (omega arith)
        ∙ ap₂ (λ (x y : ℕ). get_or (block_of content x) y 0) p q

    -- of words, if the content is and the numbers of the blocks are
    module _ (small : (c : ℕ) → content c < 2 ^ 64) (few : n ≤ 2 ^ 64) where
      pub image_words_lem : Words (image_words content n)
      unfolding image_words
      image_words_lem =
          words_chain (block_of content) n
          (λ b h.
          let check = check_of (checked_words content b) in
          words_append (checked_words content b) (check ∷ [])
          (words_cons b (each (λ k. content (block_content * b + k)) block_content) (omega arith) (words_each _ block_content (λ k l. small (block_content * b + k))))
          (words_cons check [] (check-lt 0 (checked_words content b) (pow_pos 64)) (λ k. pow_pos 64)))

      abbrev image : List ℕ
      image = all_bytes (image_words content n)

      -- read from the bytes
      block_word_lem : (b w : ℕ) → b < n → w < block_words → block_word image b w ≡ get_or (block_of content b) w 0
      block_word_lem b w h l = word_bytes_lem (image_words content n) image_words_lem (block_words * b + w) (rw (length_image content n) (omega arith)) ∙ image_at_lem b w h l

      pub all_good : (b : ℕ) → b < n → is_good image b ≡ true
      unfolding is_good
      all_good b h =
          let checked : each (block_word image b) check_place ≡ checked_words content b =
          each_same _ _ check_place (λ w l. block_word_lem b w h (omega arith) ∙ block_checked b w l) ∙ each_back (checked_words content b) check_place (length_checked b) in
          rw (
            eq-eqb (block_word image b 0) b (block_word_lem b 0 h (lit< tt)),
            eq-eqb (block_word image b check_place) (check_of (each (block_word image b) check_place))
                (block_word_lem b check_place h (lit< tt) ∙ block-check b ∙ ap check_of (sym checked)),
          )

      pub content_back : (c : ℕ) → c < block_content * n → content_at image c ≡ content c
      unfolding content_at
      content_back c h =
          let b = c / block_content in
          let k = c % block_content in
          let e : block_content * b + k ≡ c = omega arith in
          block_word_lem b (1 + k) (omega arith) (omega arith) ∙ block_content_lem b k (omega arith) ∙ ap content e

-- only the content that the blocks have room for counts
pub image_same : (f g : ℕ → ℕ) (n : ℕ) → ((c : ℕ) → c < block_content * n → f c ≡ g c) → image_words f n ≡ image_words g n
unfolding image_words
image_same f g n e =
    chain_same _ _ n
    (λ b h. ap (λ (l : List ℕ). (b ∷ l) ++ (check_of (b ∷ l) ∷ [])) (each_same _ _ block_content (λ k q. e (block_content * b + k) (omega arith))))

-- ---- good blocks

module _ (bytes : List ℕ) where
  pub good_is : (b : ℕ) → is_good bytes b ≡ true → (block_word bytes b 0 ≡ b) × (block_word bytes b check_place ≡ check_of (each (block_word bytes b) check_place))
  unfolding is_good
  good_is b g = let s = both _ _ g in (eqb-true _ _ s.0, eqb-true _ _ s.1)

  pub none_bad : (n : ℕ) → ((b : ℕ) → b < n → is_good bytes b ≡ true) → first_bad bytes n ≡ n
  none_bad zero g = bad_none bytes
  none_bad (suc n) g = ap (first_bad bytes) (sym (add-one n)) ∙ good_more bytes n (none_bad n (λ b h. g b (omega arith))) (g n (omega arith)) ∙ add-one n

  -- what a search for the first that is not good comes to
  pub bad_is : (n : ℕ) (found : Option ℕ)
      → MatchOption found ((k : ℕ) → 0 ≤ k → k < n → is_good bytes k ≡ true) (λ b. (0 ≤ b) × (b < n) × (is_good bytes b ≡ false) × ((k : ℕ) → 0 ≤ k → k < b → is_good bytes k ≡ true))
      → unwrap_or found n ≡ first_bad bytes n
  bad_is n None g = sym (none_bad n (λ b h. g b (omega arith) h))
  bad_is n (Some b) g = sym (bad_first bytes b (none_bad b (λ k h. g.3 k (omega arith) h)) n g.1 g.2)

  bad_le : (n : ℕ) → first_bad bytes n ≤ n
  unfolding first_bad
  bad_le zero = omega arith
  bad_le (suc n) = go (eqb (first_bad bytes n) n && is_good bytes n) (bad_le n)
    where
      go : (t : Bool) → first_bad bytes n ≤ n → cond t (suc n) (first_bad bytes n) ≤ suc n
      go true h = omega arith
      go false h = omega arith

  -- each block before the first bad one is good
  pub good_known : (n : ℕ) → first_bad bytes n ≡ n → (b : ℕ) → b < n → is_good bytes b ≡ true
  unfolding first_bad
  good_known zero e b h = absurd (omega arith)
  good_known (suc n) e b h = go (eqb (first_bad bytes n) n && is_good bytes n) refl e (good_known n)
    where
      go : (t : Bool) → eqb (first_bad bytes n) n && is_good bytes n ≡ t → cond t (suc n) (first_bad bytes n) ≡ suc n
          → (first_bad bytes n ≡ n → (b : ℕ) → b < n → is_good bytes b ≡ true) → is_good bytes b ≡ true
      go true f q r = let s = both _ _ f in pick (tri b n) (r (eqb-true _ _ s.0)) s.1
        where
          pick : Tri b n → ((b : ℕ) → b < n → is_good bytes b ≡ true) → is_good bytes n ≡ true → is_good bytes b ≡ true
          pick (lt l) r g = r b l
          pick (eq l) r g = rw l g
          pick (gt l) r g = absurd (omega arith)
      go false f q r = absurd (omega (arith, bad_le n))

  -- a good block is that of the content
  block_known : (b : ℕ) → is_good bytes b ≡ true → each (block_word bytes b) block_words ≡ block_of (content_at bytes) b
  unfolding content_at each
  block_known b g =
      let s = good_is b g in
      let checked : each (block_word bytes b) check_place ≡ checked_words (content_at bytes) b =
      each_split (block_word bytes b) 1 block_content
      ∙ ap₂ (λ (x : ℕ) (l : List ℕ). x ∷ l) s.0
      (each_same _ _ block_content
      (λ k h.
      let p : block_words * b + (1 + k) ≡ content_place (block_content * b + k) = omega arith in
      ap (word_at bytes) p)) in
      each-suc (block_word bytes b) check_place ∙ ap₂ (λ (l : List ℕ) (x : ℕ). l ++ (x ∷ [])) checked (s.1 ∙ ap check_of checked)

  pub image_known : (n : ℕ) → ((b : ℕ) → b < n → is_good bytes b ≡ true) → each (word_at bytes) (block_words * n) ≡ image_words (content_at bytes) n
  unfolding image_words
  image_known n g = each-chain (word_at bytes) block_words n ∙ chain_same _ _ n (λ b h. block_known b (g b h))
