-- Good blocks of which one word is changed: its block is the first bad one. Assumes nothing.
use mathlib.Core.Path.{◌≡◌, sym, ap, ap₂, ◌∙◌}
use mathlib.Core.Bool.{true, false, ◌&&◌}
use mathlib.Core.List.{List}
use Prim.Native.Nat.{ℕ, ◌+◌, ◌*◌, ◌/◌, ◌%◌, ◌^◌, ◌<◌}
use native.Mathlib.Decide.{dec_lt}
use native.Mathlib.Omega.{arith}
use lib.Dec.{eqb, lit<}
use lib.ListN.{length, get_or, set, length-set, get_or-eq_default}
use lib.Seq.{get_or-set_same, get_or-set_other}
use Rattle.laws.specs.Bits.{Words}
use Rattle.laws.specs.Counting.{each}
use Rattle.laws.specs.Stores.{pasted}
use Rattle.laws.proofs.Chains.{each_at, each_same, length-each}
use Rattle.laws.proofs.Lists.{words_each, words_set}
use Rattle.laws.proofs.Cases.{Tri, lt, eq, gt, tri, refuted}
use Rattle.block.specs.Bytes.{word_bytes, bytes_of, all_bytes, word_at, Bytes}
use Rattle.block.specs.Block.{block_words, check_place, check_of, block_word, is_good, first_bad}
use Rattle.block.specs.Differ.{DifferOnce}
use Rattle.block.proofs.Blocks.{good_is, none_bad}
use Rattle.block.proofs.Checks.{bad_first}
use Rattle.block.proofs.Undone.{checks_differ}
use Rattle.block.proofs.Whole.{word_bytes_lem, bytes_set, bytes_back, word_lt}
use Rattle.block.proofs.Written.{length_all_bytes}

-- whether a block is good, its 64 words tell
good_same : (xs ys : List ℕ) (b : ℕ) → ((w : ℕ) → w < block_words → block_word xs b w ≡ block_word ys b w) → is_good xs b ≡ is_good ys b
unfolding is_good
good_same xs ys b e =
    ap₂ (λ (x : ℕ) (y : ℕ). eqb x b && eqb y (check_of (each (block_word xs b) check_place))) (e 0 (lit< tt)) (e check_place (lit< tt))
    ∙ ap (λ (l : List ℕ). eqb (block_word ys b 0) b && eqb (block_word ys b check_place) (check_of l)) (each_same _ _ check_place (λ w h. e w (omega arith)))

-- lists of numbers that differ once
each_differ : (f g : ℕ → ℕ) (n p : ℕ) → p < n → (f p ≡ g p → ⊥) → ((i : ℕ) → i < n → (i ≡ p → ⊥) → f i ≡ g i) → DifferOnce (each f n) (each g n)
each_differ f g n p h d e = record {
  as_long = length-each f n ∙ sym (length-each g n);
  place = p;
  within = rw (length-each f n) h;
  differ = λ q. d (sym (each_at f n p h) ∙ q ∙ each_at g n p h);
  elsewhere = λ i m. elim (dec_lt i n) [
    | yes l ↦ each_at f n i l ∙ e i l m ∙ sym (each_at g n i l)
    | no l ↦
        let past : (k : ℕ → ℕ) → get_or (each k n) i 0 ≡ 0 = λ k. get_or-eq_default (each k n) 0 (rw (length-each k n) (omega arith)) in
        past f ∙ sym (past g)
  ];
}

module _ (bytes : List ℕ) (small : Bytes bytes) (n : ℕ) (whole : length bytes ≡ word_bytes * (block_words * n))
    (good : (b : ℕ) → b < n → is_good bytes b ≡ true) (j v : ℕ) (within : j < block_words * n) (word : v < 2 ^ 64) (other : v ≡ word_at bytes j → ⊥) where
  abbrev changed : List ℕ
  changed = pasted (word_bytes * j) (bytes_of v) bytes

  abbrev words : List ℕ
  words = each (word_at bytes) (block_words * n)

  long : length words ≡ block_words * n
  long = length-each (word_at bytes) (block_words * n)

  set_long : length (set words j v) ≡ block_words * n
  set_long = length-set words j v ∙ long

  changed_is : changed ≡ all_bytes (set words j v)
  changed_is = ap (pasted (word_bytes * j) (bytes_of v)) (sym (bytes_back bytes small (block_words * n) whole)) ∙ bytes_set words j v (rw long within)

  pub length_changed : length changed ≡ length bytes
  length_changed = ap length changed_is ∙ length_all_bytes (set words j v) ∙ ap (λ (i : ℕ). word_bytes * i) set_long ∙ sym whole

  -- its words
  set_here : get_or (set words j v) j 0 ≡ v
  set_here = get_or-set_same words j v 0 (rw long within)

  set_else : (i : ℕ) → i < block_words * n → (i ≡ j → ⊥) → get_or (set words j v) i 0 ≡ word_at bytes i
  set_else i h m = get_or-set_other words j i v 0 m ∙ each_at (word_at bytes) (block_words * n) i h

  set_words : Words (set words j v)
  set_words = words_set words j v (words_each (word_at bytes) (block_words * n) (λ i h. word_lt bytes small i)) word

  word_changed : (i : ℕ) → i < block_words * n → word_at changed i ≡ get_or (set words j v) i 0
  word_changed i h = ap (λ (bs : List ℕ). word_at bs i) changed_is ∙ word_bytes_lem (set words j v) set_words i (rw set_long h)

  here : word_at changed j ≡ v
  here = word_changed j within ∙ set_here

  else_same : (i : ℕ) → i < block_words * n → (i ≡ j → ⊥) → word_at changed i ≡ word_at bytes i
  else_same i h m = word_changed i h ∙ set_else i h m

  -- its block
  abbrev b : ℕ
  b = j / block_words

  bad : is_good changed b ≡ false
  bad = refuted _ (λ g. go (tri (j % block_words) check_place) (good_is changed b g).1 (good_is bytes b (good b (omega arith))).1)
    where
      same : (w : ℕ) → w < block_words → (w ≡ j % block_words → ⊥) → block_word changed b w ≡ block_word bytes b w
      same w h m = else_same (block_words * b + w) (omega arith) (omega arith)

      at : block_words * b + j % block_words ≡ j
      at = omega arith

      go : Tri (j % block_words) check_place → block_word changed b check_place ≡ check_of (each (block_word changed b) check_place)
          → block_word bytes b check_place ≡ check_of (each (block_word bytes b) check_place) → ⊥
      go (lt l) p q =
          checks_differ _ _
          (words_each (block_word changed b) check_place (λ w h. rw (word_changed (block_words * b + w) (omega arith)) (set_words (block_words * b + w))))
          (words_each (block_word bytes b) check_place (λ w h. word_lt bytes small (block_words * b + w)))
          (each_differ (block_word changed b) (block_word bytes b) check_place (j % block_words) l (λ e. other (rw (at, here) at e)) (λ w h m. same w (omega arith) m))
          (sym p ∙ same check_place (lit< tt) (omega arith) ∙ q)
      go (eq l) p q =
          let e : block_word changed b check_place ≡ block_word bytes b check_place =
          p ∙ ap check_of (each_same _ _ check_place (λ w h. same w (omega arith) (omega arith))) ∙ sym q in
          other (rw (at, here) at (rw (← l) at e))
      go (gt l) p q = absurd (omega arith)

  pub changed_bad : first_bad changed n ≡ b
  changed_bad =
      bad_first changed b
      (none_bad changed b (λ c h. good_same changed bytes c (λ w l. else_same (block_words * c + w) (omega arith) (omega arith)) ∙ good c (omega arith)))
      n (omega arith) bad
