-- The content of an image as one list, and what is read of it: the head, the words and the samples. Assumes nothing.
use mathlib.Core.Path.{◌≡◌, refl, sym, ap, ap₂, ◌∙◌}
use mathlib.Core.Bool.{true}
use mathlib.Core.List.{List, [], ◌∷◌, ◌++◌, append_assoc}
use Prim.Native.Nat.{ℕ, ◌+◌, ◌-◌, ◌*◌, ◌^◌, ◌≤◌, ◌<◌}
use native.Mathlib.Decide.{dec_lt}
use native.Mathlib.Omega.{arith}
use lib.Dec.{lit<, lit≤}
use lib.ListN.{length, get_or, take, drop, length-append, get_or-eq_default}
use lib.Seq.{drop_at, drop-drop, take_all, take_at}
use Rattle.bounds.specs.Bounds.{head_sizes}
use Rattle.laws.specs.Bits.{Words}
use Rattle.laws.specs.Counting.{each}
use Rattle.laws.specs.Stores.{zeros}
use Rattle.laws.proofs.Chains.{each_at, each_same, each_split, each_part, length-each}
use Rattle.laws.proofs.Clear.{clear_known}
use Rattle.laws.proofs.Lists.{words_append, words_cons}
use Rattle.mixer.specs.declared.Kind.{Kind}
use Rattle.std.specs.Prelude.{Ok}
use Rattle.mixer.specs.Kinds.{kind_of}
use Rattle.mixer.proofs.KindNumbers.{known_word}
use Rattle.head.specs.declared.Head.{Head}
use Rattle.head.specs.Fit.{Bounded}
use Rattle.head.specs.Layout.{size_at, bounded, used_by, used_words, used_samples, unused_clear}
use Rattle.head.proofs.Fits.{bounded_known, measured_uses, few_used}
use Rattle.head.specs.Numbers.{before_sizes, head_numbers, numbers_of, head_of}
use Rattle.block.specs.Block.{block_content, content_at}
use Rattle.image.specs.Image.{form, head_place, left_out, words_place, samples_place, content_end, image_blocks, content_of, block_count, content_from, form_in, head_in, words_in, samples_in}
use Rattle.image.proofs.ReadCalls.{Passed}

-- ---- the content of an index

-- an index as an image keeps it: of its stores, the words and samples that its levels use
pub record Kept (head : Head) (ws ss : List ℕ) : Type 0 where
  pub all_sizes : length head.sizes ≡ head_sizes
  pub kind : Kind
  pub known : Ok kind ≡ kind_of head.kind
  pub bounds : bounded head.count head.levels head.sizes ≡ true
  pub unused : unused_clear head.levels head.sizes ≡ true
  pub all_words : length ws ≡ used_words head
  pub all_samples : length ss ≡ used_samples head
  pub words : Words ws
  pub samples : Words ss

-- the head, the words and the samples of an image are these
pub record Contains (image : List ℕ) (head : Head) (ws ss : List ℕ) : Type 0 where
  pub head_is : head_in image ≡ head
  pub words_are : words_in image ≡ ws
  pub samples_are : samples_in image ≡ ss

module _ (head : Head) (ws ss : List ℕ) (kept : Kept head ws ss) where
  abbrev content : List ℕ
  content = form ∷ (numbers_of head ++ (ws ++ ss))

  length_numbers : length (numbers_of head) ≡ head_numbers
  length_numbers = omega (arith, kept.all_sizes)

  length_content : length content ≡ content_end form (used_by head)
  length_content = omega (arith, length-append (numbers_of head) (ws ++ ss), length-append ws ss, length_numbers, kept.all_words, kept.all_samples)

  -- what is read of an image that has this content
  module _ (image : List ℕ) (reads : (c : ℕ) → c < content_end form (used_by head) → content_at image c ≡ content_of head ws ss c) where
    from_content : (c n : ℕ) → c + n ≤ content_end form (used_by head) → content_from image c n ≡ take n (drop c content)
    unfolding content_of
    from_content c n h = each_same _ _ n (λ i l. reads (c + i) (omega arith)) ∙ each_part content c n (rw length_content h)

    past_head : drop (words_place form) content ≡ ws ++ ss
    past_head = drop_at (numbers_of head) (ws ++ ss) head_numbers length_numbers

    pub content_begins : form_in image ≡ form
    unfolding content_of
    content_begins = reads 0 (omega arith)

    head_read : head_in image ≡ head
    head_read =
        ap (λ (f : ℕ). head_of (zeros (left_out f) ++ content_from image head_place (head_numbers - left_out f))) content_begins
        ∙ ap head_of (from_content head_place head_numbers (omega arith) ∙ take_at (numbers_of head) (ws ++ ss) head_numbers length_numbers)

    pub content_read : Contains image head ws ss
    content_read = record {
      head_is = head_read;
      words_are =
          ap₂ (λ (f : ℕ) (h : Head). content_from image (words_place f) (used_words h)) content_begins head_read
          ∙ from_content (words_place form) (used_words head) (omega arith)
          ∙ ap (take (used_words head)) past_head
          ∙ take_at ws ss (used_words head) kept.all_words;
      samples_are =
          ap₂ (λ (f : ℕ) (h : Head). content_from image (samples_place f (used_by h)) (used_samples h)) content_begins head_read
          ∙ from_content (samples_place form (used_by head)) (used_samples head) (omega arith)
          ∙ ap (take (used_samples head))
          (sym (drop-drop (used_words head) (words_place form) content) ∙ ap (drop (used_words head)) past_head ∙ drop_at ws ss (used_words head) kept.all_words)
          ∙ take_all (used_samples head) ss (omega (arith, kept.all_samples));
    }

  -- it is of words, and so few that the numbers of its blocks are words too
  in_bounds : Bounded head.count head.levels head.sizes
  in_bounds = bounded_known head.count head.levels head.sizes kept.bounds

  sizes_words : Words head.sizes
  sizes_words i = elim (dec_lt i head.levels) [
    | yes h ↦ omega (arith, in_bounds.size_most i h)
    | no h ↦ elim (dec_lt i head_sizes) [
      | yes l ↦ rw (clear_known (size_at head.sizes) head.levels head_sizes kept.unused i (omega arith) l) (lit< tt)
      | no l ↦ rw (get_or-eq_default head.sizes 0 {n = i} (omega (arith, kept.all_sizes))) (lit< tt)
    ]
  ]

  pub content_words : (c : ℕ) → content_of head ws ss c < 2 ^ 64
  unfolding content_of
  content_words =
      words_cons form (numbers_of head ++ (ws ++ ss)) (lit< tt)
      (words_append (numbers_of head) (ws ++ ss)
      (words_cons head.kind (head.count ∷ head.levels ∷ head.sizes) (known_word head.kind kept.kind (sym kept.known))
      (words_cons head.count (head.levels ∷ head.sizes) (omega (arith, in_bounds.few_ids))
      (words_cons head.levels head.sizes (omega (arith, in_bounds.few_levels)) sizes_words)))
      (words_append ws ss kept.words kept.samples))

  pub few_blocks : image_blocks form (used_by head) ≤ 2 ^ 64
  few_blocks =
      let few = few_used head.count head.levels head.sizes _ (measured_uses head.count head.levels head.sizes kept.bounds) in
      omega (arith, few.words, few.samples)

-- ---- the content of an image of the form that is written

-- a head is its numbers
numbers_back : (ns : List ℕ) → before_sizes ≤ length ns → numbers_of (head_of ns) ≡ ns
numbers_back [] h = absurd (omega arith)
numbers_back (n ∷ []) h = absurd (omega arith)
numbers_back (n ∷ m ∷ []) h = absurd (omega arith)
numbers_back (n ∷ m ∷ k ∷ ns) h = refl

module _ (image : List ℕ) (passed : Passed image) (begins : form_in image ≡ form) where
  abbrev end : ℕ
  end = content_end (form_in image) (used_by (head_in image))

  -- what was read makes it up
  parts : form ∷ (numbers_of (head_in image) ++ (words_in image ++ samples_in image)) ≡ each (content_at image) end
  unfolding each
  parts =
      let f = content_at image in
      let place = words_place (form_in image) in
      let past = words_in image ++ samples_in image in
      let n : numbers_of (head_in image) ≡ content_from image head_place head_numbers =
      ap (λ (k : ℕ). numbers_of (head_of (zeros (left_out k) ++ content_from image head_place (head_numbers - left_out k)))) begins
      ∙ numbers_back (content_from image head_place head_numbers) (rw (length-each (λ i. f (head_place + i)) head_numbers) (lit≤ tt)) in
      ap₂ (λ (x : ℕ) (ns : List ℕ). x ∷ (ns ++ past)) (sym begins) n
      ∙ sym (each_split f (samples_place (form_in image) (used_by (head_in image))) (used_samples (head_in image))
      ∙ ap (λ (l : List ℕ). l ++ samples_in image) (each_split f place (used_words (head_in image)))
      ∙ append_assoc (each f place) (words_in image) (samples_in image)
      ∙ ap (λ (l : List ℕ). l ++ past) (ap (λ (k : ℕ). each f (words_place k)) begins ∙ each_split f head_place head_numbers))

  pub content_known : (c : ℕ) → c < block_content * block_count image → content_of (head_in image) (words_in image) (samples_in image) c ≡ content_at image c
  unfolding content_of
  content_known c h =
      ap (λ (l : List ℕ). get_or l c 0) parts
      ∙ elim (dec_lt c end) [
        | yes l ↦ each_at (content_at image) end c l
        | no l ↦
            get_or-eq_default (each (content_at image) end) 0 (rw (length-each (content_at image) end) (omega arith))
            ∙ sym (clear_known (content_at image) end (block_content * block_count image) passed.holds.past c (omega arith) h)
      ]
