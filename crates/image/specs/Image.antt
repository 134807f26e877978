-- An image of an index: its content, laid out in blocks of bytes; how it is written, and how it is read.
use Rattle.std.specs.Prelude.{ℕ, ◌+◌, ◌-◌, ◌*◌, ◌/◌, ◌%◌, Bool, cond, ◌&&◌, ◌||◌, List, ◌∷◌, ◌++◌, eqb, leb, length, get_or, take, Result, Ok, Err}
use Rattle.laws.specs.Counting.{each, is_clear}
use Rattle.laws.specs.Stores.{zeros, filled, fronted}
use Rattle.refusal.specs.Answers.{Outcome, answered, refused, check}
use Rattle.refusal.specs.declared.Refusal.{Refusal}
use Rattle.refusal.specs.declared.Refusal.TheVariants.{UnfitHead, ShortOutput, UnfitLength, BadBlock, UnfitContent}
use Rattle.mixer.specs.Kinds.{kind_of}
use Rattle.head.specs.KindCheck.{check_kind}
use Rattle.head.specs.declared.Head.{Head}
use Rattle.head.specs.declared.Used.{Used}
use Rattle.head.specs.Index.{no_head}
use Rattle.head.specs.Layout.{bounded, used_of, used_by, used_words, used_samples, unused_clear, fit}
use Rattle.head.specs.Numbers.{head_numbers, numbers_of, head_of}
use Rattle.block.specs.Bytes.{all_bytes}
use Rattle.block.specs.Block.{block_content, block_bytes, blocks_for, image_words, first_bad, content_at}

-- ---- the content

-- The number that a content begins with is its form: what is written is of form 2. Form 1 is older, and has no kind.
abbrev pub form : ℕ
form = 2

abbrev pub older_form : ℕ
older_form = 1

abbrev pub is_form : ℕ → Bool
is_form f = eqb f form || eqb f older_form

-- where the head begins in the content, and how many of its first numbers a form leaves out: the older one the kind, which is 0 then
abbrev pub head_place : ℕ
head_place = 1

abbrev pub left_out : ℕ → ℕ
left_out f = cond (eqb f older_form) 1 0

-- in a content of a form, where the words of the levels begin, where the samples, and where the content ends
abbrev pub words_place : ℕ → ℕ
words_place f = head_place + (head_numbers - left_out f)

abbrev pub samples_place : ℕ → Used → ℕ
samples_place f used = words_place f + used.words

abbrev pub content_end : ℕ → Used → ℕ
content_end f used = samples_place f used + used.samples

-- how many blocks the image of an index takes
abbrev pub image_blocks : ℕ → Used → ℕ
image_blocks f used = blocks_for (content_end f used)

-- a content as it is written: the form, the numbers of a head, some words and some samples; 0 past its end
unfoldable pub content_of : Head → List ℕ → List ℕ → ℕ → ℕ
content_of head ws ss c = get_or (form ∷ (numbers_of head ++ (ws ++ ss))) c 0

-- the image of an index: of its words and samples, the content has those that its levels use
unfoldable pub image_of : Head → List ℕ → List ℕ → List ℕ
image_of head ws ss = all_bytes (image_words (content_of head (take (used_words head) ws) (take (used_samples head) ss)) (image_blocks form (used_by head)))

-- ---- writing

-- An index is written to the front of a byte store, and the blocks are counted: the checks in their order, which leave the store as it was.
unfoldable pub write_call : Head → List ℕ → List ℕ → List ℕ → Outcome (List ℕ)
write_call head ws ss image =
    check_kind (kind_of head.kind) (refused image) λ kind.
    check (fit head.count head.levels head.sizes (length ws) (length ss)) UnfitHead (refused image)
    (check (unused_clear head.levels head.sizes) UnfitContent (refused image)
    (check (leb (block_bytes * image_blocks form (used_by head)) (length image)) ShortOutput (refused image)
    (answered (image_blocks form (used_by head)) (fronted (image_of head ws ss) image))))

-- ---- reading

-- the fewest blocks that an image has
abbrev pub min_blocks : ℕ
min_blocks = 2

module _ (image : List ℕ) where
  -- how many blocks there are
  abbrev pub block_count : ℕ
  block_count = length image / block_bytes

  -- whether the length is one that an image can have: whole blocks, and enough of them
  abbrev pub length_fits : Bool
  length_fits = leb (block_bytes * min_blocks) (length image) && eqb (length image % block_bytes) 0

  -- the first block that is bad; as many as there are if none is
  abbrev pub bad_block : ℕ
  bad_block = first_bad image block_count

  -- n content words from place c on
  abbrev pub content_from : ℕ → ℕ → List ℕ
  content_from c n = each (λ i. content_at image (c + i)) n

  -- the form; the numbers of the head, of which those that the form leaves out are 0, and the head; the words and the samples
  abbrev pub form_in : ℕ
  form_in = content_at image 0

  abbrev pub numbers_in : List ℕ
  numbers_in = zeros (left_out form_in) ++ content_from head_place (head_numbers - left_out form_in)

  abbrev pub head_in : Head
  head_in = head_of numbers_in

  abbrev pub words_in : List ℕ
  words_in = content_from (words_place form_in) (used_words head_in)

  abbrev pub samples_in : List ℕ
  samples_in = content_from (samples_place form_in (used_by head_in)) (used_samples head_in)

  -- Whether the blocks hold an index, with these the numbers of the head in them: they keep their bounds and the unused sizes are 0, there are as many blocks
  -- as it takes, and what is past the content is 0.
  unfoldable pub holds_index : ℕ → ℕ → List ℕ → Bool
  holds_index count levels sizes =
      bounded count levels sizes
      && unused_clear levels sizes
      && eqb block_count (image_blocks form_in (used_of levels sizes))
      && is_clear (content_at image) (content_end form_in (used_of levels sizes)) (block_content * block_count)

-- the checks of the length and of the blocks
unfoldable pub block_checks : List ℕ → Result Unit Refusal
block_checks image =
    check (length_fits image) UnfitLength Err
    (check (eqb (bad_block image) (block_count image)) (BadBlock (bad_block image)) Err
    (Ok tt))

-- what a reader leaves: the head that it answers, and the stores
pub record ReadAfter : Type 0 where
  pub head : Head
  pub words : List ℕ
  pub samples : List ℕ

abbrev pub read_after : Head → List ℕ → List ℕ → ReadAfter
read_after head ws ss = record { head = head; words = ws; samples = ss }

-- the outcome of a result beside the stores: a refusal has a head of 0
abbrev pub read_of : Result Head Refusal → List ℕ → List ℕ → Outcome ReadAfter
read_of (Ok head) ws ss = answered 0 (read_after head ws ss)
read_of (Err why) ws ss = refused (read_after no_head ws ss) why

-- what comes after the checks of the blocks: the form, the kind, and what the content holds; then room
abbrev pub after_blocks : Result Unit Refusal → List ℕ → List ℕ → List ℕ → Outcome ReadAfter
after_blocks (Err why) image ws ss = refused (read_after no_head ws ss) why
after_blocks (Ok done) image ws ss =
    let as-they-were = refused (read_after no_head ws ss) in
    let head = head_in image in
    check (is_form (form_in image)) UnfitContent as-they-were
    (check_kind (kind_of head.kind) as-they-were λ kind.
    check (holds_index image head.count head.levels head.sizes) UnfitContent as-they-were
    (check (leb (used_words head) (length ws) && leb (used_samples head) (length ss)) ShortOutput as-they-were
    (answered 0 (read_after head (filled (words_in image) (length ws)) (filled (samples_in image) (length ss))))))

-- An image is read into a word and a sample store: the checks in their order, which leave the stores as they were and answer a head of 0; then the head,
-- and the words and samples at the front of the stores, with 0 past them.
unfoldable pub read_call : List ℕ → List ℕ → List ℕ → Outcome ReadAfter
read_call image ws ss = after_blocks (block_checks image) image ws ss
