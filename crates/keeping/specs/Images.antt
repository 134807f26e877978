-- What a user can rely on of images, said of the calls as they are promised: `write_call` and `read_call` are the answers and stores that `write` and `read`
-- leave.
use Rattle.std.specs.Prelude.{◌≡◌, ◌⊎◌, List, ℕ, ◌*◌, ◌/◌, ◌^◌, ◌≤◌, ◌<◌, Ok, Err, length, take}
use Rattle.bounds.specs.Bounds.{head_sizes}
use Rattle.laws.specs.Bits.{Words}
use Rattle.laws.specs.Stores.{filled, fronted, pasted}
use Rattle.refusal.specs.Answers.{Outcome, answered, refused}
use Rattle.refusal.specs.declared.Refusal.TheVariants.{ShortOutput, BadBlock, UnknownKind}
use Rattle.mixer.specs.Kinds.{kind_number, kind_of}
use Rattle.mixer.specs.declared.Kind.TheVariants.{Plain}
use Rattle.head.specs.declared.Head.{Head}
use Rattle.head.specs.Index.{no_head}
use Rattle.head.specs.Layout.{used_words, used_samples}
use Rattle.block.specs.Bytes.{word_bytes, bytes_of, word_at, Bytes}
use Rattle.block.specs.Block.{block_words, block_bytes, check_of, content_at}
use Rattle.block.specs.Differ.{DifferOnce}
use Rattle.image.specs.Image.{form, older_form, head_place, image_of, block_count, form_in, head_in, block_checks, write_call, read_after, read_call}
use Rattle.demands.specs.Rooms.{SameReads}

-- ---- what was written reads back

-- What the types of the code say of a head and stores: there are all the sizes, and each number of the stores is a word.
pub record Lent (head : Head) (ws ss : List ℕ) : Type 0 where
  pub all_sizes : length head.sizes ≡ head_sizes
  pub words : Words ws
  pub samples : Words ss

-- the blocks that a writer counts: the front of the store that it leaves
abbrev pub written_part : Outcome (List ℕ) → List ℕ
written_part written = take (block_bytes * written.value) written.after

-- An image that holds an index: it is of bytes, and is read into any stores.
pub record ReadsBack (head : Head) (ws ss image : List ℕ) : Type 0 where
  pub bytes : Bytes image
  -- with room for the used words and samples: the same head, and these at the front of the stores, with 0 past them
  pub with_room : (us vs : List ℕ) → used_words head ≤ length us → used_samples head ≤ length vs
      → read_call image us vs ≡ answered 0 (read_after head (filled (take (used_words head) ws) (length us)) (filled (take (used_samples head) ss) (length vs)))
  -- without: 11, and the stores as they were
  pub no_room : (us vs : List ℕ) → (length us < used_words head) ⊎ (length vs < used_samples head)
      → read_call image us vs ≡ refused (read_after no_head us vs) ShortOutput

-- ---- an accepted image

-- what was read of an image is written to a store
abbrev pub write_read : (image ws ss store : List ℕ) → Outcome (List ℕ)
write_read image ws ss store =
    let read = (read_call image ws ss).after in
    write_call read.head read.words read.samples store

-- the image of what was read of an image
abbrev pub image_read : (image ws ss : List ℕ) → List ℕ
image_read image ws ss =
    let read = (read_call image ws ss).after in
    image_of read.head read.words read.samples

-- What was read of an image gives `again` when it is written.
pub record Again (image ws ss again : List ℕ) : Type 0 where
  -- in a store that is as long
  pub as_long : (store : List ℕ) → length store ≡ length again → write_read image ws ss store ≡ answered (block_count again) again
  -- and in a longer one, the rest of which stays
  pub longer : (store : List ℕ) → length again ≤ length store → write_read image ws ss store ≡ answered (block_count again) (fronted again store)
  -- It is of the form that is written, and the same bytes where the first was of that form.
  pub in_form : form_in again ≡ form
  pub same_bytes : form_in image ≡ form → again ≡ image
  -- In any case it is read as the first is, into any stores.
  pub same_read : (us vs : List ℕ) → read_call again us vs ≡ read_call image us vs

-- an image with another word at place j
abbrev pub with_word : List ℕ → ℕ → ℕ → List ℕ
with_word image j v = pasted (word_bytes * j) (bytes_of v) image

-- With any one word changed, in any stores, it is refused with 14 and that word's block: the stores stay as they were.
abbrev pub ChangeFound : List ℕ → Type 0
ChangeFound image =
    (j v : ℕ) → j < length image / word_bytes → v < 2 ^ 64 → (v ≡ word_at image j → ⊥)
    → (us vs : List ℕ) → read_call (with_word image j v) us vs ≡ refused (read_after no_head us vs) (BadBlock (j / block_words))

-- ---- kinds

-- A number that no kind has is refused with 16, and all stores stay as they were.
pub record NoKindKept (number : ℕ) : Type 0 where
  -- by the writer, whatever else is wrong
  pub write : (head : Head) (ws ss store : List ℕ) → head.kind ≡ number → write_call head ws ss store ≡ refused store UnknownKind
  -- by the reader where the blocks are good and the form has a kind, whatever else they hold
  pub read : (image us vs : List ℕ) → block_checks image ≡ Ok tt → form_in image ≡ form → content_at image head_place ≡ number
      → read_call image us vs ≡ refused (read_after no_head us vs) UnknownKind

-- ---- together

pub record Images : Type 0 where
  -- What was written reads back.
  pub written : (head : Head) (ws ss store : List ℕ) → Lent head ws ss → (write_call head ws ss store).refusal ≡ 0
      → ReadsBack head ws ss (written_part (write_call head ws ss store))
  -- What is read then answers as what was written: every lookup and every row list is the same.
  pub same_answers : (head : Head) (ws ss store : List ℕ) → Lent head ws ss → (write_call head ws ss store).refusal ≡ 0
      → (us vs : List ℕ) → used_words head ≤ length us → used_samples head ≤ length vs
      → let read = (read_call (written_part (write_call head ws ss store)) us vs).after in
      SameReads head ws ss read.words read.samples
  -- An image that is accepted, in any stores, is written again as the image of what was read: the same bytes, or where it is of the older form one that is read
  -- as it is. And a change of any one word of it is found.
  pub again : (image ws ss : List ℕ) → Bytes image → (read_call image ws ss).refusal ≡ 0 → Again image ws ss (image_read image ws ss)
  pub change_found : (image ws ss : List ℕ) → Bytes image → (read_call image ws ss).refusal ≡ 0 → ChangeFound image
  -- A number that no kind has is refused; in the older form every image is of the plain kind.
  pub no_kind : (number : ℕ) → kind_of number ≡ Err UnknownKind → NoKindKept number
  pub older_plain : (image : List ℕ) → form_in image ≡ older_form → (head_in image).kind ≡ kind_number Plain
  -- Words that differ in exactly one place, such as words 0 to 62 of two blocks, have different checks.
  pub checks_differ : (us vs : List ℕ) → Words us → Words vs → DifferOnce us vs → check_of us ≡ check_of vs → ⊥
