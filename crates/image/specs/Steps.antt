-- The steps of writing and reading an image, and what each tells and leaves.
use Rattle.std.specs.Prelude.{ℕ, ◌+◌, ◌*◌, ◌≡◌, cond, List, eqb, Option, None, Some, Result, Ok, Err}
use Rattle.laws.specs.Counting.{each}
use Rattle.laws.specs.Stores.{pasted}
use Rattle.refusal.specs.declared.Refusal.{Refusal}
use Rattle.refusal.specs.declared.Refusal.TheVariants.{UnfitContent}
use Rattle.head.specs.declared.Used.{Used}
use Rattle.head.specs.Layout.{used_of}
use Rattle.block.specs.Bytes.{word_bytes, all_bytes}
use Rattle.block.specs.Block.{block_words, block_content, check_of, checked_words}
use Rattle.image.specs.Image.{form, older_form, content_of, holds_index}
use Rattle.image.specs.declared.reading.Form.{Form}
use Rattle.image.specs.declared.reading.Form.TheVariants.{Current, Older}
use Rattle.image.specs.declared.content.Content.{Content}

-- ---- writing

-- the content that the code's struct holds
abbrev pub content : Content → ℕ → ℕ
content c = content_of c.head.now c.words.now c.samples.now

-- the content of block b is written behind its number, and the check of both is told
pub record Contented (content : ℕ → ℕ) (b : ℕ) (image : List ℕ) (told : ℕ) (after : List ℕ) : Type 0 where
  pub bytes : after ≡ pasted (word_bytes * (block_words * b + 1)) (all_bytes (each (λ k. content (block_content * b + k)) block_content)) image
  pub check : told ≡ check_of (checked_words content b)

-- ---- reading

-- the number of each form, and the form that a number stands for: every other number is refused
abbrev pub form_number : Form → ℕ
form_number Current = form
form_number Older = older_form

unfoldable pub form_of : ℕ → Result Form Refusal
form_of number = cond (eqb number form) (Ok Current) (cond (eqb number older_form) (Ok Older) (Err UnfitContent))

-- what is found of an image, with these the numbers of the head in it: it holds an index, whose levels use so much, or none
unfoldable pub content_measured : List ℕ → ℕ → ℕ → List ℕ → Option Used
content_measured image count levels sizes = cond (holds_index image count levels sizes) (Some (used_of levels sizes)) None
