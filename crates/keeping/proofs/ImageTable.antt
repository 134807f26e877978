-- The images of the index of no ids, of one id and of three, what is read of them and of one of the older form, and what each check refuses; which antt computes. Their checks were computed apart.
-- Assumes nothing.
use mathlib.Core.Path.{◌≡◌, refl, ap, ◌∙◌}
use mathlib.Core.Bool.{Bool, ◌&&◌}
use mathlib.Core.List.{List, [], ◌∷◌, ◌++◌}
use Prim.Native.Nat.{ℕ}
use lib.Dec.{T, eqb}
use lib.ListN.{take, replicate}
use Rattle.bounds.specs.Bounds.{head_sizes}
use Rattle.laws.specs.Counting.{each, is_clear}
use Rattle.laws.specs.Stores.{zeros, filled}
use Rattle.laws.specs.Tables.{all}
use Rattle.mixer.specs.Kinds.{kind_of}
use Rattle.mixer.specs.Mixer.{mixed}
use Rattle.refusal.specs.Answers.{Outcome, answered}
use Rattle.head.specs.Layout.{bounded, fit}
use Rattle.block.specs.Bytes.{all_bytes, word_at}
use Rattle.block.specs.Block.{check_from, image_words, is_good, first_bad, content_at}
use Rattle.image.specs.Image.{content_of, image_of, write_call, holds_index, ReadAfter, read_after, read_call, block_checks}
use Rattle.demands.specs.Inputs.{three_head, three_left, none_head, none_left, one_head, one_left}
use Rattle.keeping.specs.Images.{image_read}
use Rattle.keeping.specs.Inputs.{block, none_image, one_image, three_image, older_three}

-- ---- written to a store of two blocks

pub none_written : write_call none_head none_left.words none_left.samples (zeros 1_024) ≡ answered 2 (all_bytes none_image)
unfolding write_call kind_of fit bounded is_clear image_of all_bytes image_words content_of each check_from mixed
none_written = refl

pub one_written : write_call one_head one_left.words one_left.samples (zeros 1_024) ≡ answered 2 (all_bytes one_image)
unfolding write_call kind_of fit bounded is_clear image_of all_bytes image_words content_of each check_from mixed
one_written = refl

-- and what is past them stays, in the index's stores and in the image's
pub three_written : write_call three_head (three_left.words ++ (7 ∷ [])) (three_left.samples ++ (7 ∷ [])) (replicate 1_026 9)
    ≡ answered 2 (all_bytes three_image ++ (9 ∷ 9 ∷ []))
unfolding write_call kind_of fit bounded is_clear image_of all_bytes image_words content_of each check_from mixed
three_written = refl

-- ---- read into stores of 9, one longer than is used

pub none_read : read_call (all_bytes none_image) (replicate 5 9) (replicate 2 9) ≡ answered 0 (read_after none_head (zeros 5) (zeros 2))
unfolding read_call kind_of block_checks first_bad is_good word_at content_at holds_index bounded is_clear all_bytes each check_from mixed
none_read = refl

pub one_read : read_call (all_bytes one_image) (replicate 5 9) (replicate 2 9) ≡ answered 0 (read_after one_head (filled one_left.words 5) (zeros 2))
unfolding read_call kind_of block_checks first_bad is_good word_at content_at holds_index bounded is_clear all_bytes each check_from mixed
one_read = refl

abbrev three_read : Outcome ReadAfter
three_read = answered 0 (read_after three_head (filled three_left.words 9) (filled three_left.samples 3))

pub three_read_lem : read_call (all_bytes three_image) (replicate 9 9) (replicate 3 9) ≡ three_read
unfolding read_call kind_of block_checks first_bad is_good word_at content_at holds_index bounded is_clear all_bytes each check_from mixed
three_read_lem = refl

-- of the older form, the same; and written again, it is of the form that is written
pub older_read : read_call (all_bytes older_three) (replicate 9 9) (replicate 3 9) ≡ three_read
unfolding read_call kind_of block_checks first_bad is_good word_at content_at holds_index bounded is_clear all_bytes each check_from mixed
older_read = refl

three_image_lem : image_of three_read.after.head three_read.after.words three_read.after.samples ≡ all_bytes three_image
unfolding image_of all_bytes image_words content_of each check_from mixed
three_image_lem = refl

pub older_again : image_read (all_bytes older_three) (replicate 9 9) (replicate 3 9) ≡ all_bytes three_image
older_again = ap (λ (r : Outcome ReadAfter). image_of r.after.head r.after.words r.after.samples) older_read ∙ three_image_lem

-- ---- one side of each line that is not above

-- bytes, read into stores of 4 words and a sample, give a refusal and its value
abbrev bytes_give : List ℕ → ℕ → ℕ → Bool
bytes_give bytes number value =
    let read = read_call bytes (zeros 4) (zeros 1) in
    eqb read.refusal number && eqb read.value value

-- the image of no ids, read into stores of so many places
abbrev room_gives : ℕ → ℕ → ℕ → Bool
room_gives words samples number = eqb (read_call (all_bytes none_image) (zeros words) (zeros samples)).refusal number

-- the blocks of the image of no ids, and others with right checks: block 0 of another form, and of a kind that is not known; block 1 with a 1 in the last place
abbrev block0 : List ℕ
block0 = block 0 (2 ∷ 0 ∷ 0 ∷ 1 ∷ 255 ∷ []) 0x349B_9DF1_613B_3DE0

abbrev block1 : List ℕ
block1 = block 1 [] 0x500D_6DC3_17C9_B17F

abbrev third_form : List ℕ
third_form = block 0 (3 ∷ 0 ∷ 0 ∷ 1 ∷ 255 ∷ []) 0xA2FF_CBCE_CE95_EA31

abbrev kind_one : List ℕ
kind_one = block 0 (2 ∷ 1 ∷ 0 ∷ 1 ∷ 255 ∷ []) 0xAEB2_5F56_B1FF_18E8

abbrev last_one : List ℕ
last_one = block 1 (zeros 61 ++ (1 ∷ [])) 0xC756_929D_1CFD_7D03

-- 13: a byte is missing. 14: block 1 has the number 0, with the check for it. 15: the form, or what is past the content. 16: the kind, before what is past the content. 11: a word is missing.
reads : T (all
    (bytes_give (take 1_023 (all_bytes none_image)) 13 0
    ∷ bytes_give (all_bytes (block0 ++ block 0 [] 0xA962_9C45_F0DA_71D8)) 14 1
    ∷ bytes_give (all_bytes (third_form ++ block1)) 15 0
    ∷ bytes_give (all_bytes (kind_one ++ block1)) 16 0
    ∷ bytes_give (all_bytes (kind_one ++ last_one)) 16 0
    ∷ bytes_give (all_bytes (block0 ++ last_one)) 15 0
    ∷ room_gives 3 1 11
    ∷ []))
unfolding read_call kind_of block_checks first_bad is_good word_at content_at holds_index bounded is_clear all_bytes each check_from mixed
reads = tt

-- a head of a kind and of no ids, with these sizes in one level, written from so many words to so many bytes
abbrev write_gives : ℕ → List ℕ → ℕ → ℕ → ℕ → Bool
write_gives kind sizes words bytes number =
    eqb (write_call (record { kind = kind; count = 0; levels = 1; sizes = filled sizes head_sizes }) (zeros words) (zeros 1) (zeros bytes)).refusal number

-- writing: 16 for the kind, 7 for a word too few, 15 for an unused size of 1, 11 for a byte too few, in this order
writes : T (all
    (write_gives 1 (255 ∷ 1 ∷ []) 3 1_023 16
    ∷ write_gives 0 (255 ∷ 1 ∷ []) 3 1_023 7
    ∷ write_gives 0 (255 ∷ 1 ∷ []) 4 1_023 15
    ∷ write_gives 0 (255 ∷ []) 4 1_023 11
    ∷ []))
unfolding write_call kind_of fit bounded is_clear image_of all_bytes image_words content_of each check_from mixed
writes = tt
