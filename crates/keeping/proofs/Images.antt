-- What was written reads back, and answers as it did; an accepted image is the same bytes when it is written again, or of the older form one that is read as it is; and one changed word is found.
-- Assumes nothing.
use mathlib.Core.Path.{◌≡◌, refl, sym, ap, ap₂, subst, ◌∙◌}
use mathlib.Core.Bool.{true, false, ◌&&◌, and-false}
use mathlib.Core.Logic.{◌⊎◌, ⊎_elim}
use mathlib.Core.List.{List, ◌++◌, append-nil}
use Prim.Native.Nat.{ℕ, ◌-◌, ◌*◌, ◌/◌, ◌%◌, ◌^◌, ◌≤◌, ◌<◌}
use native.Mathlib.Omega.{arith}
use borrow.Author.Tests.{eqb-true, leb-true, le-leb, lt-leb}
use lib.Dec.{eqb, leb}
use lib.ListN.{length, take, drop, drop_of_length-le, length-drop, get_or-append}
use lib.Seq.{take_at, length-take-le, get_or-take}
use Rattle.laws.specs.Counting.{is_clear}
use Rattle.laws.specs.Stores.{zeros, filled, fronted}
use Rattle.laws.proofs.Chains.{length-each}
use Rattle.laws.proofs.Cases.{both}
use Rattle.laws.proofs.Clear.{is_clear_lem}
use Rattle.laws.proofs.Lists.{words_each, words_take}
use Rattle.mixer.specs.declared.Kind.{Kind}
use Rattle.std.specs.Prelude.{Result, Ok, Err}
use Rattle.refusal.specs.declared.Refusal.{Refusal}
use Rattle.mixer.specs.Kinds.{kind_of}
use Rattle.refusal.specs.Answers.{Outcome, answered, refused, check}
use Rattle.refusal.specs.declared.Refusal.TheVariants.{UnfitHead, ShortOutput, BadBlock, UnfitContent}
use Rattle.refusal.proofs.Apart.{not_none}
use Rattle.head.specs.declared.Head.{Head}
use Rattle.head.specs.Fit.{Fit}
use Rattle.head.specs.Index.{no_head}
use Rattle.head.specs.Layout.{used_by, used_words, used_samples, fit, unused_clear}
use Rattle.head.specs.Numbers.{before_sizes}
use Rattle.refusal.proofs.Passed.{check_passed}
use Rattle.head.proofs.KindPassed.{kind_passed}
use Rattle.head.proofs.Fits.{bounded_is, measured_uses, fit_known}
use Rattle.head.proofs.Indexes.{length-filled}
use Rattle.block.specs.Bytes.{word_bytes, all_bytes, Bytes}
use Rattle.block.specs.Block.{block_words, block_content, block_bytes, content_place, image_words, is_good, first_bad, content_at}
use Rattle.block.proofs.Blocks.{all_good, content_back, image_same, none_bad, good_known, image_known}
use Rattle.block.proofs.Changed.{length_changed, changed_bad}
use Rattle.block.proofs.Undone.{checks_differ}
use Rattle.block.proofs.Whole.{bytes_small, bytes_back, word_lt}
use Rattle.block.proofs.Written.{length_all_bytes, length_image}
use Rattle.head.specs.Fit.{used_fits}
use Rattle.image.specs.Image.{form, is_form, content_end, image_blocks, content_of, image_of, write_call, block_checks}
use Rattle.image.specs.Image.{min_blocks, block_count, bad_block, form_in, numbers_in, head_in, words_in, samples_in, holds_index, ReadAfter, read_after, after_blocks, read_call}
use Rattle.image.proofs.ContentWords.{content_none}
use Rattle.image.proofs.ReadCalls.{length_numbers, bad_block_lem, good_blocks, blocks_passed, Holds, Passed, holds_known, read_refused, roomy}
use Rattle.image.proofs.WriteCalls.{image_written}
use Rattle.demands.specs.Rooms.{SameFront, SameReads}
use Rattle.demands.proofs.Used.{same_reads}
use Rattle.keeping.proofs.ImageKinds.{no_kind_kept, older_plain}
use Rattle.keeping.specs.Images.{Lent, written_part, ReadsBack, write_read, image_read, Again, with_word, ChangeFound, Images}
use Rattle.keeping.proofs.Contents.{Kept, Contains, content_begins, content_read, content_words, few_blocks, content_known}

-- ---- an image that passes the checks, by what it contains

-- what is read, by the room of the stores
abbrev read_into : (head : Head) (words samples us vs : List ℕ) → Outcome ReadAfter
read_into head words samples us vs =
    check (leb (used_words head) (length us) && leb (used_samples head) (length vs)) ShortOutput (refused (read_after no_head us vs))
    (answered 0 (read_after head (filled words (length us)) (filled samples (length vs))))

room_short : (head : Head) (us vs : List ℕ) → (length us < used_words head) ⊎ (length vs < used_samples head)
    → leb (used_words head) (length us) && leb (used_samples head) (length vs) ≡ false
room_short head us vs =
    ⊎_elim (λ h. rw (lt-leb (used_words head) (length us) h))
    (λ h. rw (lt-leb (used_samples head) (length vs) h) (and-false (leb (used_words head) (length us))))

read_contained : (image : List ℕ) → Passed image → (head : Head) (words samples : List ℕ) → Contains image head words samples
    → (us vs : List ℕ) → read_call image us vs ≡ read_into head words samples us vs
read_contained image passed head words samples c us vs =
    sym (roomy image us vs passed _ _ refl refl)
    ∙ ap (λ (h : Head). read_into h (words_in image) (samples_in image) us vs) c.head_is
    ∙ ap₂ (λ (ws ss : List ℕ). read_into head ws ss us vs) c.words_are c.samples_are

-- ---- an index that an image keeps

module _ (head : Head) (words samples : List ℕ) where
  abbrev n : ℕ
  n = image_blocks form (used_by head)

  abbrev content : ℕ → ℕ
  content = content_of head words samples

  abbrev bytes : List ℕ
  bytes = all_bytes (image_words content n)

  long : length bytes ≡ block_bytes * n
  long = length_all_bytes (image_words content n) ∙ omega (arith, length_image content n)

  blocks_are : block_count bytes ≡ n
  blocks_are = omega (arith, long)

  module _ (kept : Kept head words samples) where
    small : (c : ℕ) → content c < 2 ^ 64
    small = content_words head words samples kept

    few : n ≤ 2 ^ 64
    few = few_blocks head words samples kept

    -- all blocks are good,
    good : Ok tt ≡ block_checks bytes
    good =
        good_blocks bytes (omega (arith, long)) (omega (arith, long)) (bad_block bytes) refl
        (ap (first_bad bytes) blocks_are ∙ none_bad bytes n (all_good content n small few) ∙ sym blocks_are)

    -- they hold the index,
    reads : (c : ℕ) → c < block_content * n → content_at bytes c ≡ content c
    reads = content_back content n small few

    begins : form_in bytes ≡ form
    begins = content_begins head words samples kept bytes (λ c l. reads c (omega arith))

    contains : Contains bytes head words samples
    contains = content_read head words samples kept bytes (λ c l. reads c (omega arith))

    past : is_clear (content_at bytes) (content_end form (used_by head)) (block_content * block_count bytes) ≡ true
    past =
        is_clear_lem (content_at bytes) (content_end form (used_by head)) (block_content * block_count bytes)
        (λ c m l.
        reads c (omega (arith, blocks_are))
        ∙ sym (content_none head kept.all_sizes words samples c (omega arith) (omega (arith, kept.all_words)) (omega (arith, kept.all_words, kept.all_samples))))

    passes : Passed bytes
    passes = record {
      good = good;
      form = ap is_form begins;
      kind = kept.kind;
      known = kept.known ∙ ap (λ (k : Head). kind_of k.kind) (sym contains.head_is);
      holds =
          subst (λ (k : Head). Holds bytes k.count k.levels k.sizes) (sym contains.head_is) (record {
            bounds = kept.bounds;
            unused = kept.unused;
            blocks = blocks_are ∙ ap (λ (f : ℕ). image_blocks f (used_by head)) (sym begins);
            past = ap (λ (f : ℕ). is_clear (content_at bytes) (content_end f (used_by head)) (block_content * block_count bytes)) begins ∙ past;
          });
    }

    -- so it is read
    index_read : (us vs : List ℕ) → read_call bytes us vs ≡ read_into head words samples us vs
    index_read = read_contained bytes passes head words samples contains

-- ---- an index that is written

-- What is known of it.
record Written (head : Head) (ws ss store : List ℕ) : Type 0 where
  pub kind : Kind
  pub known : Ok kind ≡ kind_of head.kind
  pub fits : Fit head.count head.levels head.sizes (length ws) (length ss)
  pub unused : unused_clear head.levels head.sizes ≡ true
  pub left : write_call head ws ss store ≡ answered (image_blocks form (used_by head)) (fronted (image_of head ws ss) store)

written_known : (head : Head) (ws ss store : List ℕ) → (write_call head ws ss store).refusal ≡ 0 → Written head ws ss store
unfolding write_call
written_known head ws ss store e =
    let t₀ = kind_passed (kind_of head.kind) store _ e in
    let t₁ = check_passed (fit head.count head.levels head.sizes (length ws) (length ss)) UnfitHead store _ t₀.2 in
    let t₂ = check_passed (unused_clear head.levels head.sizes) UnfitContent store _ t₁.1 in
    let t₃ = check_passed (leb (block_bytes * image_blocks form (used_by head)) (length store)) ShortOutput store _ t₂.1 in
    record { kind = t₀.0; known = sym t₀.1; fits = fit_known _ _ _ _ _ t₁.0; unused = t₂.0; left = rw (t₀.1, t₁.0, t₂.0, t₃.0) }

module _ (head : Head) (ws ss store : List ℕ) (lent : Lent head ws ss) (w : Written head ws ss store) where
  written_kept : Kept head (take (used_words head) ws) (take (used_samples head) ss)
  written_kept = record {
    all_sizes = lent.all_sizes;
    kind = w.kind;
    known = w.known;
    bounds = bounded_is _ _ _ w.fits.bounds;
    unused = w.unused;
    all_words = length-take-le (used_words head) ws w.fits.word_room;
    all_samples = length-take-le (used_samples head) ss w.fits.sample_room;
    words = words_take (used_words head) ws lent.words;
    samples = words_take (used_samples head) ss lent.samples;
  }

  reads_back : ReadsBack head ws ss (image_of head ws ss)
  unfolding image_of
  reads_back =
      let words = take (used_words head) ws in
      let samples = take (used_samples head) ss in
      let read = index_read head words samples written_kept in
      record {
        bytes = bytes_small (image_words (content_of head words samples) (image_blocks form (used_by head)));
        with_room = λ us vs p q. read us vs ∙ rw (le-leb (used_words head) (length us) p, le-leb (used_samples head) (length vs) q);
        no_room = λ us vs d. read us vs ∙ rw (room_short head us vs d);
      }

written_back : (head : Head) (ws ss store : List ℕ) → Lent head ws ss → (write_call head ws ss store).refusal ≡ 0
    → ReadsBack head ws ss (written_part (write_call head ws ss store))
unfolding image_of
written_back head ws ss store lent e =
    let w = written_known head ws ss store e in
    let image = image_of head ws ss in
    let is : written_part (write_call head ws ss store) ≡ image =
    ap written_part w.left ∙ take_at image (drop (length image) store) _ (long head (take (used_words head) ws) (take (used_samples head) ss)) in
    rw is (reads_back head ws ss store lent w)

-- ---- an image that is read

-- What is known of it.
record Accepted (image us vs : List ℕ) : Type 0 where
  pub whole : length image ≡ block_bytes * block_count image
  pub some : min_blocks ≤ block_count image
  pub good_blocks : (b : ℕ) → b < block_count image → is_good image b ≡ true
  pub passed : Passed image
  pub word_room : used_words (head_in image) ≤ length us
  pub sample_room : used_samples (head_in image) ≤ length vs
  pub left : read_call image us vs ≡ answered 0 (read_after (head_in image) (filled (words_in image) (length us)) (filled (samples_in image) (length vs)))

blocks_done : (checked : Result Unit Refusal) (image us vs : List ℕ) → (after_blocks checked image us vs).refusal ≡ 0 → checked ≡ Ok tt
blocks_done (Err why) image us vs e = absurd (not_none why e)
blocks_done (Ok tt) image us vs e = refl

accepted_known : (image us vs : List ℕ) → (read_call image us vs).refusal ≡ 0 → Accepted image us vs
unfolding read_call
accepted_known image us vs e =
    let stays = read_after no_head us vs in
    let head = head_in image in
    let d = blocks_done (block_checks image) image us vs e in
    let t = blocks_passed image (sym d) in
    let t₁ = check_passed (is_form (form_in image)) UnfitContent stays _ (rw d at e) in
    let t₂ = kind_passed (kind_of head.kind) stays _ t₁.1 in
    let t₃ = check_passed (holds_index image head.count head.levels head.sizes) UnfitContent stays _ t₂.2 in
    let t₄ = check_passed (leb (used_words head) (length us) && leb (used_samples head) (length vs)) ShortOutput stays _ t₃.1 in
    let fits = both (leb (block_bytes * min_blocks) (length image)) (eqb (length image % block_bytes) 0) t.0 in
    let long = leb-true (block_bytes * min_blocks) (length image) fits.0 in
    let even = eqb-true (length image % block_bytes) 0 fits.1 in
    let room = both (leb (used_words head) (length us)) (leb (used_samples head) (length vs)) t₄.0 in
    record {
      whole = omega (arith, even);
      some = omega (arith, long);
      good_blocks = good_known image (block_count image) t.1;
      passed = record { good = sym d; form = t₁.0; kind = t₂.0; known = sym t₂.1; holds = holds_known image _ _ _ t₃.0 };
      word_room = leb-true _ _ room.0;
      sample_room = leb-true _ _ room.1;
      left = rw (d, t₁.0, t₂.1, t₃.0, t₄.0);
    }

-- ---- written again

module _ (image us vs : List ℕ) (small_bytes : Bytes image) (known : Accepted image us vs) where
  abbrev head : Head
  head = head_in image

  content_lt : (c : ℕ) → content_at image c < 2 ^ 64
  unfolding content_at
  content_lt c = word_lt image small_bytes (content_place c)

  read_kept : Kept head (words_in image) (samples_in image)
  read_kept = record {
    all_sizes = length-drop before_sizes (numbers_in image) ∙ omega (arith, length_numbers image);
    kind = known.passed.kind;
    known = known.passed.known;
    bounds = known.passed.holds.bounds;
    unused = known.passed.holds.unused;
    all_words = length-each _ (used_words head);
    all_samples = length-each _ (used_samples head);
    words = words_each _ (used_words head) (λ i h. content_lt _);
    samples = words_each _ (used_samples head) (λ i h. content_lt _);
  }

  -- the image of what was read
  abbrev ws : List ℕ
  ws = filled (words_in image) (length us)

  abbrev ss : List ℕ
  ss = filled (samples_in image) (length vs)

  abbrev again : List ℕ
  again = bytes head (words_in image) (samples_in image)

  again_is : image_of head ws ss ≡ again
  unfolding image_of
  again_is =
      ap₂ (λ (x y : List ℕ). bytes head x y)
      (take_at (words_in image) (zeros (length us - length (words_in image))) (used_words head) read_kept.all_words)
      (take_at (samples_in image) (zeros (length vs - length (samples_in image))) (used_samples head) read_kept.all_samples)

  image_is : image_read image us vs ≡ again
  image_is = ap (λ (r : Outcome ReadAfter). image_of r.after.head r.after.words r.after.samples) known.left ∙ again_is

  fits_own : used_fits (used_by head) (length ws) (length ss) ≡ true
  fits_own =
      rw (
        length-filled (words_in image) (length us) (rw read_kept.all_words known.word_room),
        length-filled (samples_in image) (length vs) (rw read_kept.all_samples known.sample_room),
        le-leb (used_words head) (length us) known.word_room,
        le-leb (used_samples head) (length vs) known.sample_room,
      )

  written : (store : List ℕ) → length again ≤ length store → write_read image us vs store ≡ answered (block_count again) (fronted again store)
  unfolding image_of
  written store h =
      ap (λ (r : Outcome ReadAfter). write_call r.after.head r.after.words r.after.samples store) known.left
      ∙ sym (image_written head ws ss store known.passed.kind known.passed.known (used_by head) (measured_uses _ _ _ known.passed.holds.bounds)
      fits_own
      known.passed.holds.unused (image_blocks form (used_by head)) refl (omega (arith, long head (words_in image) (samples_in image))) (fronted again store)
      (ap (λ (bs : List ℕ). fronted bs store) (sym again_is)))
      ∙ ap (λ (m : ℕ). answered m (fronted again store)) (sym (blocks_are head (words_in image) (samples_in image)))

  -- of the form that is written, what was read makes up the content, so the image
  same_bytes : form_in image ≡ form → again ≡ image
  same_bytes e =
      let b : image_blocks form (used_by head) ≡ block_count image = sym (known.passed.holds.blocks ∙ ap (λ (f : ℕ). image_blocks f (used_by head)) e) in
      ap (λ (m : ℕ). all_bytes (image_words (content_of head (words_in image) (samples_in image)) m)) b
      ∙ ap all_bytes
      (image_same _ _ (block_count image) (content_known image known.passed e) ∙ sym (image_known image (block_count image) known.good_blocks))
      ∙ bytes_back image small_bytes (block_words * block_count image) (omega (arith, known.whole))

  written_again : Again image us vs (image_read image us vs)
  written_again =
      rw image_is (record {
        longer = written;
        as_long = λ store l.
            written store (omega arith)
            ∙ ap (λ (past : List ℕ). answered (block_count again) (again ++ past)) (drop_of_length-le store {i = length again} (omega arith))
            ∙ ap (answered (block_count again)) (append-nil again);
        in_form = begins head (words_in image) (samples_in image) read_kept;
        same_bytes = same_bytes;
        same_read = λ xs ys.
            index_read head (words_in image) (samples_in image) read_kept xs ys
            ∙ sym (read_contained image known.passed head (words_in image) (samples_in image) (record { head_is = refl; words_are = refl; samples_are = refl }) xs ys);
      })

-- ---- one word changed

change_found : (image ws ss : List ℕ) → Bytes image → (read_call image ws ss).refusal ≡ 0 → ChangeFound image
change_found image ws ss small e j v h word other us vs =
    let a = accepted_known image ws ss e in
    let n = block_count image in
    let b = j / block_words in
    let changed = with_word image j v in
    let w : length image ≡ word_bytes * (block_words * n) = omega (arith, a.whole) in
    let l : j < block_words * n = omega (arith, w) in
    let m : length changed ≡ length image = length_changed image small n w a.good_blocks j v l word other in
    let bad : first_bad changed n ≡ b = changed_bad image small n w a.good_blocks j v l word other in
    sym (read_refused changed us vs (BadBlock b)
    (bad_block_lem changed (omega (arith, a.whole, a.some)) (omega (arith, a.whole)) b (sym bad ∙ ap (λ (i : ℕ). first_bad changed (i / block_bytes)) (sym m))
    (omega arith)))

-- ---- what is read answers as what was written

filled_front : (n room : ℕ) (ws : List ℕ) → n ≤ length ws → n ≤ room → SameFront n ws (filled (take n ws) room)
filled_front n room ws h k =
    let l : length (take n ws) ≡ n = length-take-le n ws h in
    record {
      in_first = h;
      in_second = omega (arith, length-filled (take n ws) room (omega arith));
      agree = λ i q. sym (get_or-append (take n ws) _ 0 i (omega arith) ∙ get_or-take n ws i 0 q);
    }

same_answers : (head : Head) (ws ss store : List ℕ) → Lent head ws ss → (write_call head ws ss store).refusal ≡ 0
    → (us vs : List ℕ) → used_words head ≤ length us → used_samples head ≤ length vs
    → let read = (read_call (written_part (write_call head ws ss store)) us vs).after in
    SameReads head ws ss read.words read.samples
same_answers head ws ss store lent e us vs p q =
    let back = (written_back head ws ss store lent e).with_room us vs p q in
    let fits = (written_known head ws ss store e).fits in
    let same = same_reads head ws ss _ _
    (record { words = filled_front (used_words head) (length us) ws fits.word_room p; samples = filled_front (used_samples head) (length vs) ss fits.sample_room q }) in
    subst (λ (read : Outcome ReadAfter). SameReads head ws ss read.after.words read.after.samples) (sym back) same

pub images : Images
images = record { written = written_back; same_answers = same_answers; again = λ image ws ss small e. written_again image ws ss small (accepted_known image ws ss e); change_found = change_found; no_kind = no_kind_kept; older_plain = older_plain; checks_differ = checks_differ }
