-- The call `write`, case by case. Assumes nothing.
use mathlib.Core.Path.{◌≡◌, sym, ◌∙◌}
use mathlib.Core.Bool.{true, false}
use mathlib.Core.List.{List}
use Prim.Native.Nat.{ℕ, ◌*◌, ◌≤◌, ◌<◌}
use borrow.Author.Tests.{le-leb, lt-leb}
use Rattle.std.specs.Prelude.{Ok, Err, Some}
use lib.ListN.{length, take}
use Rattle.laws.specs.Stores.{fronted}
use Rattle.refusal.specs.Answers.{counted}
use Rattle.refusal.specs.declared.Refusal.{Refusal}
use Rattle.refusal.specs.declared.Refusal.TheVariants.{UnfitHead, ShortOutput, UnfitContent}
use Rattle.mixer.specs.declared.Kind.{Kind}
use Rattle.mixer.specs.Kinds.{kind_of}
use Rattle.head.specs.declared.Head.{Head}
use Rattle.head.specs.declared.Used.{Used}
use Rattle.head.specs.Layout.{used_by, fit, unused_clear}
use Rattle.head.specs.Fit.{measured}
use Rattle.head.proofs.Fits.{fit_used, uses_known}
use Rattle.block.specs.Bytes.{all_bytes}
use Rattle.block.specs.Block.{block_bytes, image_words}
use Rattle.image.specs.Image.{form, image_blocks, content_of, image_of, write_call}
use Rattle.head.specs.Fit.{used_fits}

module _ (head : Head) (ws ss image : List ℕ) where
  pub write_unknown : (why : Refusal) → Err why ≡ kind_of head.kind → counted (Err why) image ≡ write_call head ws ss image
  unfolding write_call
  write_unknown why e = rw (← e)

  module _ (kind : Kind) (known : Ok kind ≡ kind_of head.kind) where
    pub write_unfit : false ≡ fit head.count head.levels head.sizes (length ws) (length ss) → counted (Err UnfitHead) image ≡ write_call head ws ss image
    unfolding write_call
    write_unfit e = rw (← known, ← e)

    module _ (used : Used) (uses : Some used ≡ measured head.count head.levels head.sizes) where
      fits : used_fits used (length ws) (length ss) ≡ fit head.count head.levels head.sizes (length ws) (length ss)
      fits = fit_used _ _ _ _ _ used uses

      pub no_room : used_fits used (length ws) (length ss) ≡ false → counted (Err UnfitHead) image ≡ write_call head ws ss image
      no_room n = write_unfit (sym n ∙ fits)

      module _ (room : used_fits used (length ws) (length ss) ≡ true) where
        fitting : fit head.count head.levels head.sizes (length ws) (length ss) ≡ true
        fitting = sym fits ∙ room

        pub sizes_left : unused_clear head.levels head.sizes ≡ false → counted (Err UnfitContent) image ≡ write_call head ws ss image
        unfolding write_call
        sizes_left e = rw (← known, fitting, e)

        module _ (clear : unused_clear head.levels head.sizes ≡ true) (n : ℕ) (takes : n ≡ image_blocks form used) where
          used_is : used ≡ used_by head
          used_is = (uses_known _ _ _ used uses).1

          blocks : n ≡ image_blocks form (used_by head)
          blocks = rw used_is at takes

          pub image_short : length image < block_bytes * n → counted (Err ShortOutput) image ≡ write_call head ws ss image
          unfolding write_call
          image_short h = rw (← known, fitting, clear, lt-leb (block_bytes * image_blocks form (used_by head)) (length image) (rw blocks at h))

          pub image_written : block_bytes * n ≤ length image
              → (after : List ℕ) → after ≡ fronted (all_bytes (image_words (content_of head (take used.words ws) (take used.samples ss)) n)) image
              → counted (Ok n) after ≡ write_call head ws ss image
          unfolding write_call image_of
          image_written h after e = rw (← known, fitting, clear, le-leb (block_bytes * image_blocks form (used_by head)) (length image) (rw blocks at h), e, used_is, blocks)
