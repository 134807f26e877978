-- Kinds that are not known, in a head that is written and in an image that is read; and the kind of an older image. Assumes nothing.
use mathlib.Core.Path.{◌≡◌, sym, ap, ◌∙◌}
use mathlib.Core.List.{List}
use Prim.Native.Nat.{ℕ, ◌+◌}
use lib.Dec.{lit<}
use Rattle.laws.proofs.Chains.{each_at}
use Rattle.mixer.specs.Kinds.{kind_number, kind_of}
use Rattle.mixer.specs.declared.Kind.TheVariants.{Plain}
use Rattle.std.specs.Prelude.{Err}
use Rattle.refusal.specs.declared.Refusal.TheVariants.{UnknownKind}
use Rattle.head.specs.Numbers.{head_numbers}
use Rattle.block.specs.Block.{content_at}
use Rattle.image.specs.Image.{form, older_form, is_form, head_place, form_in, head_in, read_call}
use Rattle.image.proofs.WriteCalls.{write_unknown}
use Rattle.keeping.specs.Images.{NoKindKept}

module _ (image : List ℕ) where
  -- the kind stands in front of the head's other numbers
  kind_in : form_in image ≡ form → (head_in image).kind ≡ content_at image head_place
  kind_in e = rw e (each_at (λ i. content_at image (head_place + i)) head_numbers 0 (lit< tt))

  pub older_plain : form_in image ≡ older_form → (head_in image).kind ≡ kind_number Plain
  older_plain e = rw e

pub no_kind_kept : (number : ℕ) → kind_of number ≡ Err UnknownKind → NoKindKept number
unfolding read_call
no_kind_kept number u = record {
  write = λ head ws ss store e. sym (write_unknown head ws ss store UnknownKind (sym (ap kind_of e ∙ u)));
  read = λ image us vs good e k. rw (good, ap is_form e, ap kind_of (kind_in image e ∙ k) ∙ u);
}
