-- From words to the plain sets that they hold: a bit put into sound words is the store with the set of the act. Assumes nothing.
use mathlib.Core.Path.{◌≡◌, refl, sym, ap, ◌∙◌}
use mathlib.Core.Bool.{Bool, true, false, not, cond, ◌||◌, ◌&&◌}
use mathlib.Core.List.{List}
use Prim.Native.Nat.{ℕ, ◌/◌, ◌<◌}
use native.Mathlib.Omega.{arith}
use borrow.Author.Tests.{lt-ltb}
use lib.Dec.{eqb}
use lib.ListN.{length}
use Rattle.laws.specs.Counting.{one}
use Rattle.laws.specs.Bits.{has, Words, words_for, with_bit, without_bit}
use Rattle.laws.proofs.Words.{Put, with_put, without_put, put_length, put_drop, put_words, put_has}
use Rattle.laws.proofs.Packing.{packed_store}
use Rattle.bitvector.specs.Sets.{Plain, plus, minus, set_of, stored}
use Rattle.refusal.specs.Answers.{answered}
use Rattle.bitvector.specs.Calls.{sound, insert_call, remove_call}
use Rattle.bitvector.proofs.Soundness.{sound_room, set_bits_lem}

module _ (capacity : ℕ) (ws : List ℕ) (bit : ℕ) (s : sound capacity ws ≡ true) (h : bit < capacity) where
  pub bit_word : bit / 64 < length ws
  bit_word = let r = sound_room capacity ws s in omega arith

  put_stored : (t : Bool) (us : List ℕ) (act : Plain) → Put ws bit t us → Words ws → ((b : ℕ) → act b ≡ cond (eqb b bit) t (set_of capacity ws b))
      → us ≡ stored capacity act ws
  unfolding stored
  put_stored t us act p f e =
      let r = sound_room capacity ws s in
      let n : ℕ = words_for capacity in
      packed_store n act ws us (rw (put_length p) r.words) (put_words p f)
      (λ b l. e b ∙ ap (λ (x : Bool). cond (eqb b bit) t x) (set_bits_lem capacity ws s b l) ∙ sym (put_has p bit_word b))
      (put_drop p n (omega arith))

  pub inserted : Words ws → answered (one (not (has ws bit))) (with_bit ws bit) ≡ insert_call capacity ws bit
  inserted f =
      rw (s, lt-ltb _ _ h)
      (ap (answered (one (not (has ws bit))))
      (put_stored true (with_bit ws bit) (plus (set_of capacity ws) bit) (with_put ws bit) f (λ b. go (eqb b bit) (set_of capacity ws b))))
    where
      go : (q x : Bool) → q || x ≡ cond q true x
      go true x = refl
      go false x = refl

  pub removed : Words ws → answered (one (has ws bit)) (without_bit ws bit) ≡ remove_call capacity ws bit
  removed f =
      rw (s, lt-ltb _ _ h)
      (ap (answered (one (has ws bit)))
      (put_stored false (without_bit ws bit) (minus (set_of capacity ws) bit) (without_put ws bit) f (λ b. go (eqb b bit) (set_of capacity ws b))))
    where
      go : (q x : Bool) → not q && x ≡ cond q false x
      go true x = refl
      go false x = refl
