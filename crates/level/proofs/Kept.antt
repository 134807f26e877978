-- What changing bits below a size keeps of a store, and which store it leaves, from the bits that are then set. Assumes nothing.
use mathlib.Core.Path.{◌≡◌, refl, sym, ap, ◌∙◌}
use mathlib.Core.Bool.{Bool, false}
use mathlib.Core.List.{List, ◌++◌}
use Prim.Native.Nat.{ℕ, ◌*◌, ◌/◌, ◌%◌, ◌^◌, ◌≤◌, ◌<◌}
use mathlib.Core.Logic.{◌≢◌}
use native.Mathlib.Nat.{zero-div}
use native.Mathlib.Omega.{arith}
use borrow.Author.Tests.{eq-eqb, ne_eqb}
use lib.ListN.{length, get_or, drop, get_or-replicate}
use lib.Seq.{get_or-take}
use Rattle.laws.specs.Bits.{digit, has, Words, words_for, packed}
use Rattle.laws.proofs.Words.{has_clear, Put, put_length, put_drop, put_words, put_has}
use Rattle.laws.proofs.Packing.{packed_store}
use Rattle.level.specs.Level.{ClearWords}

-- there are as many words, those past the needed ones are as they were, and all are still words
pub record Kept (size : ℕ) (ws us : List ℕ) : Type 0 where
  pub same_length : length us ≡ length ws
  pub past : drop (words_for size) us ≡ drop (words_for size) ws
  pub still_words : Words ws → Words us

module _ (size : ℕ) where
  pub kept_none : (ws : List ℕ) → Kept size ws ws
  kept_none ws = record { same_length = refl; past = refl; still_words = λ f. f }

  pub kept_more : {ws us vs : List ℕ} → Kept size ws us → Kept size us vs → Kept size ws vs
  kept_more k l = record {
    same_length = l.same_length ∙ k.same_length;
    past = l.past ∙ k.past;
    still_words = λ f. l.still_words (k.still_words f);
  }

  -- one bit below the size is set or cleared
  pub kept_put : {ws us : List ℕ} {b : ℕ} {t : Bool} → Put ws b t us → b < size → Kept size ws us
  kept_put p h = record { same_length = put_length p; past = put_drop p (words_for size) (omega arith); still_words = put_words p }

  -- where the bits of the needed words are the numbers of a plain set, they are that set packed
  pub holds : (s : ℕ → Bool) {ws us : List ℕ} → words_for size ≤ length ws → Words ws → Kept size ws us
      → ((b : ℕ) → b < 64 * words_for size → has us b ≡ s b) → us ≡ packed (words_for size) s ++ drop (words_for size) ws
  holds s {ws} {us} h f k e = packed_store (words_for size) s ws us (rw k.same_length h) (k.still_words f) (λ b l. sym (e b l)) k.past

-- a bit put to t, at its place and at another
pub put_here : {ws us : List ℕ} {b : ℕ} {t : Bool} → Put ws b t us → b / 64 < length ws → has us b ≡ t
put_here {ws} {us} {b} p h = put_has p h b ∙ rw (eq-eqb b b refl)

pub put_other : {ws us : List ℕ} {b : ℕ} {t : Bool} → Put ws b t us → b / 64 < length ws → (j : ℕ) → j ≢ b → has us j ≡ has ws j
put_other {ws} {us} {b} p h j n = put_has p h j ∙ rw (ne_eqb j b n)

-- words that are 0 have no bit
pub clear_has : (n : ℕ) (ws : List ℕ) → ClearWords n ws → (b : ℕ) → b < 64 * n → has ws b ≡ false
clear_has n ws z b h =
    let e : get_or ws (b / 64) 0 ≡ 0 =
    sym (get_or-take n ws (b / 64) 0 (omega arith)) ∙ ap (λ (l : List ℕ). get_or l (b / 64) 0) z ∙ get_or-replicate n (b / 64) 0 0 (omega arith) in
    let d : digit (get_or ws (b / 64) 0) (b % 64) ≡ 0 = rw (e, zero-div (2 ^ (b % 64))) in
    has_clear ws b (λ q. omega arith)
