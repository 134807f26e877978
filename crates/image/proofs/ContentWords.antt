-- A content, word by word. Assumes nothing.
use mathlib.Core.Path.{◌≡◌, sym, ap, ◌∙◌}
use mathlib.Core.List.{List, ◌∷◌, ◌++◌}
use Prim.Native.Nat.{ℕ, suc, ◌-◌, ◌≤◌, ◌<◌}
use native.Mathlib.Omega.{arith}
use lib.ListN.{length, get_or, get_or-append, get_or-eq_default}
use Rattle.bounds.specs.Bounds.{head_sizes}
use Rattle.laws.proofs.Parts.{append_past}
use Rattle.head.specs.declared.Head.{Head}
use Rattle.head.specs.Numbers.{numbers_of}
use Rattle.image.specs.Image.{form, head_place, words_place, content_of}

module _ (head : Head) (l : length head.sizes ≡ head_sizes) (ws ss : List ℕ) (c : ℕ) where
  abbrev front : List ℕ
  front = form ∷ numbers_of head

  pub content_form : c < head_place → form ≡ content_of head ws ss c
  unfolding content_of
  content_form h = let e : c ≡ 0 = omega arith in rw e

  pub content_head : head_place ≤ c → c < words_place form → get_or (numbers_of head) (c - head_place) 0 ≡ content_of head ws ss c
  unfolding content_of
  content_head h k =
      let e : suc (c - head_place) ≡ c = omega arith in
      ap (λ (i : ℕ). get_or front i 0) e ∙ sym (get_or-append front (ws ++ ss) 0 c (omega arith))

  content_past : words_place form ≤ c → content_of head ws ss c ≡ get_or (ws ++ ss) (c - words_place form) 0
  unfolding content_of
  content_past h =
      let e : c - length front ≡ c - words_place form = omega arith in
      append_past front (ws ++ ss) c (omega arith) ∙ ap (λ (k : ℕ). get_or (ws ++ ss) k 0) e

  pub content_word : words_place form ≤ c → c - words_place form < length ws → get_or ws (c - words_place form) 0 ≡ content_of head ws ss c
  content_word h k = sym (content_past h ∙ get_or-append ws ss 0 (c - words_place form) k)

  module _ (h : words_place form ≤ c) (k : length ws ≤ c - words_place form) where
    pub content_sample : get_or ss (c - words_place form - length ws) 0 ≡ content_of head ws ss c
    content_sample = sym (content_past h ∙ append_past ws ss (c - words_place form) k)

    pub content_none : length ss ≤ c - words_place form - length ws → 0 ≡ content_of head ws ss c
    content_none m = sym (get_or-eq_default ss 0 m) ∙ content_sample
