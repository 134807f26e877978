-- The order of the ids does not matter: two lists of the same members give one index. Assumes nothing.
use mathlib.Core.Path.{◌≡◌, refl, ap, ap₂, ◌∙◌, fun_ext, subst}
use mathlib.Core.Bool.{Bool, true, false, cond, ◌&&◌}
use mathlib.Core.List.{List, [], Permᴰ}
use Prim.Native.Nat.{ℕ, zero, suc}
use lib.Dec.{eqb, leb}
use Rattle.laws.specs.Counting.{sift, chain, Same}
use Rattle.laws.proofs.Counts.{same_length, same_sift, same_one, length-sift, perm_same}
use Rattle.laws.proofs.Chains.{chain_same}
use Rattle.rule.specs.Rule.{Rule, single, rest, remaining, span, bit, start, Room, ids_left, fits, run_from, lookup, at_bit, in_level}
use Rattle.rule.specs.Demand.{SameIndex}
use Rattle.rule.proofs.Level.{set-one, same_single, same_rest}

module _ (rule : Rule) {xs ys : List ℕ} (s : Same xs ys) where
  same_left : (i : ℕ) → Same (remaining rule xs i) (remaining rule ys i)
  unfolding remaining
  same_left zero = s
  same_left (suc i) =
      subst (λ (n : ℕ). Same (remaining rule xs (suc i)) (rest (rule.pos i (rule.size n)) (remaining rule ys i))) (same_length (same_left i))
      (same_rest (rule.pos i (span rule xs i)) (same_left i))

  same_span : span rule xs ≡ span rule ys
  same_span = fun_ext (λ i. ap rule.size (same_length (same_left i)))

  same_bit : bit rule xs ≡ bit rule ys
  same_bit = fun_ext (λ i. fun_ext (λ p.
      same_single (rule.pos i (span rule xs i)) (same_left i) p
      ∙ ap (λ (n : ℕ). single (rule.pos i (rule.size n)) (remaining rule ys i) p) (same_length (same_left i))))

  same_fits : (room : Room) (i : ℕ) → fits rule room xs i ≡ fits rule room ys i
  same_fits room i =
      ap (λ (w : ℕ → ℕ). leb (start room.words w i) room.word_room && leb (start room.samples w i) room.sample_room) same_span

  same_run : (room : Room) (n i : ℕ) → run_from rule room xs n i ≡ run_from rule room ys n i
  unfolding run_from
  same_run room zero i = ap ids_left (same_length (same_left i))
  same_run room (suc n) i = rw (same_fits room (suc i), same_length (same_left (suc i)), same_run room n (suc i))

  -- a set bit lists one id, so its list has no other order
  same_at : (i p : ℕ) → at_bit rule xs i p ≡ at_bit rule ys i p
  same_at i p =
      go (bit rule xs i p) refl
      ∙ ap₂ (λ (w : ℕ → ℕ) (b : ℕ → ℕ → Bool). cond (b i p) (sift (λ x. eqb (rule.pos i (w i) x) p) (remaining rule ys i)) []) same_span same_bit
    where
      go : (b : Bool) → bit rule xs i p ≡ b
          → cond b (sift (λ x. eqb (rule.pos i (span rule xs i) x) p) (remaining rule xs i)) []
          ≡ cond b (sift (λ x. eqb (rule.pos i (span rule xs i) x) p) (remaining rule ys i)) []
      go true e =
          same_one (same_sift (λ x. eqb (rule.pos i (span rule xs i) x) p) (same_left i))
          (length-sift (λ x. eqb (rule.pos i (span rule xs i) x) p) (remaining rule xs i)
          ∙ set-one (rule.pos i (span rule xs i)) (remaining rule xs i) p e)
      go false e = refl

  same_in : (i : ℕ) → in_level rule xs i ≡ in_level rule ys i
  same_in i = ap₂ (λ (f : ℕ → List ℕ) (n : ℕ). chain f n) (fun_ext (same_at i)) (ap rule.size (same_length (same_left i)))

  pub same_index : SameIndex rule xs ys
  same_index = record {
    sizes = same_span;
    bits = same_bit;
    runs = λ room. fun_ext (λ limit. same_run room limit 0);
    finds = ap₂ (λ (w : ℕ → ℕ) (b : ℕ → ℕ → Bool). lookup rule.pos w b) same_span same_bit;
    lists = fun_ext (λ n. chain_same _ _ n (λ i h. same_in i));
  }

-- a rearrangement, as mathlib has it, has the same members
pub perm_index : (rule : Rule) {xs ys : List ℕ} → Permᴰ xs ys → SameIndex rule xs ys
perm_index rule p = same_index rule (perm_same p)
