-- No room for a second answer: two outcomes that meet the promise of a call on images are equal, the answer and every byte and word of every store. Assumes nothing.
use mathlib.Core.Path.{◌≡◌, refl, ap}
use mathlib.Core.List.{List}
use Prim.Native.Nat.{ℕ}
use Rattle.std.specs.Prelude.{Result, Ok, Err}
use Rattle.refusal.specs.Answers.{Outcome, counted}
use Rattle.refusal.specs.declared.Refusal.{Refusal}
use Rattle.refusal.proofs.Apart.{refused_back}
use Rattle.refusal.proofs.Once.{once_by, Once, result_in, counted_once}
use Rattle.head.specs.declared.Head.{Head}
use Rattle.image.specs.Image.{write_call, ReadAfter, read_of, read_call}

-- an image that is written: the answer and the image store
pub write_once : (head : Head) (ws ss image : List ℕ) → Once (List ℕ) (Result ℕ Refusal) counted (write_call head ws ss image)
write_once head ws ss image = counted_once (List ℕ) (write_call head ws ss image)

-- an image that is read: the head or the refusal, the word store and the sample store
pub read_once : (image ws ss : List ℕ) (a b : Result Head Refusal) (us vs xs ys : List ℕ) → read_of a us vs ≡ read_call image ws ss
    → read_of b xs ys ≡ read_call image ws ss → (a ≡ b) × (us ≡ xs) × (vs ≡ ys)
read_once image ws ss a b us vs xs ys e f =
    let same = once_by (λ (h : Result Head Refusal) (s : List ℕ × List ℕ). read_of h s.0 s.1) (result_in (λ (x : Outcome ReadAfter). x.after.head))
    (λ (x : Outcome ReadAfter). (x.after.words, x.after.samples)) answer left (read_call image ws ss) a b (us, vs) (xs, ys) e f in
    (same.0, ap (λ (s : List ℕ × List ℕ). s.0) same.1, ap (λ (s : List ℕ × List ℕ). s.1) same.1)
  where
    answer : (h : Result Head Refusal) (s : List ℕ × List ℕ) → result_in (λ (x : Outcome ReadAfter). x.after.head) (read_of h s.0 s.1) ≡ h
    answer (Ok head) s = refl
    answer (Err why) s = refused_back _ Err why

    left : (h : Result Head Refusal) (s : List ℕ × List ℕ) → ((read_of h s.0 s.1).after.words, (read_of h s.0 s.1).after.samples) ≡ s
    left (Ok head) s = refl
    left (Err why) s = refl
