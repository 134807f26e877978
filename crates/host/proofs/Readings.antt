-- A host reads from the number alone what a call answered: no value is as large as the number of none or of a refusal. Assumes nothing.
use mathlib.Core.Path.{◌≡◌, refl, sym, ap, ◌∙◌}
use mathlib.Core.Logic.{inl, inr}
use mathlib.Core.Bool.{Bool, true, false}
use mathlib.Core.List.{List}
use mathlib.Core.Option.{some}
use Prim.Native.Nat.{ℕ, ◌*◌, ◌-◌, ◌≤◌, ◌<◌}
use native.Mathlib.Omega.{arith}
use borrow.Author.Tests.{le-leb, lt-leb, ne_eqb}
use lib.Dec.{leb, lit≤}
use lib.ListN.{length}
use Rattle.bounds.specs.Bounds.{max_bits, max_ids}
use Rattle.laws.specs.Counting.{one, rank}
use Rattle.laws.proofs.Sums.{rank-le}
use Rattle.refusal.specs.Table.{number_of, value_of}
use Rattle.refusal.specs.declared.Refusal.{Refusal}
use Rattle.refusal.specs.declared.Refusal.TheVariants.{UnfitHead, UnfitSet, ShortOutput, UnfitContent, UnknownKind}
use Rattle.refusal.proofs.Apart.{numbered}
use Rattle.std.specs.Prelude.{Option, None, Some, Result, Ok, Err}
use Rattle.refusal.specs.Answers.{Outcome, untouched, counted, refused, check}
use Rattle.bitvector.specs.Calls.{sound, len_call, members_call}
use Rattle.bitvector.specs.Sets.{set_of}
use Rattle.bitvector.proofs.Soundness.{sound_room}
use Rattle.mixer.specs.Kinds.{kind_of}
use Rattle.head.specs.KindCheck.{check_kind}
use Rattle.mixer.specs.declared.Kind.{Kind}
use Rattle.mixer.proofs.KindNumbers.{number_known, number_or_not}
use Rattle.head.specs.declared.Head.{Head}
use Rattle.finding.specs.declared.Place.{Place}
use Rattle.head.specs.Layout.{size_at, used_of, used_by, unused_clear, fit}
use Rattle.finding.specs.Find.{refused_for, answer_of, row_in}
use Rattle.lookup.specs.Lookup.{lookup_call}
use Rattle.head.proofs.Fits.{bounded_is, few_used, fit_known, measured_uses}
use Rattle.block.specs.Block.{block_bytes}
use Rattle.image.specs.Image.{form, image_blocks, write_call}
use Rattle.lookup.proofs.Lookups.{lookup_unknown, lookup-fit, lookup_unfit}
use Rattle.finding.proofs.Told.{found_below}
use Rattle.host.specs.Numbers.{none_number, refused_number, of_told, of_made, of_said, of_counted, of_answer, value, no_row, refusal, reading, told_as, told_made, told_said, told_counted, told_found}
use Rattle.host.proofs.Answers.{refused-number}

-- ---- numbers

read_value : (v : ℕ) → v ≤ max_bits → reading v ≡ value v
unfolding reading
read_value v h = rw (le-leb v max_bits h)

read_refusal : (r : Refusal) → reading (refused_number (number_of r)) ≡ refusal (number_of r)
unfolding reading
read_refusal r =
    let k = numbered r in
    let n = refused_number (number_of r) in
    let back : none_number - n ≡ number_of r = omega (arith, k.within) in
    rw (lt-leb n max_bits (omega (arith, k.within)), ne_eqb n none_number (λ (e : n ≡ none_number). omega (arith, k.positive, k.within)), back)

read_none : reading none_number ≡ no_row
unfolding reading
read_none = refl

-- ---- an answer that is done, yes or no, whichever call gives it

told_read : {A : Type 0} (number : A → ℕ) (answer : Result A Refusal) → ((a : A) → answer ≡ Ok a → number a ≤ max_bits)
    → reading (of_told number answer) ≡ told_as number answer
told_read number (Ok a) h = read_value (number a) (h a refl)
told_read number (Err r) h = ap reading (refused-number r _) ∙ read_refusal r

pub made_read : {A : Type 0} (answer : Result A Refusal) → reading (of_made answer) ≡ told_made answer
made_read answer = told_read (λ _. 0) answer (λ a e. omega arith)

pub said_read : (answer : Result Bool Refusal) → reading (of_said answer) ≡ told_said answer
said_read answer = told_read one answer (λ b e. low_one b)
  where
    low_one : (b : Bool) → one b ≤ max_bits
    low_one true = omega arith
    low_one false = omega arith

-- ---- a count: no set has more numbers than the bit bound

module _ {After : Type 0} where
  counted_read : (answer : Result ℕ Refusal) (s : After) → (counted answer s).value ≤ max_bits → reading (of_counted answer) ≡ told_counted answer
  counted_read answer s h = told_read (λ n. n) answer (λ n e. rw e at h)

  low_check : (test : Bool) (reason : Refusal) (s : After) (next : Outcome After) → value_of reason ≤ max_bits → (test ≡ true → next.value ≤ max_bits)
      → (check test reason (refused s) next).value ≤ max_bits
  low_check true reason s next v h = h refl
  low_check false reason s next v h = v

  low_kind : (number : ℕ) (s : After) (next : Kind → Outcome After) → ((kind : Kind) → (next kind).value ≤ max_bits)
      → (check_kind (kind_of number) (refused s) next).value ≤ max_bits
  low_kind number s next h =
      elim (number_or_not number) [
        | inl (kind, k) ↦ rw (k, number_known kind) (h kind)
        | inr u ↦ rw u (lit≤ tt)
      ]

module _ (capacity : ℕ) (ws : List ℕ) where
  few_members : sound capacity ws ≡ true → rank (set_of capacity ws) capacity ≤ max_bits
  few_members s = omega (arith, rank-le (set_of capacity ws) capacity, (sound_room capacity ws s).bound)

  pub len_read : (answer : Result ℕ Refusal) → counted answer untouched ≡ len_call capacity ws → reading (of_counted answer) ≡ told_counted answer
  len_read answer e = counted_read answer untouched (rw e (low_check (sound capacity ws) UnfitSet untouched _ (lit≤ tt) few_members))

  pub members_read : (out : List ℕ) (answer : Result ℕ Refusal) (store : List ℕ) → counted answer store ≡ members_call capacity ws out
      → reading (of_counted answer) ≡ told_counted answer
  members_read out answer store e =
      let size = rank (set_of capacity ws) capacity in
      counted_read answer store
      (rw e (low_check (sound capacity ws) UnfitSet out _ (lit≤ tt) (λ s. low_check (leb size (length out)) ShortOutput out _ (lit≤ tt) (λ _. few_members s))))

-- ---- a written image: no index takes so many blocks

module _ (head : Head) (ws ss image : List ℕ) where
  few_blocks : fit head.count head.levels head.sizes (length ws) (length ss) ≡ true → image_blocks form (used_by head) ≤ max_bits
  few_blocks e =
      let b = bounded_is head.count head.levels head.sizes (fit_known head.count head.levels head.sizes (length ws) (length ss) e).bounds in
      let f = few_used head.count head.levels head.sizes (used_of head.levels head.sizes) (measured_uses head.count head.levels head.sizes b) in
      omega (arith, f.words, f.samples)

  pub write_read : (answer : Result ℕ Refusal) (after : List ℕ) → counted answer after ≡ write_call head ws ss image → reading (of_counted answer) ≡ told_counted answer
  unfolding write_call
  write_read answer after e =
      counted_read answer after
      (rw e (low_kind head.kind image _
      (λ kind. low_check (fit head.count head.levels head.sizes (length ws) (length ss)) UnfitHead image _ (lit≤ tt)
      (λ f. low_check (unused_clear head.levels head.sizes) UnfitContent image _ (lit≤ tt)
      (λ u. low_check (leb (block_bytes * image_blocks form (used_by head)) (length image)) ShortOutput image _ (lit≤ tt) (λ l. few_blocks f))))))

-- ---- a lookup: no row is as large as the id bound

module _ (head : Head) (ws ss : List ℕ) (x : ℕ) where
  abbrev fits : Bool
  fits = fit head.count head.levels head.sizes (length ws) (length ss)

  row_low : (r : ℕ) → row_in (lookup_call head ws ss x) ≡ some r → r < max_ids
  row_low r e =
      elim (number_or_not head.kind) [
        | inl (kind, k) ↦ go kind (ap kind_of k ∙ number_known kind) fits refl
        | inr u ↦
            let q : row_in (refused_for UnknownKind) ≡ some r = ap row_in (lookup_unknown head ws ss x u) ∙ e in
            let z : ◌≡◌ {A = ℕ} 0 1 = cc in
            absurd (omega arith)
      ]
    where
      go : (kind : Kind) → kind_of head.kind ≡ Ok kind → (b : Bool) → fits ≡ b → r < max_ids
      go kind k true h =
          let few = (fit_known head.count head.levels head.sizes (length ws) (length ss) h).bounds.few_ids in
          omega (arith, few, found_below _ head.count (size_at head.sizes) ws ss x head.levels r (ap row_in (lookup-fit head ws ss x kind k h) ∙ e))
      go kind k false h =
          let q : row_in (refused_for UnfitHead) ≡ some r = ap row_in (lookup_unfit head ws ss x kind k h) ∙ e in
          let z : ◌≡◌ {A = ℕ} 0 1 = cc in
          absurd (omega arith)

  pub found_read : (answer : Result (Option Place) Refusal) → answer_of answer ≡ lookup_call head ws ss x → reading (of_answer (answer_of answer)) ≡ told_found answer
  found_read (Ok (Some p)) e = read_value p.row (omega (arith, row_low p.row (sym (ap row_in e))))
  found_read (Ok None) e = read_none
  found_read (Err r) e = read_refusal r
