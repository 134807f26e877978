-- `image::reading::content_clear` meets its contract. Assumes nothing.
use Rattle.std.proofs.Common.{rules, tests, refl, sym, ap, arith, ◌≡◌, ◌∙◌, ℕ, ◌+◌, ◌-◌, ◌<◌, Bool, true, false, length}
use Rattle.std.specs.Bool.{MatchBool}
use Rattle.std.specs.List.{AllWithin, HoldsAt, range_with_len}
use Rattle.std.proofs.lemmas.Iterator.{cases_from_all, YieldsList-from_range}
use Rattle.std.proofs.lemmas.List.FromFn.{length-range_with_len, get_or-range_with_len}
use Rattle.laws.specs.Counting.{is_clear}
use Rattle.laws.proofs.Clear.{is_clear_lem, not_clear}
use Rattle.block.specs.Block.{content_at}
use Rattle.image.proofs.reading.content_clear.Goals as goal

-- what a test of each number from one up to another comes to
tested : (f : ℕ → ℕ) (from to : ℕ) (r : Bool)
    → let all = range_with_len from (to - from) in
    MatchBool r (AllWithin (λ c. f c ≡ 0) all 0 (length all)) ((k : ℕ) × (k < length all) × HoldsAt (λ c. f c ≡ 0 → ⊥) all k) → r ≡ is_clear f from to
tested f from to true clear =
    let n = length-range_with_len from (to - from) in
    sym (is_clear_lem f from to (λ c l h.
    let e : from + (c - from) ≡ c = omega arith in
    ap f (sym e ∙ sym (get_or-range_with_len from (to - from) (c - from) 0 (omega arith))) ∙ clear (c - from) 0 (omega arith) (omega (arith, n))))
tested f from to false (k, h, bad) =
    let n = length-range_with_len from (to - from) in
    sym (not_clear f from to (from + k) (omega arith) (omega (arith, n, h)) (λ e. bad 0 (ap f (get_or-range_with_len from (to - from) k 0 (omega (arith, n, h))) ∙ e)))

pub returns : goal.returns
returns c =
    let at = content_at c.args.image.now in
    tested at c.args.from c.args.to _
    (cases_from_all _ _ _ (λ i. at i ≡ 0) (λ i. at i ≡ 0 → ⊥) c.all.ensures.ran (YieldsList-from_range _ _ _ refl refl) (λ x q k. search (rules, tests)) (λ x q k. search (rules, tests)))
