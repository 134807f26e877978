-- `Head::measure` meets its contract: the loop walks over the used sizes. Assumes nothing.
use Rattle.std.proofs.Common.{rules, arith, ◌≡◌, ℕ, ap₂, ◌∙◌, Some, get_or, take}
use Rattle.std.proofs.lemmas.List.{get_or-take}
use Rattle.head.proofs.Fits.{bounded_is, measured_uses, measured_none, Walk}
use Rattle.head.proofs.Head.measure.Goals as goal

pub returns-then-self-lt1 : goal.returns-then-self-lt1
returns-then-self-lt1 c = measured_none _ _ _ (λ f. let p = f.some_level in let q = f.few_levels in let r = f.few_ids in search rules)

pub returns-then-size-lt-MIN_BITS : goal.returns-then-size-lt-MIN_BITS
returns-then-size-lt-MIN_BITS c =
    let i = c.loop-size.size-index in
    let e : get_or (take c.args.self.now.levels c.args.self.now.sizes) i 0 ≡ get_or c.args.self.now.sizes i 0 = get_or-take c.args.self.now.levels c.args.self.now.sizes i 0 (omega arith) in
    measured_none _ _ _ (λ f. let p = f.size_least i (omega arith) in let q = f.size_most i (omega arith) in search rules)

pub returns : goal.returns
returns c =
    let l = c.loop-size in
    let head = c.args.self.now in
    let e : l.size-index ≡ head.levels = omega arith in
    let w : Walk head.sizes head.levels l.words l.sampled = rw e at l.invariant in
    ap₂ (λ (words samples : ℕ). Some (record { words = words; samples = samples })) w.words_are w.samples_are
    ∙ measured_uses _ _ _
    (bounded_is _ _ _ (record {
      some_level = search rules;
      few_levels = search rules;
      size_least = w.least;
      size_most = w.most;
      few_ids = search rules;
    }))
