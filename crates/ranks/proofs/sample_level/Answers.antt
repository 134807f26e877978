-- `ranks::sample_level` meets its contract. Assumes nothing.
use Rattle.ranks.proofs.Samples.{sampling_none, group_fits, sampling_next, sampling_end}
use Rattle.ranks.proofs.sample_level.Goals as goal

pub loop-j-init : goal.loop-j-init
loop-j-init c =
    let it = c.into_iter-j-iterator.ensures.into_iter_gives in
    let e = c.enumerate-j-items.ensures in
    let s = c.chunks.ensures in
    rw (it, e.source, e.count, s.rest, s.size) (sampling_none _ _ _)

pub overflow_add-ones : goal.overflow_add-ones
overflow_add-ones c =
    let s = c.in-Some.ensures.steps in
    rw c.count_ones-ones.ensures
    (record { fits = group_fits _ _ _ c.requires.samples_fit _ _ _ _ _ c.loop-j.invariant _ _ s.0.1.0 s.0.1.1 s.0.1.2 c.requires.ones_fit })

pub loop-j-preserved : goal.loop-j-preserved
loop-j-preserved c =
    let s = c.in-Some.ensures.steps in
    rw (s.2, s.0.0, c.count_ones-ones.ensures, s.1)
    (sampling_next _ _ _ c.requires.samples_fit _ _ _ _ _ c.loop-j.invariant _ _ s.0.1.0 s.0.1.1 s.0.1.2)

pub returns : goal.returns
returns c = sampling_end _ _ _ c.requires.samples_fit _ _ _ _ _ c.loop-j.invariant c.in-None.ensures.steps.0.1.0
