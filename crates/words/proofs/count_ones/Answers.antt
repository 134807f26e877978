-- `words::count_ones` meets its contract. Assumes nothing.
use Rattle.std.proofs.Common.{rules, tests}
use mathlib.Core.Path.{◌∙◌}
use lib.Count.{ones}
use Rattle.words.proofs.Ones.{ones_sum, ones_fit}
use Rattle.std.proofs.lemmas.Iterator.{YieldsList-from_slice, YieldsList-from_map}
use Rattle.std.proofs.lemmas.Iterator.Consumers.{sum_by_from_yields_List, fits_by_from_yields_list}
use Rattle.words.proofs.count_ones.Goals as goal

pub sum-requires-clause-fits : goal.sum-requires-clause-fits
sum-requires-clause-fits c =
    fits_by_from_yields_list ones c.args.words.now c.map.result _
    (YieldsList-from_map _ ones (YieldsList-from_slice c.args.words.now cc) c.map.ensures.closure (λ x r q k. search (rules, tests)))
    (ones_fit c.args.words.now (λ i. (c.type_inv.words i).fits) c.requires)

pub returns : goal.returns
returns c =
    sum_by_from_yields_List ones c.args.words.now c.map.result _ c.sum.ensures.ran
    (YieldsList-from_map _ ones (YieldsList-from_slice c.args.words.now cc) c.map.ensures.closure (λ x r q k. search (rules, tests)))
    ∙ ones_sum c.args.words.now (λ i. (c.type_inv.words i).fits)
