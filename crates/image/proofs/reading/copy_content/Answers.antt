-- `image::reading::copy_content` meets its contract: the first i places are copied. Assumes nothing.
use Rattle.std.proofs.Common.{◌≡◌, ap, arith, take, length, ◌∙◌, length-take-le}
use Rattle.std.proofs.lemmas.Grind.{common_steps}
use Rattle.laws.proofs.Chains.{length-each}
use Rattle.image.specs.Image.{content_from}
use Rattle.image.proofs.Copies.{copied_none, copied_more, copied_all}
use Rattle.image.proofs.reading.copy_content.Goals as goal

pub loop-i-init : goal.loop-i-init
loop-i-init c = copied_none _ _

pub loop-i-preserved : goal.loop-i-preserved
loop-i-preserved c = let l = c.loop-i in copied_more _ _ _ l.i _ l.invariant c.content_at.ensures (omega arith)

pub returns : goal.returns
returns c =
    let l = c.loop-i in
    let n : length (take c.args.n c.args.out.now) ≡ c.args.n = length-take-le _ _ (omega arith) in
    let e : l.place-items ≡ content_from c.args.image.now c.args.from c.args.n = copied_all _ _ _ l.i (omega arith) l.invariant ∙ ap (content_from c.args.image.now c.args.from) n in
    grind (arith, common_steps, length-each)
