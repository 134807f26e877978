-- `image::content::Content::write_content` meets its contract: the first k words of the content are written. Assumes nothing.
use Rattle.image.specs.Steps.{content}
use Rattle.image.proofs.BlockSteps.{ContentedTo}
use Rattle.image.proofs.content.Content.write_content.Given as goal

abbrev pub invariant-loop-k : goal.invariant-loop-k
invariant-loop-k l = ContentedTo (content l.self) l.b l.initial.image l.k l.check l.image
