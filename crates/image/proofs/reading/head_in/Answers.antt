-- `image::reading::head_in` meets its contract. Assumes nothing.
use mathlib.Core.Path.{ap, ◌∙◌}
use Rattle.head.specs.Numbers.{head_of}
use Rattle.image.specs.Image.{left_out}
use Rattle.image.proofs.ReadCalls.{numbers_read}
use Rattle.image.proofs.reading.head_in.Goals as goal

pub returns : goal.returns
returns c =
    let skips = c.left_out-skipped.ensures ∙ ap left_out c.requires.1 in
    c.read.ensures ∙ ap head_of (numbers_read _ _ _ skips c.copy_content.ensures)
