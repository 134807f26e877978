-- `image::content::Content::word` meets its contract. Assumes nothing.
use mathlib.Core.Path.{◌∙◌}
use native.Mathlib.Omega.{arith}
use Rattle.image.proofs.ContentWords.{content_form, content_head, content_word, content_sample, content_none}
use Rattle.image.proofs.content.Content.word.Goals as goal

pub returns-then-c-lt-HEAD_PLACE : goal.returns-then-c-lt-HEAD_PLACE
returns-then-c-lt-HEAD_PLACE c = content_form _ c.args.self.now.sized _ _ _ c.if-c-lt-HEAD_PLACE.true

pub returns-then-c-lt-WORDS_PLACE : goal.returns-then-c-lt-WORDS_PLACE
returns-then-c-lt-WORDS_PLACE c = c.number.ensures ∙ content_head _ c.args.self.now.sized _ _ _ c.if-c-lt-HEAD_PLACE.false c.if-c-lt-WORDS_PLACE.true

pub returns-then-w-self : goal.returns-then-w-self
returns-then-w-self c = content_word _ c.args.self.now.sized _ _ _ (omega arith) c.if-w-self.true

pub returns-then-s-self : goal.returns-then-s-self
returns-then-s-self c = content_sample _ c.args.self.now.sized _ _ _ (omega arith) (omega arith)

pub returns : goal.returns
returns c = content_none _ c.args.self.now.sized _ _ _ (omega arith) (omega arith) (omega arith)
