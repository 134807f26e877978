-- `Head::unused_clear` meets its contract. Assumes nothing.
use Rattle.std.proofs.Common.{arith}
use Rattle.std.proofs.lemmas.List.{length-drop, take_all}
use Rattle.laws.proofs.Clear.{all_clear_is}
use Rattle.head.proofs.Head.unused_clear.Goals as goal

pub returns : goal.returns
returns c = all_clear_is c.args.self.now.sizes c.args.self.now.levels _ (omega arith) _ _ (take_all _ _ (omega (arith, length-drop c.args.self.now.levels c.args.self.now.sizes))) c.all_0.ensures.0 c.all_0.ensures.1
