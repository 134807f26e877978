-- `bitvector::steps::any_bit` meets its contract. Assumes nothing.
use mathlib.Core.Path.{◌≡◌, ap, ◌∙◌}
use mathlib.Core.Bool.{not}
use Prim.Native.Nat.{ℕ}
use borrow.Author.Rules.{rules}
use lib.Bits.{bit_or}
use lib.Dec.{eqb}
use Rattle.std.specs.List.{fold}
use Rattle.bitvector.proofs.Sizes.{any_set}
use Rattle.bitvector.proofs.steps.any_bit.Goals as goal

pub returns : goal.returns
returns c =
    let all : c.fold.result ≡ fold bit_or 0 c.args.words.now = search rules in
    ap (λ (n : ℕ). not (eqb n 0)) all ∙ any_set _ (λ i. (c.type_inv.words i).fits)
