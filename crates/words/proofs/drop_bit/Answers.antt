-- `words::drop_bit` meets its contract. Assumes nothing.
use mathlib.Core.Path.{sym, ap, ◌∙◌}
use Prim.Native.Nat.{◌%◌}
use native.Mathlib.Nat.{mod-lt}
use lib.Dec.{lit<}
use Rattle.laws.specs.Counting.{one}
use Rattle.laws.proofs.Digits.{one_shl, down_le}
use Rattle.laws.proofs.Words.{has_at, without_old, without_new}
use Rattle.words.proofs.drop_bit.Goals as goal

pub overflow_sub-words : goal.overflow_sub-words
overflow_sub-words c =
    let b = c.args.bit in
    let z = sym (has_at c.args.words.now b) ∙ ap one (sym c.has_bit-was.ensures ∙ c.if-was.true) in
    rw (one_shl (b % 64) (mod-lt b (lit< tt))) (down_le _ (b % 64) z)

pub returns-then-was : goal.returns-then-was
returns-then-was c =
    let b = c.args.bit in
    let told = c.has_bit-was.ensures in
    rw (one_shl (b % 64) (mod-lt b (lit< tt))) (record { old = told; words = sym (without_old _ _ (sym told ∙ c.if-was.true)) })

pub returns-else-was : goal.returns-else-was
returns-else-was c =
    let told = c.has_bit-was.ensures in
    record { old = told; words = sym (without_new _ _ (sym told ∙ c.if-was.false)) }
