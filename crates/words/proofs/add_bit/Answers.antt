-- `words::add_bit` meets its contract. Assumes nothing.
use mathlib.Core.Path.{sym, ap, ◌∙◌}
use Prim.Native.Nat.{◌%◌}
use native.Mathlib.Nat.{mod-lt}
use native.Mathlib.Omega.{arith}
use lib.Dec.{lit<}
use Rattle.laws.specs.Counting.{one}
use Rattle.laws.proofs.Digits.{one_shl, up_fits}
use Rattle.laws.proofs.Words.{has_at, with_old, with_new}
use Rattle.words.proofs.add_bit.Goals as goal

pub overflow_add-words : goal.overflow_add-words
overflow_add-words c =
    let b = c.args.bit in
    let z = sym (has_at c.args.words.now b) ∙ ap one (sym c.has_bit-was.ensures ∙ c.if-not-was.true) in
    rw (one_shl (b % 64) (mod-lt b (lit< tt)))
    (record { fits = up_fits 64 _ (b % 64) (omega arith) (mod-lt b (lit< tt)) z })

pub returns-then-not-was : goal.returns-then-not-was
returns-then-not-was c =
    let b = c.args.bit in
    let told = c.has_bit-was.ensures in
    rw (one_shl (b % 64) (mod-lt b (lit< tt))) (record { old = told; words = sym (with_new _ _ (sym told ∙ c.if-not-was.true)) })

pub returns-else-not-was : goal.returns-else-not-was
returns-else-not-was c =
    let told = c.has_bit-was.ensures in
    record { old = told; words = sym (with_old _ _ (sym told ∙ c.if-not-was.false)) }
