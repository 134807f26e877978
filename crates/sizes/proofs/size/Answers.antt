-- `sizes::size` meets its contract: past the test ids is above 0, and the product's bits give its whole part. Assumes nothing.
use mathlib.Core.Path.{sym}
use Prim.Native.Nat.{ℕ, ◌<◌, ◌≤◌}
use native.Mathlib.Omega.{arith}
use lib.Ieee.{Float, in_float}
use Rattle.bounds.specs.Bounds.{max_ids}
use Rattle.sizes.specs.Gamma.{Allowed}
use Rattle.sizes.specs.Sizes.{size_for}
use Rattle.sizes.proofs.Sizes.{room, size_zero}
use Rattle.sizes.proofs.Pattern.{ProductFields, product_number, product_fields}
use Rattle.sizes.proofs.size.Goals as goal

-- what the product's bits are, of a gamma and a number of ids that the function may be given
fields : {gamma : Float} (ids : ℕ) → Allowed gamma → 0 < ids → ids ≤ max_ids → ProductFields gamma ids
fields {gamma} ids a p h = product_fields gamma ids a p (room ids h)

pub returns-then-ids-eq0 : goal.returns-then-ids-eq0
unfolding size_for in_float
returns-then-ids-eq0 c = rw c.if-ids-eq0.true (sym (size_zero c.args.gamma))

pub float_to_bits-bits : goal.float_to_bits-bits
unfolding size_for in_float
float_to_bits-bits c = let s = c in product_number s.args.gamma s.args.ids s.requires.gamma_allowed (omega arith) (room s.args.ids s.requires.ids_bounded)

pub overflow_sub-whole : goal.overflow_sub-whole
unfolding size_for in_float
overflow_sub-whole c = omega (arith, (fields c.args.ids c.requires.gamma_allowed (omega arith) c.requires.ids_bounded).most)

pub overflow_shr-whole : goal.overflow_shr-whole
unfolding size_for in_float
overflow_shr-whole c = omega (arith, (fields c.args.ids c.requires.gamma_allowed (omega arith) c.requires.ids_bounded).least)

pub returns : goal.returns
unfolding size_for in_float
returns c = omega (arith, (fields c.args.ids c.requires.gamma_allowed (omega arith) c.requires.ids_bounded).is)
