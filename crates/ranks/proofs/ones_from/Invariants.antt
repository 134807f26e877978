-- `ranks::ones_from` meets its contract. Assumes nothing.
use mathlib.Core.Path.{◌≡◌}
use Prim.Native.Nat.{◌+◌, ◌*◌, ◌/◌}
use Rattle.bounds.specs.Bounds.{sample_bits}
use Rattle.laws.specs.Counting.{rank}
use Rattle.laws.specs.Bits.{has}
use Rattle.ranks.proofs.ones_from.Given as goal

abbrev pub invariant-loop-i : goal.invariant-loop-i
invariant-loop-i l = (64 * l.first ≡ sample_bits * (l.position / sample_bits)) × (rank (has l.words) (64 * l.first) + l.ones ≡ rank (has l.words) (64 * l.i))
