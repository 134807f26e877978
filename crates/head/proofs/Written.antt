-- The head of some numbers, of which the sizes are known.
use mathlib.Core.Path.{◌≡◌, ap}
use mathlib.Core.List.{List}
use Prim.Native.Nat.{ℕ}
use lib.ListN.{get_or, drop}
use Rattle.head.specs.declared.Head.{Head}
use Rattle.head.specs.Numbers.{before_sizes, head_of}

pub head_read : (numbers sizes : List ℕ) → sizes ≡ drop before_sizes numbers → ◌≡◌ {A = Head} (record { kind = get_or numbers 0 0; count = get_or numbers 1 0; levels = get_or numbers 2 0; sizes = sizes }) (head_of numbers)
head_read numbers sizes e = ap (λ (l : List ℕ). record { kind = get_or numbers 0 0; count = get_or numbers 1 0; levels = get_or numbers 2 0; sizes = l }) e
