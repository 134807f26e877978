-- A head as numbers, one after another: kind, id count, level count, sizes.
use Rattle.std.specs.Prelude.{ℕ, ◌+◌, List, ◌∷◌, get_or, drop}
use Rattle.bounds.specs.Bounds.{head_sizes}
use Rattle.head.specs.declared.Head.{Head}

-- how many numbers stand before the sizes, and how many a head is
abbrev pub before_sizes : ℕ
before_sizes = 3

abbrev pub head_numbers : ℕ
head_numbers = before_sizes + head_sizes

-- the numbers of a head, and the head of so many numbers
abbrev pub numbers_of : Head → List ℕ
numbers_of head = head.kind ∷ head.count ∷ head.levels ∷ head.sizes

abbrev pub head_of : List ℕ → Head
head_of ns = record { kind = get_or ns 0 0; count = get_or ns 1 0; levels = get_or ns 2 0; sizes = drop before_sizes ns }
