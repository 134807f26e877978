-- Small inputs at which the promises are worked out, by the plain kind, and what they have to come to.
use Rattle.std.specs.Prelude.{List, [], ◌∷◌, ℕ, ◌^◌, Float, Result, Ok, Err}
use Rattle.std.specs.Float.{binary64}
use Rattle.std.specs.Float.Ieee.{of_bits}
use Rattle.bounds.specs.Bounds.{head_sizes}
use Rattle.refusal.specs.declared.Refusal.{Refusal}
use Rattle.run.specs.Stores.{Stores, stores}
use Rattle.laws.specs.Stores.{zeros, filled}
use Rattle.head.specs.declared.Head.{Head}
use Rattle.finding.specs.declared.Place.{Place}

-- the f64s 1.5 and 2.0
abbrev pub one_and_half : Float
one_and_half = of_bits binary64 0x3FF8_0000_0000_0000

abbrev pub two : Float
two = of_bits binary64 0x4000_0000_0000_0000

-- ---- three ids at gamma 2.0

-- In level 0, of 255 bits, 2 has the position 197, and 1 and 3 share 139. In level 1, of 255 bits too, 3 has the position 58 and 1 has 191.
abbrev pub three : List ℕ
three = 1 ∷ 2 ∷ 3 ∷ []

-- stores of 0 that are just long enough
abbrev pub lent_three : Stores
lent_three = stores (zeros 8) (zeros 2) (zeros 4) (zeros 3)

-- the head, the answer, and the stores after it
abbrev pub three_head : Head
three_head = record { kind = 0; count = 3; levels = 2; sizes = filled (255 ∷ 255 ∷ []) head_sizes }

abbrev pub three_built : Result Head Refusal
three_built = Ok three_head

abbrev pub three_left : Stores
three_left = stores (0 ∷ 0 ∷ 0 ∷ 2 ^ 5 ∷ 2 ^ 58 ∷ 0 ∷ 2 ^ 63 ∷ 0 ∷ []) (0 ∷ 1 ∷ []) (zeros 4) (zeros 3)

-- ---- two ids at gamma 2.0

-- one level is enough for them: 1 has the position 139, and 2 has 197
abbrev pub pair : List ℕ
pair = 1 ∷ 2 ∷ []

abbrev pub lent_pair : Stores
lent_pair = stores (zeros 4) (zeros 1) (zeros 4) (zeros 2)

abbrev pub pair_head : Head
pair_head = record { kind = 0; count = 2; levels = 1; sizes = filled (255 ∷ []) head_sizes }

abbrev pub pair_built : Result Head Refusal
pair_built = Ok pair_head

abbrev pub pair_left : Stores
pair_left = stores (0 ∷ 0 ∷ 2 ^ 11 ∷ 2 ^ 5 ∷ []) (0 ∷ []) (zeros 4) (zeros 2)

-- their places there
abbrev pub first_place : Place
first_place = record { row = 0; level = 0; position = 139 }

abbrev pub second_place : Place
second_place = record { row = 1; level = 0; position = 197 }

-- ---- no ids and one id at gamma 2.0

-- an index of no ids has a level too
abbrev pub lent_none : Stores
lent_none = stores (zeros 4) (zeros 1) (zeros 4) []

abbrev pub none_head : Head
none_head = record { kind = 0; count = 0; levels = 1; sizes = filled (255 ∷ []) head_sizes }

abbrev pub none_built : Result Head Refusal
none_built = Ok none_head

abbrev pub none_left : Stores
none_left = stores (zeros 4) (zeros 1) (zeros 4) []

-- the one id 1 has the position 139
abbrev pub one : List ℕ
one = 1 ∷ []

abbrev pub lent_one : Stores
lent_one = stores (zeros 4) (zeros 1) (zeros 4) (zeros 1)

abbrev pub one_head : Head
one_head = record { kind = 0; count = 1; levels = 1; sizes = filled (255 ∷ []) head_sizes }

abbrev pub one_built : Result Head Refusal
one_built = Ok one_head

abbrev pub one_left : Stores
one_left = stores (0 ∷ 0 ∷ 2 ^ 11 ∷ 0 ∷ []) (0 ∷ []) (zeros 4) (zeros 1)

-- ---- refused builds

abbrev pub refused_with : Refusal → Result Head Refusal
refused_with why = Err why
