-- Stores as lists of numbers: what stands at the front, what stands past it, and what is put in from a place on.
use Rattle.std.specs.Prelude.{ℕ, ◌-◌, List, ◌++◌, length, take, drop, replicate}

-- n places of 0
abbrev pub zeros : ℕ → List ℕ
zeros n = replicate n 0

-- a store of so many places with xs at its front and 0 past it
abbrev pub filled : List ℕ → ℕ → List ℕ
filled xs room = xs ++ zeros (room - length xs)

-- a store with xs at its front, and as it was past that
abbrev pub fronted : List ℕ → List ℕ → List ℕ
fronted xs store = xs ++ drop (length xs) store

-- a store with xs in it from place k on
abbrev pub pasted : ℕ → List ℕ → List ℕ → List ℕ
pasted k xs store = take k store ++ fronted xs (drop k store)
