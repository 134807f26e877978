-- The hash of an id at a level, by its kind. The plain kind is the plain mixer, which is the public SplitMix64 step, over the level's seed word. All in whole numbers, each word below 2 ^ 64.
use Rattle.std.specs.Prelude.{ℕ, ◌+◌, ◌*◌, ◌/◌, ◌%◌, ◌^◌, bit_xor}
use Rattle.mixer.specs.declared.Kind.{Kind}
use Rattle.mixer.specs.declared.Kind.TheVariants.{Plain}

-- z xor (z >> k)
abbrev pub stirred : ℕ → ℕ → ℕ
stirred k z = bit_xor z (z / 2 ^ k)

-- the plain mixer: a sum, two steps of stirring and multiplying modulo 2 ^ 64, and a last stirring
unfoldable pub mixed : ℕ → ℕ → ℕ
mixed id seed =
    let z = (id + seed + 0x9E37_79B9_7F4A_7C15) % 2 ^ 64 in
    let y = stirred 30 z * 0xBF58_476D_1CE4_E5B9 % 2 ^ 64 in
    let x = stirred 27 y * 0x94D0_49BB_1331_11EB % 2 ^ 64 in
    stirred 31 x

-- the seed word of level i, whatever the kind: 2 ^ (2 i mod 64), so that level 32 has that of level 0 again
abbrev pub seed_word : ℕ → ℕ
seed_word i = 2 ^ (2 * i % 64)

-- the hash of an id at level i, by each kind
abbrev pub hashed : Kind → ℕ → ℕ → ℕ
hashed Plain i id = mixed id (seed_word i)
