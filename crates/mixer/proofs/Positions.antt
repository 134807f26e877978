-- A hash of any kind is a word, the fold of a word half a word, and a position by any hash that gives words lies below the size, whatever the level and the id. Assumes nothing.
use Rattle.std.proofs.Common.{ℕ, ◌/◌, ◌%◌, ◌^◌, ◌<◌, lt_of_le_of_lt, mod-lt, div-lt_iff_lt-mul, mul-lt-mul_of_pos_right, arith, pow_pos}
use lib.Pow.{shr_le}
use lib.Bits.{xor_lt}
use Rattle.mixer.specs.declared.Kind.{Kind}
use Rattle.mixer.specs.declared.Kind.TheVariants.{Plain}
use Rattle.mixer.specs.Mixer.{stirred, mixed, seed_word, hashed}
use Rattle.mixer.specs.Position.{folded, scaled, position_by, position}

pub stirred-lt : (k n : ℕ) → stirred k (n % 2 ^ 64) < 2 ^ 64
stirred-lt k n =
    let h : n % 2 ^ 64 < 2 ^ 64 = mod-lt n (pow_pos 64) in
    xor_lt 64 (n % 2 ^ 64) (n % 2 ^ 64 / 2 ^ k) h (lt_of_le_of_lt (shr_le (n % 2 ^ 64) k) h)

pub mixed-lt : (id seed : ℕ) → mixed id seed < 2 ^ 64
unfolding mixed
mixed-lt id seed = search stirred-lt

-- the hash of each kind is a word
hashed-lt : (kind : Kind) (i id : ℕ) → hashed kind i id < 2 ^ 64
hashed-lt Plain i id = mixed-lt id (seed_word i)

pub folded-lt : (h : ℕ) → h < 2 ^ 64 → folded h < 2 ^ 32
folded-lt h l = xor_lt 32 (h % 2 ^ 32) (h / 2 ^ 32) (omega arith) (omega arith)

pub scaled-lt : (f s : ℕ) → f < 2 ^ 32 → 0 < s → scaled f s < s
scaled-lt f s h p = (div-lt_iff_lt-mul (pow_pos 32)).1 (omega (arith, mul-lt-mul_of_pos_right h p))

-- a position is below the size, by any hash that gives words
pub position_by_lt : (hash : ℕ → ℕ → ℕ) → ((i id : ℕ) → hash i id < 2 ^ 64) → (i s id : ℕ) → 0 < s → position_by hash i s id < s
position_by_lt hash words i s id p = scaled-lt (folded (hash i id)) s (folded-lt (hash i id) (words i id)) p

-- and so by each kind
pub position-lt : (kind : Kind) (i s id : ℕ) → 0 < s → position kind i s id < s
unfolding position
position-lt kind i s id p = position_by_lt (hashed kind) (hashed-lt kind) i s id p
