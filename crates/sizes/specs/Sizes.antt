-- How many bits a level has for the ids that remain, and how many samples: in whole numbers alone. proofs/Floats.antt shows that the size is also what
-- the multiplication of IEEE 754 gives.
use Rattle.std.specs.Prelude.{ℕ, ◌+◌, ◌-◌, ◌*◌, ◌/◌, ◌%◌, ◌^◌, max, cond, leb, eqb, Float}
use Rattle.std.specs.Float.Ieee.Positive.{num, den}
use Rattle.bounds.specs.Bounds.{min_bits, sample_words}
use Rattle.laws.specs.Counting.{rank}

-- how many binary digits x has, p at most: one for each power of two, from 2 ^ 0 on, that is not above x
abbrev pub digits : ℕ → ℕ → ℕ
digits p x = rank (λ k. leb (2 ^ k) x) p

-- n / d to the nearest whole number, a half to the even one: the whole part q, or q + 1. Twice the rest is d at a half, and less than d below one.
unfoldable pub rounded : ℕ → ℕ → ℕ
rounded n d =
    let q = n / d in
    let twice = 2 * (n % d) in
    cond (eqb twice d) (q + q % 2) (cond (leb twice d) q (q + 1))

-- n / d taken to p significant binary digits, a half to even, and of that the whole part. It is asked for an n / d of 0, or from 1 to below 2 ^ p: then
-- the first `digits p (n / d)` of the p digits stand before the point and the other k behind it, so n / d is rounded to a multiple of 1 / 2 ^ k.
unfoldable pub whole_of : ℕ → ℕ → ℕ → ℕ
whole_of p n d = let k = p - digits p (n / d) in rounded (n * 2 ^ k) d / 2 ^ k

-- the significant binary digits of an f64
abbrev pub precision : ℕ
precision = 53

-- The whole part of the f64 product of gamma and r. gamma is a fraction of whole numbers, `num gamma / den gamma`: a finite f64 is m * 2 ^ e for whole
-- numbers m and e, and that is the fraction (m * 2 ^ e) / 1, or m / 2 ^ -e where e is negative.
abbrev pub whole_product : Float → ℕ → ℕ
whole_product gamma r = whole_of precision (num gamma * r) (den gamma)

-- the bits of a level for r remaining ids
unfoldable pub size_for : Float → ℕ → ℕ
size_for gamma r = max min_bits (whole_product gamma r)

-- the samples of so many words: one for every 8 words, rounded up
abbrev pub samples_for : ℕ → ℕ
samples_for words = (words + (sample_words - 1)) / sample_words
