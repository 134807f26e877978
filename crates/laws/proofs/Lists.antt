-- Lists of words: one word more, one after another, a part, and one word changed. Assumes nothing.
use mathlib.Core.List.{List, [], ◌∷◌, ◌++◌}
use Prim.Native.Nat.{ℕ, zero, suc, ◌^◌, ◌<◌}
use native.Mathlib.Omega.{arith}
use lib.ListN.{set, take}
use lib.Pow.{pow_pos}
use Rattle.laws.specs.Bits.{Words}
use Rattle.laws.specs.Counting.{chain, each}

pub words_cons : (w : ℕ) (ws : List ℕ) → w < 2 ^ 64 → Words ws → Words (w ∷ ws)
words_cons w ws h f zero = h
words_cons w ws h f (suc i) = f i

pub words_append : (us vs : List ℕ) → Words us → Words vs → Words (us ++ vs)
words_append [] vs f g i = g i
words_append (u ∷ us) vs f g zero = f 0
words_append (u ∷ us) vs f g (suc i) = words_append us vs (λ k. f (suc k)) g i

pub words_chain : (f : ℕ → List ℕ) (n : ℕ) → ((b : ℕ) → b < n → Words (f b)) → Words (chain f n)
words_chain f zero g = λ i. pow_pos 64
words_chain f (suc n) g = words_append (chain f n) (f n) (words_chain f n (λ b h. g b (omega arith))) (g n (omega arith))

pub words_each : (f : ℕ → ℕ) (n : ℕ) → ((i : ℕ) → i < n → f i < 2 ^ 64) → Words (each f n)
unfolding each
words_each f n g = words_chain (λ i. f i ∷ []) n (λ i h. words_cons (f i) [] (g i h) (λ k. pow_pos 64))

pub words_take : (n : ℕ) (ws : List ℕ) → Words ws → Words (take n ws)
words_take zero ws f i = pow_pos 64
words_take (suc n) [] f i = pow_pos 64
words_take (suc n) (w ∷ ws) f i = words_cons w (take n ws) (f 0) (words_take n ws (λ k. f (suc k))) i

pub words_set : (ws : List ℕ) (j v : ℕ) → Words ws → v < 2 ^ 64 → Words (set ws j v)
words_set [] j v f h i = f i
words_set (w ∷ ws) zero v f h zero = h
words_set (w ∷ ws) zero v f h (suc i) = f (suc i)
words_set (w ∷ ws) (suc j) v f h zero = f 0
words_set (w ∷ ws) (suc j) v f h (suc i) = words_set ws j v (λ k. f (suc k)) h i
