-- Packing a plain set into words and reading it back: the bits decide the words. Assumes nothing.
use mathlib.Core.Path.{◌≡◌, refl, sym, ap, ap₂, ◌∙◌}
use mathlib.Core.Bool.{Bool}
use mathlib.Core.List.{List, [], ◌∷◌, ◌++◌}
use Prim.Native.Nat.{ℕ, suc, ◌+◌, ◌-◌, ◌*◌, ◌/◌, ◌%◌, ◌^◌, ◌≤◌, ◌<◌}
use native.Mathlib.Nat.{add-zero, le_refl, mod-eq_of_lt, mod-lt}
use native.Mathlib.Omega.{arith}
use lib.Dec.{ltb, lit<, lit≤}
use lib.ListN.{length, get_or, take, drop, replicate, take-append-drop, length-replicate, get_or-replicate}
use lib.Seq.{ext_get_or, length-take-le, take-length, get_or-take}
use Rattle.laws.specs.Counting.{one}
use Rattle.laws.specs.Bits.{digit, has, Words, number, word_of, packed}
use Rattle.laws.proofs.Cases.{one_inj}
use Rattle.laws.proofs.Sums.{sum_ones, sum_same}
use Rattle.laws.proofs.Chains.{length-chain, chain_at, chain_same}
use Rattle.laws.proofs.Digits.{digits_sum, number-digit, number_low}
use Rattle.laws.proofs.Words.{has_at, has-digit}

-- the low k digits of a word of a list, from its bits
pub number-has : (ws : List ℕ) (i k : ℕ) → k ≤ 64 → number (λ j. has ws (64 * i + j)) k ≡ get_or ws i 0 % 2 ^ k
number-has ws i k h =
    sum_same _ _ k (λ j l. ap (λ (d : ℕ). d * 2 ^ j) (has-digit ws i j (omega arith))) ∙ sym (digits_sum (get_or ws i 0) k)

pub word_has : (ws : List ℕ) (i : ℕ) → get_or ws i 0 < 2 ^ 64 → word_of (has ws) i ≡ get_or ws i 0
word_has ws i h = number-has ws i 64 (lit≤ tt) ∙ mod-eq_of_lt h

-- ---- the packed words

pub length-packed : (n : ℕ) (s : ℕ → Bool) → length (packed n s) ≡ n
unfolding packed
length-packed n s = length-chain _ n ∙ sum_ones n

packed_at : (n : ℕ) (s : ℕ → Bool) (i : ℕ) → i < n → get_or (packed n s) i 0 ≡ word_of s i
unfolding packed
packed_at n s i l = rw (sum_ones i, add-zero i) at (chain_at (λ i. word_of s i ∷ []) (λ i. 1) (λ i. refl) n i 0 l (lit< tt))

-- read back, they hold the set
pub packed-has : (n : ℕ) (s : ℕ → Bool) (b : ℕ) → b < 64 * n → has (packed n s) b ≡ s b
packed-has n s b h =
    let e : 64 * (b / 64) + b % 64 ≡ b = omega arith in
    one_inj _ _
    (has_at (packed n s) b ∙ ap (λ (w : ℕ). digit w (b % 64)) (packed_at n s (b / 64) (omega arith))
    ∙ number-digit (λ k. s (64 * (b / 64) + k)) 64 (b % 64) (mod-lt b (lit< tt)) ∙ ap (λ (x : ℕ). one (s x)) e)

-- one word more
pub packed-suc : (n : ℕ) (s : ℕ → Bool) → packed (suc n) s ≡ packed n s ++ (word_of s n ∷ [])
unfolding packed
packed-suc n s = refl

-- sets that agree have the same words
pub packed_below : (n : ℕ) (s t : ℕ → Bool) → ((b : ℕ) → b < 64 * n → s b ≡ t b) → packed n s ≡ packed n t
unfolding packed
packed_below n s t e =
    chain_same _ _ n (λ i l. ap (λ (w : ℕ). w ∷ []) (sum_same _ _ 64 (λ k m. ap (λ (b : Bool). one b * 2 ^ k) (e (64 * i + k) (omega arith)))))

-- words of which each has its low t digits set
pub packed_low : (n t : ℕ) (s : ℕ → Bool) → t ≤ 64 → ((i k : ℕ) → i < n → k < 64 → s (64 * i + k) ≡ ltb k t) → packed n s ≡ replicate n (2 ^ t - 1)
packed_low n t s h e =
    ext_get_or 0 (packed n s) (replicate n (2 ^ t - 1)) (length-packed n s ∙ sym (length-replicate n (2 ^ t - 1)))
    (λ i l.
    let m : i < n = rw (length-packed n s) at l in
    packed_at n s i m ∙ number_low (λ k. s (64 * i + k)) t 64 h (λ k q. e i k m q) ∙ sym (get_or-replicate n i (2 ^ t - 1) 0 m))

-- ---- words from the set that they hold

pub packed-take : (n : ℕ) (ws : List ℕ) → n ≤ length ws → Words ws → packed n (has ws) ≡ take n ws
packed-take n ws h f =
    ext_get_or 0 (packed n (has ws)) (take n ws) (length-packed n (has ws) ∙ sym (length-take-le n ws h))
    (λ i l.
    let m : i < n = rw (length-packed n (has ws)) at l in
    packed_at n (has ws) i m ∙ word_has ws i (f i) ∙ sym (get_or-take n ws i 0 m))

pub packed_back : (ws : List ℕ) → Words ws → packed (length ws) (has ws) ≡ ws
packed_back ws f = packed-take (length ws) ws (le_refl (length ws)) f ∙ take-length ws

-- a store whose first n words hold a plain set, and which is as it was past them
pub packed_store : (n : ℕ) (s : ℕ → Bool) (ws us : List ℕ) → n ≤ length us → Words us → ((b : ℕ) → b < 64 * n → s b ≡ has us b)
    → drop n us ≡ drop n ws → us ≡ packed n s ++ drop n ws
packed_store n s ws us h f e d =
    sym (take-append-drop n us) ∙ ap₂ (λ (x y : List ℕ). x ++ y) (sym (packed_below n s (has us) e ∙ packed-take n us h f)) d

-- two lists of words with the same bits are the same
pub words_ext : (us vs : List ℕ) → length us ≡ length vs → Words us → Words vs → ((b : ℕ) → b < 64 * length us → has us b ≡ has vs b) → us ≡ vs
words_ext us vs l f g e =
    sym (packed_back us f) ∙ packed_below (length us) (has us) (has vs) e ∙ ap (λ (n : ℕ). packed n (has vs)) l ∙ packed_back vs g
