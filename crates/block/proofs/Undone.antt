-- Each step of a check can be undone, so that words that differ in exactly one place have different checks. Assumes nothing.
use mathlib.Core.Path.{◌≡◌, sym, ap, ap₂, ◌∙◌}
use mathlib.Core.List.{List, [], ◌∷◌}
use Prim.Native.Nat.{ℕ, suc, ◌+◌, ◌^◌, ◌<◌}
use native.Mathlib.Omega.{arith}
use lib.Bits.{bit_xor, xor_comm, xor_lt}
use lib.ListN.{length, get_or, take, drop, length-drop}
use lib.Pow.{pow_pos}
use lib.Seq.{ext_get_or, get_or-drop, get_or-take, length-take-le, split_at}
use Rattle.laws.specs.Bits.{Words}
use Rattle.laws.proofs.Undone.{xor_undone}
use Rattle.mixer.specs.Mixer.{mixed}
use Rattle.mixer.proofs.OneToOne.{mixed_undone}
use Rattle.mixer.proofs.Positions.{mixed-lt}
use Rattle.block.specs.Block.{check_step, check_from, check_of}
use Rattle.block.specs.Differ.{DifferOnce}
use Rattle.block.proofs.Checks.{check-append}

-- a check that starts at a word is a word
pub check-lt : (k : ℕ) (ws : List ℕ) → k < 2 ^ 64 → check_from k ws < 2 ^ 64
unfolding check_from
check-lt k [] h = h
check-lt k (w ∷ ws) h = check-lt (check_step k w) ws (mixed-lt (bit_xor k w) 0)

-- a step can be undone in what it starts at, and in the word
step_undone : (a b w : ℕ) → a < 2 ^ 64 → b < 2 ^ 64 → w < 2 ^ 64 → check_step a w ≡ check_step b w → a ≡ b
step_undone a b w ha hb hw e = xor_undone a b w (mixed_undone 0 (bit_xor a w) (bit_xor b w) (xor_lt 64 a w ha hw) (xor_lt 64 b w hb hw) e)

word_undone : (k a b : ℕ) → k < 2 ^ 64 → a < 2 ^ 64 → b < 2 ^ 64 → check_step k a ≡ check_step k b → a ≡ b
word_undone k a b hk ha hb e =
    step_undone a b k ha hb hk (ap (λ (x : ℕ). mixed x 0) (xor_comm a k) ∙ e ∙ ap (λ (x : ℕ). mixed x 0) (xor_comm k b))

-- and so can a chain of them
chain_undone : (ws : List ℕ) (a b : ℕ) → Words ws → a < 2 ^ 64 → b < 2 ^ 64 → check_from a ws ≡ check_from b ws → a ≡ b
unfolding check_from
chain_undone [] a b f ha hb e = e
chain_undone (w ∷ ws) a b f ha hb e =
    step_undone a b w ha hb (f 0)
    (chain_undone ws (check_step a w) (check_step b w) (λ i. f (suc i)) (mixed-lt (bit_xor a w) 0) (mixed-lt (bit_xor b w) 0) e)

pub checks_differ : (us vs : List ℕ) → Words us → Words vs → DifferOnce us vs → check_of us ≡ check_of vs → ⊥
unfolding check_from
checks_differ us vs f g d e =
    let p = d.place in
    let l : p < length vs = rw (← d.as_long) d.within in
    let before : take p us ≡ take p vs =
    ext_get_or 0 _ _ (length-take-le p us (omega (arith, d.within)) ∙ sym (length-take-le p vs (omega arith)))
    (λ i h.
    let m : i < p = rw (length-take-le p us (omega (arith, d.within))) at h in
    get_or-take p us i 0 m ∙ d.elsewhere i (omega arith) ∙ sym (get_or-take p vs i 0 m)) in
    let past : drop (suc p) us ≡ drop (suc p) vs =
    ext_get_or 0 _ _ (simp (length-drop, d.as_long))
    (λ i h. get_or-drop (suc p) us i 0 ∙ d.elsewhere (suc p + i) (omega arith) ∙ sym (get_or-drop (suc p) vs i 0)) in
    let k = check_of (take p vs) in
    let kl = check-lt 0 (take p vs) (pow_pos 64) in
    let walk : (ws : List ℕ) → p < length ws → check_of ws ≡ check_from (check_step (check_of (take p ws)) (get_or ws p 0)) (drop (suc p) ws) =
    λ ws h. ap check_of (split_at ws p 0 h) ∙ check-append 0 (take p ws) (get_or ws p 0 ∷ drop (suc p) ws) in
    let same : check_from (check_step k (get_or us p 0)) (drop (suc p) vs) ≡ check_from (check_step k (get_or vs p 0)) (drop (suc p) vs) =
    ap₂ (λ (x y : List ℕ). check_from (check_step (check_of x) (get_or us p 0)) y) (sym before) (sym past) ∙ sym (walk us d.within) ∙ e ∙ walk vs l in
    d.differ
    (word_undone k (get_or us p 0) (get_or vs p 0) kl (f p) (g p)
    (chain_undone (drop (suc p) vs) _ _ (λ i. rw (get_or-drop (suc p) vs i 0) (g (suc p + i))) (mixed-lt _ 0) (mixed-lt _ 0) same))
