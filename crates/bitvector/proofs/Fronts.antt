-- Parts of a list of words: the bits of those at its front, and of those from one on. Assumes nothing.
use mathlib.Core.Path.{◌≡◌, sym, ap, ◌∙◌}
use mathlib.Core.List.{List, []}
use Prim.Native.Nat.{ℕ, zero, suc, ◌+◌, ◌*◌, ◌/◌, ◌%◌, ◌<◌}
use native.Mathlib.Nat.{suc-mul, zero-mul}
use native.Mathlib.Omega.{arith}
use lib.ListN.{length, get_or, take, drop, length-take, length-drop}
use lib.Seq.{drop-drop, get_or-drop, get_or-take}
use Rattle.std.specs.Simd.{first_chunks}
use Rattle.laws.specs.Counting.{one, rank}
use Rattle.laws.specs.Bits.{bit_at, has}
use Rattle.laws.proofs.Sums.{rank_same, sum_split}

-- the words of a part are those from i on
pub record PartOf (ws : List ℕ) (i : ℕ) (part : List ℕ) : Type 0 where
  pub bits : (b : ℕ) → b < 64 * length part → has part b ≡ has ws (64 * i + b)

-- as many bits as before it, and its own
pub part_rank : {ws : List ℕ} {i : ℕ} {part : List ℕ} → PartOf ws i part → rank (has ws) (64 * (i + length part)) ≡ rank (has ws) (64 * i) + rank (has part) (64 * length part)
part_rank {ws} {i} {part} p =
    let n : ℕ = 64 * length part in
    let e : 64 * (i + length part) ≡ 64 * i + n = omega arith in
    ap (rank (has ws)) e ∙ sum_split (λ b. one (has ws b)) (64 * i) n
    ∙ ap (λ (k : ℕ). rank (has ws) (64 * i) + k) (sym (rank_same (has part) (λ b. has ws (64 * i + b)) n p.bits))

-- ---- the words at the front

take_has : (ws : List ℕ) (n b : ℕ) → b < 64 * n → has (take n ws) b ≡ has ws b
unfolding has bit_at
take_has ws n b l = rw (get_or-take n ws (b / 64) 0 (omega arith))

module _ (ws : List ℕ) (n : ℕ) {front : List ℕ} (e : front ≡ take n ws) where
  pub front_has : (b : ℕ) → b < 64 * n → has front b ≡ has ws b
  front_has b l = ap (λ (vs : List ℕ). has vs b) e ∙ take_has ws n b l

  pub front_rank : length front ≡ n → rank (has front) (64 * length front) ≡ rank (has ws) (64 * n)
  front_rank l = ap (λ (k : ℕ). rank (has front) (64 * k)) l ∙ rank_same (has front) (has ws) (64 * n) front_has

-- ---- groups of 8 words, and the words past them

drop_has : (ws : List ℕ) (i b : ℕ) → has (drop i ws) b ≡ has ws (64 * i + b)
unfolding has bit_at
drop_has ws i b =
    let q : (64 * i + b) / 64 ≡ i + b / 64 = omega arith in
    let r : (64 * i + b) % 64 ≡ b % 64 = omega arith in
    rw (q, r, get_or-drop i ws (b / 64) 0)

-- in general a group of n words is the words from there on, n of them
group_is : (n k : ℕ) (ws : List ℕ) (i : ℕ) (d : List ℕ) → i < k → get_or (first_chunks n k ws) i d ≡ take n (drop (i * n) ws)
group_is n zero ws i d l = absurd (omega arith)
group_is n (suc k) ws zero d l = ap (λ (j : ℕ). take n (drop j ws)) (sym (zero-mul n))
group_is n (suc k) ws (suc i) d l =
    let e : n + i * n ≡ suc i * n = omega (arith, suc-mul i n) in
    group_is n k (drop n ws) i d (omega arith) ∙ ap (take n) (drop-drop (i * n) n ws ∙ ap (λ (j : ℕ). drop j ws) e)

-- the words of group g
pub record IsGroup (ws : List ℕ) (g : ℕ) (words : List ℕ) : Type 0 where
  pub eight : length words ≡ 8
  pub part : PartOf ws (g * 8) words

pub group_at : {groups : List (List ℕ)} (ws : List ℕ) → groups ≡ first_chunks 8 (length ws / 8) ws → (g : ℕ) → g < length ws / 8 → IsGroup ws g (get_or groups g [])
group_at {groups} ws e g l = record {
  eight = eight;
  part = record { bits = λ b m. ap (λ (l : List ℕ). has l b) words ∙ take_has (drop (g * 8) ws) 8 b (rw eight at m) ∙ drop_has ws (g * 8) b };
}
  where
    words : get_or groups g [] ≡ take 8 (drop (g * 8) ws)
    words = ap (λ (l : List (List ℕ)). get_or l g []) e ∙ group_is 8 (length ws / 8) ws g [] l

    eight : length (get_or groups g []) ≡ 8
    eight = ap length words ∙ simp (length-take, length-drop) (omega arith)

pub grouped : {ws : List ℕ} {g : ℕ} {words : List ℕ} → IsGroup ws g words → rank (has ws) (64 * ((g + 1) * 8)) ≡ rank (has ws) (64 * (g * 8)) + rank (has words) (64 * length words)
grouped {ws} {g} {words} x =
    let e : (g + 1) * 8 ≡ g * 8 + length words = omega (arith, x.eight) in
    ap (λ (k : ℕ). rank (has ws) (64 * k)) e ∙ part_rank x.part

-- the words past the groups
pub rest_part : (ws : List ℕ) (i : ℕ) {rest : List ℕ} → rest ≡ drop i ws → PartOf ws i rest
rest_part ws i e = record { bits = λ b m. ap (λ (l : List ℕ). has l b) e ∙ drop_has ws i b }

pub past_groups : (ws : List ℕ) {rest : List ℕ} → rest ≡ drop (length ws / 8 * 8) ws → (g : ℕ) → g ≡ length ws / 8
    → rank (has ws) (64 * length ws) ≡ rank (has ws) (64 * (g * 8)) + rank (has rest) (64 * length rest)
past_groups ws {rest} e g h =
    let m : length ws ≡ length ws / 8 * 8 + length rest = omega (arith, simp length-drop at (ap length e)) in
    ap (λ (k : ℕ). rank (has ws) (64 * k)) m ∙ part_rank (rest_part ws _ e) ∙ ap (λ (k : ℕ). rank (has ws) (64 * (k * 8)) + rank (has rest) (64 * length rest)) (sym h)
