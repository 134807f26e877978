-- What is behind the front of a store is one list, so the store has what was moved there only where that list begins with it, and the rest only where that is what
-- comes then. Assumes nothing.
use Rattle.std.proofs.Common.{rules, ◌≡◌, ◌≢◌, ◌++◌, ℕ, List, [], length, take, drop, append-nil, append_assoc}
use Rattle.std.proofs.lemmas.List.Prefix.{front_rest}
use Rattle.std.specs.Prelude.{IsTrue, false}
use Rattle.lists.specs.Line.{lent_by}
use Rattle.lists.proofs.line.Line.is_left.Goals as goal

same_rest : (s p a b : List ℕ) → s ≡ p ++ a → s ≡ p ++ b → a ≡ b
same_rest s p a b g h =
    let x : drop (length p) s ≡ a = front_rest s p a g in
    let y : drop (length p) s ≡ b = front_rest s p b h in
    cc

not_moved : (s p left moved rest : List ℕ) → s ≡ p ++ left → ((more : List ℕ) → left ≢ moved ++ more)
    → (IsTrue false → s ≡ p ++ moved ++ rest) × (s ≡ p ++ moved ++ rest → IsTrue false)
not_moved s p left moved rest g none =
    (λ f. let z : ⊥ = cc in absurd z, λ h. absurd (none rest (same_rest s p left (moved ++ rest) g (rw append_assoc at h))))

not_rest : (s p left moved more rest : List ℕ) → s ≡ p ++ left → left ≡ moved ++ more → ((end : List ℕ) → more ≢ rest ++ end)
    → (IsTrue false → s ≡ p ++ moved ++ rest) × (s ≡ p ++ moved ++ rest → IsTrue false)
not_rest s p left moved more rest g m none = (
  λ f. let z : ⊥ = cc in absurd z,
  λ h. let same : more ≡ rest = same_rest left moved more rest m (same_rest s p left (moved ++ rest) g (rw append_assoc at h)) in
      absurd (none [] (rw append-nil same)),
)

pub returns-in_default-behind : goal.returns-in_default-behind
returns-in_default-behind c =
    let front : c.until-front.result.now ≡ take c.args.at (lent_by c.args.self) = c.until-front.ensures in
    let some : c.args.store.now ≡ c.until-front.result.now ++ c.in-Some.left.now = c.in-Some.ensures.some in
    let none : (more : List ℕ) → c.in-Some.left.now ≢ c.args.moved.now ++ more = c.in_default-behind.ensures.none in
    not_moved c.args.store.now (take c.args.at (lent_by c.args.self)) c.in-Some.left.now c.args.moved.now (drop (length c.args.moved.now) (drop c.args.at (lent_by c.args.self)))
    (rw front at some) none

pub returns-in_default-behind-2 : goal.returns-in_default-behind-2
returns-in_default-behind-2 c =
    let front : c.until-front.result.now ≡ take c.args.at (lent_by c.args.self) = c.until-front.ensures in
    let rest : c.from-rest.result.now ≡ drop (length c.args.moved.now) (drop c.args.at (lent_by c.args.self)) = search rules in
    let some : c.args.store.now ≡ c.until-front.result.now ++ c.in-Some.left.now = c.in-Some.ensures.some in
    let moved : c.in-Some.left.now ≡ c.args.moved.now ++ c.in-Some-behind.left.now = c.in-Some-behind.ensures.some in
    let none : (end : List ℕ) → c.in-Some-behind.left.now ≢ c.from-rest.result.now ++ end = c.in_default-behind-2.ensures.none in
    not_rest c.args.store.now (take c.args.at (lent_by c.args.self)) c.in-Some.left.now c.args.moved.now c.in-Some-behind.left.now
    (drop (length c.args.moved.now) (drop c.args.at (lent_by c.args.self))) (rw front at some) moved (rw rest at none)
