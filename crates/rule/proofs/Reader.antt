-- What a reader of any sizes and bits finds: the laws of lookup, and a row by its sample. Assumes nothing.
use mathlib.Core.Path.{◌≡◌, refl, ap, ap₂, ◌∙◌, subst}
use mathlib.Core.Bool.{Bool, true, false, cond}
use mathlib.Core.Option.{Option, none, some}
use Prim.Native.Nat.{ℕ, zero, suc, ◌+◌, ◌*◌, ◌/◌, ◌%◌, ◌≤◌, ◌<◌}
use native.Mathlib.Nat.{div-add-mod}
use native.Mathlib.Omega.{arith}
use Rattle.bounds.specs.Bounds.{sample_bits}
use Rattle.laws.specs.Counting.{one, rank}
use Rattle.laws.proofs.Cases.{Tri, lt, eq, gt, tri}
use Rattle.laws.proofs.Sums.{sum_same, sum_mono, sum_split, rank_same, rank_lt}
use Rattle.rule.specs.Rule.{ones, base, row_at, sample, RowPlace, first, place, lookup, row_of}

-- a row is the sample at position / 512 and the ones from there on
pub row_by_sample : (span : ℕ → ℕ) (bits : ℕ → ℕ → Bool) (i p : ℕ)
    → row_at span bits i p ≡ sample span bits i (p / sample_bits) + rank (λ q. bits i (sample_bits * (p / sample_bits) + q)) (p % sample_bits)
row_by_sample span bits i p =
    let e : rank (bits i) (sample_bits * (p / sample_bits) + p % sample_bits) ≡ rank (bits i) p = ap (rank (bits i)) (div-add-mod p sample_bits) in
    omega (arith, sum_split (λ q. one (bits i q)) (sample_bits * (p / sample_bits)) (p % sample_bits))

-- a row that is found is that of a place
pub row_found : (o : Option RowPlace) (k : ℕ) → row_of o ≡ some k → (u : RowPlace) × (o ≡ some u) × (u.row ≡ k)
row_found none k e = let z : ◌≡◌ {A = ℕ} 0 1 = cc in absurd (omega arith)
row_found (some u) k e = (u, refl, cc)

module _ (pos : ℕ → ℕ → ℕ → ℕ) (span : ℕ → ℕ) (bits : ℕ → ℕ → Bool) where
  -- the first level that has the bit of x
  pub first_is : (n i j x : ℕ) → i ≤ j → j < i + n → ((m : ℕ) → m < j → bits m (pos m (span m) x) ≡ false) → bits j (pos j (span j) x) ≡ true
      → first pos span bits n i x ≡ some j
  unfolding first
  first_is zero i j x a b f t = absurd (omega arith)
  first_is (suc n) i j x a b f t = go (tri i j) (λ h. first_is n (suc i) j x h (omega arith) f t)
    where
      go : Tri i j → (i < j → first pos span bits n (suc i) x ≡ some j) → first pos span bits (suc n) i x ≡ some j
      go (lt h) r = rw (f i h) (r h)
      go (eq e) r = rw (e, t)
      go (gt h) r = absurd (omega arith)

  -- no level has it
  pub first_none : (n i x : ℕ) → ((m : ℕ) → m < i + n → bits m (pos m (span m) x) ≡ false) → first pos span bits n i x ≡ none
  unfolding first
  first_none zero i x f = refl
  first_none (suc n) i x f = rw (f i (omega arith)) (first_none n (suc i) x (λ m h. f m (omega arith)))

  -- a level that is found has the bit, and is one of the n
  pub first-has : (n i j x : ℕ) → first pos span bits n i x ≡ some j → (bits j (pos j (span j) x) ≡ true) × (j < i + n)
  unfolding first
  first-has zero i j x e = let z : ◌≡◌ {A = ℕ} 0 1 = cc in absurd (omega arith)
  first-has (suc n) i j x e = go (bits i (pos i (span i) x)) refl e (first-has n (suc i) j x)
    where
      go : (b : Bool) → bits i (pos i (span i) x) ≡ b → cond b (some i) (first pos span bits n (suc i) x) ≡ some j
          → (first pos span bits n (suc i) x ≡ some j → (bits j (pos j (span j) x) ≡ true) × (j < suc i + n))
          → (bits j (pos j (span j) x) ≡ true) × (j < i + suc n)
      go true t q r =
          let z : i ≡ j = cc in
          (rw (← z) t, omega arith)
      go false t q r =
          let h = r q in
          (h.0, omega (arith, h.1))

  -- what a lookup finds is the place of x in such a level
  pub record Finds (n x : ℕ) (u : RowPlace) : Type 0 where
    pub level_lt : u.level < n
    pub position_is : u.position ≡ pos u.level (span u.level) x
    pub is_set : bits u.level u.position ≡ true
    pub row_is : u.row ≡ row_at span bits u.level u.position

  pub lookup_finds : (n x : ℕ) {u : RowPlace} → lookup pos span bits n x ≡ some u → Finds n x u
  lookup_finds n x {u} e = go (first pos span bits n 0 x) refl e
    where
      go : (o : Option ℕ) → first pos span bits n 0 x ≡ o → place pos span bits x o ≡ some u → Finds n x u
      go none f q = let z : ◌≡◌ {A = ℕ} 0 1 = cc in absurd (omega arith)
      go (some j) f q =
          let h = first-has n 0 j x f in
          let z : record { row = row_at span bits j (pos j (span j) x); level = j; position = pos j (span j) x } ≡ u = cc in
          subst (Finds n x) z (record { level_lt = omega (arith, h.1); position_is = refl; is_set = h.0; row_is = refl })

  -- no row lies beyond the set bits, whatever is looked for
  pub lookup-lt : (n : ℕ) → ((i x : ℕ) → i < n → pos i (span i) x < span i) → (x : ℕ) {u : RowPlace} → lookup pos span bits n x ≡ some u
      → u.row < base span bits n
  lookup-lt n within x {u} e =
      let f = lookup_finds n x e in
      let p : u.position < span u.level = rw f.position_is (within u.level x f.level_lt) in
      omega (
        arith,
        f.row_is,
        rank_lt (bits u.level) u.position (span u.level) f.is_set p,
        sum_mono (ones span bits) {m = suc u.level} {n = n} f.level_lt,
      )

-- ---- two readers

-- who see the same bit at the position of x in each of the levels find the same first level
pub first_same : (pos : ℕ → ℕ → ℕ → ℕ) (s t : ℕ → ℕ) (b c : ℕ → ℕ → Bool) (x m i : ℕ)
    → ((j : ℕ) → j < i + m → b j (pos j (s j) x) ≡ c j (pos j (t j) x)) → first pos s b m i x ≡ first pos t c m i x
unfolding first
first_same pos s t b c x zero i e = refl
first_same pos s t b c x (suc m) i e = rw (e i (omega arith), first_same pos s t b c x m (suc i) (λ j h. e j (omega arith)))

-- who have the same n levels: the same sizes, and the same bits below them

pub record SameLevels (s t : ℕ → ℕ) (b c : ℕ → ℕ → Bool) (n : ℕ) : Type 0 where
  pub sizes : (i : ℕ) → i < n → s i ≡ t i
  pub bits : (i p : ℕ) → i < n → p < s i → b i p ≡ c i p

module _ (s t : ℕ → ℕ) (b c : ℕ → ℕ → Bool) (n : ℕ) (same : SameLevels s t b c n) where
  -- have the same bases, rows and samples
  pub base_agrees : (i : ℕ) → i ≤ n → base s b i ≡ base t c i
  base_agrees i h = sum_same _ _ i each
    where
      each : (j : ℕ) → j < i → ones s b j ≡ ones t c j
      each j l = rank_same (b j) (c j) (s j) (λ p q. same.bits j p (omega arith) q) ∙ ap (rank (c j)) (same.sizes j (omega arith))

  pub row_agrees : (i p : ℕ) → i < n → p ≤ s i → row_at s b i p ≡ row_at t c i p
  row_agrees i p h l = omega (arith, base_agrees i (omega arith), rank_same (b i) (c i) p (λ q m. same.bits i q h (omega arith)))

  -- and the same lookups, where positions lie below the sizes
  module _ (pos : ℕ → ℕ → ℕ → ℕ) (within : (i x : ℕ) → i < n → pos i (s i) x < s i) where
    first_agrees : (x : ℕ) → first pos s b n 0 x ≡ first pos t c n 0 x
    first_agrees x =
        first_same pos s t b c x n 0
        (λ j h.
        same.bits j (pos j (s j) x) (omega arith) (within j x (omega arith)) ∙ ap (λ (k : ℕ). c j (pos j k x)) (same.sizes j (omega arith)))

    pub lookup_agrees : (x : ℕ) → lookup pos s b n x ≡ lookup pos t c n x
    lookup_agrees x = go (first pos s b n 0 x) refl ∙ ap (place pos t c x) (first_agrees x)
      where
        go : (o : Option ℕ) → first pos s b n 0 x ≡ o → place pos s b x o ≡ place pos t c x o
        go none e = refl
        go (some j) e =
            let h : j < n = omega (arith, (first-has pos s b n 0 j x e).1) in
            let p : pos j (s j) x ≡ pos j (t j) x = ap (λ (k : ℕ). pos j k x) (same.sizes j h) in
            ap₂ (λ (k q : ℕ). some (record { row = k; level = j; position = q }))
            (row_agrees j (pos j (s j) x) h (omega (arith, within j x h)) ∙ ap (row_at t c j) p) p
