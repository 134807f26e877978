-- The stores that a build works in.
use Rattle.std.specs.Prelude.{◌≡◌, List, ℕ, length}
use Rattle.run.specs.declared.Stores as Lent

-- the four stores of a build: words and samples of the index, and the work stores
pub record Stores : Type 0 where
  pub words : List ℕ
  pub samples : List ℕ
  pub collide : List ℕ
  pub rest : List ℕ

abbrev pub stores : List ℕ → List ℕ → List ℕ → List ℕ → Stores
stores words samples collide rest = record { words = words; samples = samples; collide = collide; rest = rest }

-- what the stores that are lent hold
abbrev pub held : Lent.Stores → Stores
held s = stores s.words.now s.samples.now s.collide.now s.rest.now

-- After a call the same stores are lent, each as long as it was.
pub record SameStores (s t : Lent.Stores) : Type 0 where
  pub words : t.words.ghost_name ≡ s.words.ghost_name
  pub samples : t.samples.ghost_name ≡ s.samples.ghost_name
  pub collide : t.collide.ghost_name ≡ s.collide.ghost_name
  pub rest : t.rest.ghost_name ≡ s.rest.ghost_name
  pub words_long : length t.words.now ≡ length s.words.now
  pub samples_long : length t.samples.now ≡ length s.samples.now
  pub collide_long : length t.collide.now ≡ length s.collide.now
  pub rest_long : length t.rest.now ≡ length s.rest.now
