-- What a build begins its run with, and what it makes of the run's end.
use Rattle.std.specs.Prelude.{List, ℕ, length, Result, Ok, Err}
use Rattle.laws.specs.Stores.{fronted, zeros}
use Rattle.refusal.specs.Answers.{answered, refused}
use Rattle.refusal.specs.declared.Refusal.{Refusal}
use Rattle.head.specs.Index.{no_head}
use Rattle.run.specs.Stores.{Stores, stores}
use Rattle.build.specs.Build.{BuildEnd, build_after}

-- the stores that a run begins with: 0, and the ids at the front of the rest store
abbrev pub prepared : List ℕ → Stores → Stores
prepared ids s = stores (zeros (length s.words)) (zeros (length s.samples)) (zeros (length s.collide)) (fronted ids s.rest)

-- the stores with a rest store of 0, and those with words and samples of 0 too
abbrev pub cleared_rest : Stores → Stores
cleared_rest s = stores s.words s.samples s.collide (zeros (length s.rest))

abbrev pub cleared_run : Stores → Stores
cleared_run s = stores (zeros (length s.words)) (zeros (length s.samples)) s.collide (zeros (length s.rest))

-- what a run by the kind of this number, over so many ids, leaves of the stores that it ended with: the rest store is 0, and after a refused run words and samples are 0 too
abbrev pub after_run : Result ℕ Refusal → ℕ → ℕ → List ℕ → Stores → BuildEnd
after_run (Ok n) number count sizes s = answered 0 (build_after (record { kind = number; count = count; levels = n; sizes = sizes }) (cleared_rest s))
after_run (Err why) number count sizes s = refused (build_after no_head (cleared_run s)) why
