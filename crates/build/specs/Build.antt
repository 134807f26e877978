-- A build: the checks in their order, then the run of levels, laid out in the stores.
use Rattle.std.specs.Prelude.{ℕ, not, ◌&&◌, List, leb, Float, length, Result, Ok, Err}
use Rattle.bounds.specs.Bounds.{max_ids, level_limit}
use Rattle.laws.specs.Bits.{words_for}
use Rattle.laws.specs.Stores.{zeros, filled}
use Rattle.refusal.specs.Answers.{Outcome, answered, refused, check}
use Rattle.refusal.specs.declared.Refusal.{Refusal}
use Rattle.refusal.specs.declared.Refusal.TheVariants.{GammaTooSmall, GammaTooLarge, TooManyIds, ShortWorkStore, NoRoomForLevel, IdsRemain}
use Rattle.rule.specs.Rule.{RunEnd, built, no_room, ids_left, run}
use Rattle.sizes.specs.Gamma.{above_min, above_max}
use Rattle.sizes.specs.Sizes.{size_for}
use Rattle.mixer.specs.Kinds.{kind_of}
use Rattle.head.specs.KindCheck.{check_kind}
use Rattle.mixer.specs.declared.Kind.{Kind}
use Rattle.run.specs.Stores.{Stores, stores}
use Rattle.head.specs.Index.{rule_of, room_of, index_words, index_samples, index_head, no_head}
use Rattle.head.specs.declared.Head.{Head}

-- what a build leaves: the head that it answers, and the stores
pub record BuildAfter : Type 0 where
  pub head : Head
  pub stores : Stores

abbrev pub build_after : Head → Stores → BuildAfter
build_after head s = record { head = head; stores = s }

-- the outcome of a build, and that of the code's answer beside the stores: the head that is answered, or that of no index
abbrev pub BuildEnd : Type 0
BuildEnd = Outcome BuildAfter

abbrev pub built_of : Result Head Refusal → Stores → BuildEnd
built_of (Ok head) s = answered 0 (build_after head s)
built_of (Err why) s = refused (build_after no_head s) why

-- ---- the checks

-- the checks of a build of n ids, with work stores of so many places
unfoldable pub build_checks : Float → ℕ → ℕ → ℕ → Result Unit Refusal
build_checks gamma n collideRoom restRoom =
    check (above_min gamma) GammaTooSmall Err
    (check (not (above_max gamma)) GammaTooLarge Err
    (check (leb n max_ids) TooManyIds Err
    (check (leb n restRoom && leb (words_for (size_for gamma n)) collideRoom) ShortWorkStore Err
    (Ok tt))))

-- ---- the end of a run

-- stores with nothing but 0
abbrev pub cleared : Stores → Stores
cleared s = stores (zeros (length s.words)) (zeros (length s.samples)) (zeros (length s.collide)) (zeros (length s.rest))

-- a refused run: its reason, a head of 0, and stores of 0
abbrev pub refused_run : Refusal → Stores → BuildEnd
refused_run why s = refused (build_after no_head (cleared s)) why

-- what the run's end leaves: the index, with 0 past it and in the work stores; or the refusal that gives the level, or how many ids remain
abbrev pub ended : Kind → Float → List ℕ → Stores → RunEnd → BuildEnd
ended kind gamma ids s (built n) =
    answered 0 (build_after (index_head (rule_of kind gamma) ids kind n) (stores
    (filled (index_words (rule_of kind gamma) ids n) (length s.words))
    (filled (index_samples (rule_of kind gamma) ids n) (length s.samples))
    (zeros (length s.collide))
    (zeros (length s.rest))))
ended kind gamma ids s (no_room i) = refused_run (NoRoomForLevel i) s
ended kind gamma ids s (ids_left n) = refused_run (IdsRemain n) s

-- ---- the call

-- what comes after the checks of a known kind: where they refuse, a head of 0 and the stores as they were, and else the run
abbrev pub after_checks : Result Unit Refusal → Kind → Float → List ℕ → Stores → BuildEnd
after_checks (Err why) kind gamma ids s = refused (build_after no_head s) why
after_checks (Ok done) kind gamma ids s = ended kind gamma ids s (run (rule_of kind gamma) (room_of (length s.words) (length s.samples)) ids level_limit)

-- A build of the ids in the stores, by the number of its kind: the checks, that of the kind first, which leave the stores as they were, then the run.
unfoldable pub build_call : ℕ → Float → List ℕ → Stores → BuildEnd
build_call number gamma ids s =
    check_kind (kind_of number) (refused (build_after no_head s)) λ kind.
    after_checks (build_checks gamma (length ids) (length s.collide) (length s.rest)) kind gamma ids s
