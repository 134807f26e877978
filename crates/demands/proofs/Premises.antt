-- What the theorems of this crate ask for can be had, and both sides of what they tell apart are there: the plain kind, gamma 2.0, two ids, and the stores of two examples.
-- Assumes nothing.
use mathlib.Core.Path.{◌≡◌, refl, ap}
use mathlib.Core.List.{List, [], ◌∷◌, ◌++◌, Permᴰ}
use Prim.Native.Nat.{ℕ, zero, suc, ◌≤◌}
use native.Mathlib.Omega.{arith}
use lib.Dec.{lit<, lit≤}
use lib.Ieee.{Float, of_bits, lt}
use lib.ListN.{length, take, replicate, length-replicate}
use Rattle.std.specs.Prelude.{Option, Some, Result, Ok}
use Rattle.refusal.specs.declared.Refusal.{Refusal}
use Rattle.demands.specs.Demands.{build_by, checks_of, of_run, InBounds, RoomEnough, listed_as, Indexed, SameRoom, SameEnd}
use Rattle.demands.specs.Rooms.{EndsAs, with_stores, cut}
use Rattle.demands.specs.Levels.{EachLevelLeft, FromWords}
use Rattle.demands.proofs.Demand3.{demand3, returned, levels_balance, samples_from_words}
use Rattle.demands.proofs.Larger.{more_room}
use Rattle.demands.proofs.Order.{build_permuted}
use Rattle.demands.proofs.Outcomes.{outcomes}
use Rattle.demands.specs.Inputs.{two}
use Rattle.demands.proofs.Room.{full_enough, room_always, endings, refusals}
use Rattle.demands.proofs.ShutOut.{not_all_first}
use Rattle.demands.proofs.Used.{front_past, indexed_in, cut_same, build_cut}
use Rattle.demands.proofs.Twice.{twice_left, twice_full}
use Rattle.laws.specs.Bits.{has, bit_at, packed}
use Rattle.laws.proofs.Counts.{perm_same}
use Rattle.mixer.specs.Kinds.{kind_of}
use Rattle.mixer.specs.declared.Kind.TheVariants.{Plain}
use Rattle.mixer.specs.Mixer.{mixed}
use Rattle.mixer.specs.Position.{position}
use Rattle.build.specs.Build.{BuildEnd, built_of, refused_run, build_checks, build_call}
use Rattle.run.specs.Stores.{Stores, stores}
use Rattle.laws.specs.Stores.{zeros}
use Rattle.head.specs.Index.{rule_of, index_words, index_samples, index_sizes}
use Rattle.head.specs.Layout.{bounded, fit}
use Rattle.finding.specs.Find.{found, nothing, answer_of, row_answer, find_in, refused_for}
use Rattle.lookup.specs.Lookup.{lookup_call}
use Rattle.rows.specs.Rows.{rows_call}
use Rattle.finding.specs.declared.Place.{Place}
use Rattle.ranks.specs.Ranks.{first_samples, ones_from}
use Rattle.refusal.specs.declared.Refusal.TheVariants.{NoRoomForLevel, IdsRemain, UnfitHead}
use Rattle.rule.specs.Rule.{remaining, run_from, first}
use Rattle.sizes.specs.Sizes.{size_for, whole_of, rounded}

abbrev gamma : Float
gamma = two

-- room for a hundred levels of the least size, and work stores for two ids
abbrev room : Stores
room = stores (zeros 400) (zeros 100) (zeros 4) (zeros 2)

-- two ids, and one id twice
abbrev pair : List ℕ
pair = 5 ∷ 7 ∷ []

abbrev double : List ℕ
double = 7 ∷ 7 ∷ []

-- ---- in bounds and with room enough, both are

in_bounds : (ids : List ℕ) (s : Stores) → length ids ≡ 2 → length s.rest ≡ 2 → length s.collide ≡ 4 → InBounds gamma ids s
unfolding lt of_bits size_for whole_of rounded
in_bounds ids s n r c = record {
  allowed = record { above = refl; within = refl };
  few_ids = rw n (lit≤ tt);
  rest_long = rw (n, r) (lit≤ tt);
  collide_long = rw (n, c) (lit≤ tt);
}

pair_bounds : InBounds gamma pair room
pair_bounds = in_bounds pair room refl refl refl

double_bounds : InBounds gamma double room
double_bounds = in_bounds double room refl refl refl

pair_room : RoomEnough Plain gamma pair room
unfolding of_bits size_for whole_of rounded
pair_room = full_enough Plain gamma pair room (record { words = lit≤ tt; samples = lit≤ tt })

double_room : RoomEnough Plain gamma double room
unfolding of_bits size_for whole_of rounded
double_room = full_enough Plain gamma double room (record { words = lit≤ tt; samples = lit≤ tt })

-- ---- two ids are accepted

accepted : (build_by Plain gamma pair room).refusal ≡ 0
unfolding lt of_bits size_for whole_of rounded kind_of build_call build_checks run_from remaining position mixed
accepted = refl

abbrev end : BuildEnd
end = build_by Plain gamma pair room

-- with level 0 alone
one_level : end.after.head.levels ≡ 1
unfolding lt of_bits size_for whole_of rounded kind_of build_call build_checks run_from remaining position mixed
one_level = refl

none_left : remaining (rule_of Plain gamma) pair 1 ≡ []
none_left = (((endings Plain gamma pair room pair_bounds).done 0).0 (accepted, one_level)).3

-- so that room for it is enough
abbrev tight : Stores
tight = stores (zeros 4) (zeros 1) (zeros 4) (zeros 2)

tight_room : RoomEnough Plain gamma pair tight
unfolding of_bits size_for whole_of rounded remaining
tight_room zero h r = refl
tight_room (suc i) h r = absurd (omega (arith, r.more_after 0 (omega arith), ap length none_left))

-- and in more room the build ends as in this
tight_more : EndsAs room (build_by Plain gamma pair tight) (build_by Plain gamma pair room)
tight_more =
    let b = in_bounds pair tight refl refl refl in
    (more_room Plain gamma pair tight room).ends_as b pair_bounds (record { words = lit≤ tt; samples = lit≤ tt }) (refusals Plain gamma pair tight tight_room b).never_5

-- and returned as the promise of `build` says
promised : built_of (Ok end.after.head) end.after.stores ≡ build_by Plain gamma pair room
unfolding lt of_bits size_for whole_of rounded kind_of build_call build_checks run_from remaining position mixed
promised = refl

index : Indexed pair (built_of (Ok end.after.head) end.after.stores)
index = returned Plain gamma pair room end.after.head end.after.stores promised

-- with rows for both: a lookup that meets its promise there says more than row 0 or none
two_rows : (f : ℕ → Result (Option Place) Refusal) → ((x : ℕ) → answer_of (f x) ≡ lookup_call end.after.head end.after.stores.words end.after.stores.samples x)
    → ((x : ℕ) (p : Place) → f x ≡ Ok (Some p) → p.row ≡ 0) → ⊥
two_rows f meets = not_all_first Plain gamma pair room end.after.head end.after.stores promised f meets 5 7 (lit< tt) (lit< tt) (λ e. omega arith)

-- ---- a foreign id gets none, or a row

foreign_none : lookup_call end.after.head end.after.stores.words end.after.stores.samples 0 ≡ nothing
unfolding lt of_bits size_for whole_of rounded kind_of build_call build_checks run_from remaining position mixed
    lookup_call fit bounded find_in first has bit_at packed index_words index_sizes index_samples first_samples
foreign_none = refl

foreign_row : lookup_call end.after.head end.after.stores.words end.after.stores.samples 8 ≡ found (record { row = 0; level = 0; position = 16 })
unfolding lt of_bits size_for whole_of rounded kind_of build_call build_checks run_from remaining position mixed
    lookup_call fit bounded find_in first has bit_at packed index_words index_sizes index_samples first_samples row_answer ones_from
foreign_row = refl

-- ---- one id twice is refused: with 6 in this room, giving 2, and with 5 where there is a word less, giving level 99: more room matters to a 5

refused_6 : build_by Plain gamma double room ≡ refused_run (IdsRemain 2) room
refused_6 = twice_left Plain 7 room (lit≤ tt) (lit≤ tt) refl refl

-- the same stores with a word less: room for 99 levels of 4 words, and not for the last
abbrev less : Stores
less = stores (zeros 399) (zeros 100) (zeros 4) (zeros 2)

refused_5 : build_by Plain gamma double less ≡ refused_run (NoRoomForLevel 99) less
refused_5 = twice_full Plain 7 less (lit≤ tt) (lit≤ tt) refl refl

-- so that its room is not enough
not_enough : RoomEnough Plain gamma double less → ⊥
not_enough r = (refusals Plain gamma double less r (in_bounds double less refl refl refl)).never_5 (ap (λ (x : BuildEnd). x.refusal) refused_5)

-- ---- a check refuses it where the rest store is too short: with 4, and the stores as they were

abbrev short : Stores
short = stores (9 ∷ []) (9 ∷ []) (zeros 4) (9 ∷ [])

refused_4 : (build_by Plain gamma double short).refusal ≡ 4
unfolding lt of_bits size_for whole_of rounded kind_of build_call build_checks
refused_4 = refl

kept : (build_by Plain gamma double short).after.stores ≡ short
kept = ((outcomes Plain gamma double short).of_check (ap of_run refused_4)).1

-- the run's outcomes come where the checks are passed
ran : checks_of gamma double less ≡ Ok tt
ran = (outcomes Plain gamma double less).of_run_lem.0 (ap (λ (x : BuildEnd). of_run x.refusal) refused_5)

-- ---- the other order, in stores that held something

abbrev used : Stores
used = stores (replicate 400 9) (replicate 100 9) (replicate 4 9) (replicate 2 9)

same_room : SameRoom room used
same_room = record { words = refl; samples = refl; collide = refl; rest = refl }

swapped : Permᴰ pair (7 ∷ 5 ∷ [])
swapped = Permᴰ.swap refl refl

other_order : SameEnd (build_by Plain gamma pair room) (build_by Plain gamma (7 ∷ 5 ∷ []) used)
other_order = build_permuted Plain gamma swapped same_room

-- ---- the row list, given the ids in the other order; the levels, and the samples

listed : rows_call end.after.head end.after.stores.words end.after.stores.samples (7 ∷ 5 ∷ []) (9 ∷ 9 ∷ 9 ∷ []) (8 ∷ 8 ∷ [])
    ≡ listed_as index.row_list 2 (9 ∷ 9 ∷ 9 ∷ []) (8 ∷ 8 ∷ [])
listed = index.listed.succeeds (7 ∷ 5 ∷ []) (9 ∷ 9 ∷ 9 ∷ []) (8 ∷ 8 ∷ []) (perm_same (Permᴰ.swap refl refl)) (lit≤ tt) (lit≤ tt)

balanced : EachLevelLeft Plain gamma pair end.after.head end.after.stores.words
balanced = levels_balance Plain gamma pair room accepted

sampled : FromWords end.after.head end.after.stores.words end.after.stores.samples
sampled = samples_from_words Plain gamma pair room accepted

-- ---- cut to its used part, of four words and one sample, and with anything past it, it is still an index

cut_short : (length (cut end).after.stores.words ≡ 4) × (length (cut end).after.stores.samples ≡ 1)
unfolding lt of_bits size_for whole_of rounded kind_of build_call build_checks run_from remaining position mixed packed index_words index_sizes index_samples first_samples
cut_short = (refl, refl)

cut_index : Indexed pair (cut end)
cut_index = build_cut Plain gamma pair room accepted

past_index : Indexed pair (with_stores end (stores ((cut end).after.stores.words ++ (9 ∷ 9 ∷ [])) ((cut end).after.stores.samples ++ (9 ∷ [])) [] []))
past_index =
    let u = cut_same ((demand3 Plain gamma pair room).accepted accepted) in
    indexed_in ((demand3 Plain gamma pair room).accepted accepted) _
    (record { words = front_past _ u.words (9 ∷ 9 ∷ []); samples = front_past _ u.samples (9 ∷ []) })

-- with a word of it less the head is unfit, and with other words in it lookups answer otherwise
used_short : lookup_call end.after.head (take 3 end.after.stores.words) end.after.stores.samples 7 ≡ refused_for UnfitHead
unfolding lt of_bits size_for whole_of rounded kind_of build_call build_checks run_from remaining position mixed
    lookup_call fit bounded packed index_words index_sizes index_samples first_samples
used_short = refl

used_other : lookup_call end.after.head (zeros 4) (zeros 1) 7 ≡ nothing
unfolding lt of_bits size_for whole_of rounded kind_of build_call build_checks run_from remaining position mixed
    lookup_call fit bounded find_in first has bit_at packed index_words index_sizes index_samples first_samples
used_other = refl

-- ---- room that is always enough

widest : (n m : ℕ) → 26_214_400 ≤ n → 3_276_800 ≤ m → RoomEnough Plain gamma pair (stores (zeros n) (zeros m) [] [])
widest n m p q =
    room_always Plain gamma pair (stores (zeros n) (zeros m) [] []) pair_bounds.allowed pair_bounds.few_ids (rw length-replicate p) (rw length-replicate q)
