-- No room for a second answer: two outcomes that meet a call's promise are equal, the answer and every word of the store. Assumes nothing.
use mathlib.Core.Bool.{Bool}
use mathlib.Core.List.{List}
use Prim.Native.Nat.{ℕ}
use Rattle.std.specs.Prelude.{Result}
use Rattle.refusal.specs.Answers.{Untouched, made, said, counted}
use Rattle.refusal.specs.declared.Refusal.{Refusal}
use Rattle.refusal.proofs.Once.{Once, made_once, said_once, counted_once}
use Rattle.bitvector.specs.Calls.{new_call, ones_call, is_empty_call, len_call}
use Rattle.bitvector.specs.Calls.{contains_call, insert_call, remove_call, insert_all_call, eq_left_call, members_call}

pub new_once : (capacity : ℕ) (ws : List ℕ) → Once (List ℕ) (Result Unit Refusal) made (new_call capacity ws)
new_once capacity ws = made_once _ (new_call capacity ws)

pub ones_once : (capacity : ℕ) (ws : List ℕ) → Once (List ℕ) (Result Unit Refusal) made (ones_call capacity ws)
ones_once capacity ws = made_once _ (ones_call capacity ws)

pub is_empty_once : (capacity : ℕ) (ws : List ℕ) → Once Untouched (Result Bool Refusal) said (is_empty_call capacity ws)
is_empty_once capacity ws = said_once _ (is_empty_call capacity ws)

pub len_once : (capacity : ℕ) (ws : List ℕ) → Once Untouched (Result ℕ Refusal) counted (len_call capacity ws)
len_once capacity ws = counted_once _ (len_call capacity ws)

pub contains_once : (capacity : ℕ) (ws : List ℕ) (bit : ℕ) → Once Untouched (Result Bool Refusal) said (contains_call capacity ws bit)
contains_once capacity ws bit = said_once _ (contains_call capacity ws bit)

pub insert_once : (capacity : ℕ) (ws : List ℕ) (bit : ℕ) → Once (List ℕ) (Result Bool Refusal) said (insert_call capacity ws bit)
insert_once capacity ws bit = said_once _ (insert_call capacity ws bit)

pub remove_once : (capacity : ℕ) (ws : List ℕ) (bit : ℕ) → Once (List ℕ) (Result Bool Refusal) said (remove_call capacity ws bit)
remove_once capacity ws bit = said_once _ (remove_call capacity ws bit)

pub insert_all_once : (capacity : ℕ) (ws : List ℕ) (capacity₂ : ℕ) (us : List ℕ) → Once (List ℕ) (Result Bool Refusal) said (insert_all_call capacity ws capacity₂ us)
insert_all_once capacity ws capacity₂ us = said_once _ (insert_all_call capacity ws capacity₂ us)

pub eq_left_once : (capacity : ℕ) (ws : List ℕ) (capacity₂ : ℕ) (us : List ℕ) (bit : ℕ) → Once Untouched (Result Bool Refusal) said (eq_left_call capacity ws capacity₂ us bit)
eq_left_once capacity ws capacity₂ us bit = said_once _ (eq_left_call capacity ws capacity₂ us bit)

pub members_once : (capacity : ℕ) (ws out : List ℕ) → Once (List ℕ) (Result ℕ Refusal) counted (members_call capacity ws out)
members_once capacity ws out = counted_once _ (members_call capacity ws out)
