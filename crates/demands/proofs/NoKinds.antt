-- A number is that of a known kind, or every call refuses it with 16. Assumes nothing.
use mathlib.Core.Path.{◌≡◌, refl, sym, ap, ◌∙◌}
use mathlib.Core.Logic.{inl, inr}
use Prim.Native.Nat.{ℕ, ◌-◌, ◌^◌}
use Rattle.mixer.specs.Kinds.{kind_of}
use Rattle.std.specs.Prelude.{Err}
use Rattle.refusal.specs.declared.Refusal.TheVariants.{UnknownKind}
use Rattle.mixer.proofs.KindNumbers.{number_or_not}
use Rattle.build.proofs.Builds.{build_unknown}
use Rattle.lookup.proofs.Lookups.{lookup_unknown}
use Rattle.rows.proofs.RowCalls.{call_unknown}
use Rattle.demands.specs.Demands.{NoKind, KindOrNone}

pub no_kind : (number : ℕ) → kind_of number ≡ Err UnknownKind → NoKind number
no_kind number u = record {
  build = λ gamma ids s. sym (build_unknown gamma ids s number u);
  lookup = λ head ws ss x e. sym (lookup_unknown head ws ss x (ap kind_of e ∙ u));
  rows = λ head ws ss ids rows marks e. sym (call_unknown head ws ss ids rows marks (ap kind_of e ∙ u));
}

pub kind_or_none : (number : ℕ) → KindOrNone number
kind_or_none number = elim (number_or_not number) [
  | inl k ↦ inl k
  | inr u ↦ inr (no_kind number u)
]

-- 1, 2 and the last number are such
pub unknown_1 : NoKind 1
unfolding kind_of
unknown_1 = no_kind 1 refl

pub unknown_2 : NoKind 2
unfolding kind_of
unknown_2 = no_kind 2 refl

pub unknown_last : NoKind (2 ^ 64 - 1)
unfolding kind_of
unknown_last = no_kind (2 ^ 64 - 1) refl
