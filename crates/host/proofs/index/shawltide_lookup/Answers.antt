-- `host::index::shawltide_lookup` meets its contract. Assumes nothing.
use Rattle.std.proofs.Common.{Option, Result, Ok, sym, ap, ◌∙◌, arith}
use Rattle.refusal.specs.declared.Refusal.{Refusal}
use Rattle.finding.specs.declared.Place.{Place}
use Rattle.finding.specs.Find.{answer_of}
use Rattle.host.specs.Flat.{seen, answer_seen}
use Rattle.host.proofs.Flats.{lookup_short, lookup_unheaded, lookup_headed, place_written}
use Rattle.host.proofs.index.shawltide_lookup.Goals as goal

pub returns-then-place-lt-PLACE : goal.returns-then-place-lt-PLACE
returns-then-place-lt-PLACE c = let a = c.args in lookup_short a.head.now a.words.now a.samples.now a.id a.place.now (omega (arith, c.if-place-lt-PLACE.true)) c.refused.ensures

pub returns-in_default : goal.returns-in_default
returns-in_default c =
    let a = c.args in
    lookup_unheaded a.head.now a.words.now a.samples.now a.id a.place.now (omega (arith, c.if-place-lt-PLACE.false)) c.in_default.ensures c.refused-in_default.ensures

pub returns-in-Ok-Some : goal.returns-in-Ok-Some
returns-in-Ok-Some c =
    let a = c.args in
    lookup_headed a.head.now a.words.now a.samples.now a.id a.place.now _ (omega (arith, c.if-place-lt-PLACE.false)) c.in-Some.ensures c.lookup.ensures
    (place_written _ a.place.now (omega (arith, c.if-place-lt-PLACE.false)) (c.in-Ok-Some.is ∙ ap Ok c.in-Ok-Some.field-0-is))

pub returns-in-Ok-None : goal.returns-in-Ok-None
returns-in-Ok-None c =
    let a = c.args in
    lookup_headed a.head.now a.words.now a.samples.now a.id a.place.now _ (omega (arith, c.if-place-lt-PLACE.false)) c.in-Some.ensures c.lookup.ensures
    (ap (λ (f : Result (Option Place) Refusal). answer_seen (answer_of f) a.place.now) (sym (c.in-Ok-None.is ∙ ap Ok c.in-Ok-None.field-0-is)))

pub returns-in-Err : goal.returns-in-Err
returns-in-Err c =
    let a = c.args in
    lookup_headed a.head.now a.words.now a.samples.now a.id a.place.now _ (omega (arith, c.if-place-lt-PLACE.false)) c.in-Some.ensures c.lookup.ensures
    (ap (λ n. seen n a.place.now) c.refused-in-Err.ensures ∙ ap (λ (f : Result (Option Place) Refusal). answer_seen (answer_of f) a.place.now) (sym c.in-Err.is))
