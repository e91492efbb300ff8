use Rattle.std.proofs.Common.{◌∙◌, ◌+◌, ◌<◌, length, sym, ap, subst, arith}
use Rattle.std.proofs.lemmas.Option.{same_Some}
use Rattle.copy_functions.specs.Copies.{CopyFunction}
use Rattle.forced_closure.specs.Clauses.{OfPlace, OfPlaces, OfCopy}
use Rattle.forced_closure.proofs.Adding.{adds_none, adds_then, adds_as, places_cases}
use Rattle.forced_closure.proofs.copied.add_copy.Goals as goal

pub loop-place-init : goal.loop-place-init
loop-place-init c = adds_none c.args.subject.now c.args.gathered.now (OfPlaces c.args.subject.now c.args.copy 0)
    (λ o is. absurd (omega (arith, is.below)))

pub add_place-requires-clause-place : goal.add_place-requires-clause-place
add_place-requires-clause-place c copy at =
    let same = same_Some c.copy.result.now copy (sym c.copy.ensures ∙ at) in
    subst (λ (x : CopyFunction). c.loop-place.place < length x.places) same
    (omega (arith, ap (λ places. length places) c.places.ensures.value))

pub loop-place-preserved : goal.loop-place-preserved
loop-place-preserved c =
    adds_then c.args.subject.now c.args.gathered.now c.loop-place.gathered c.add_place.new.gathered
    (OfPlaces c.args.subject.now c.args.copy c.loop-place.place)
    (OfPlace c.args.subject.now c.args.copy c.loop-place.place) (OfPlaces c.args.subject.now c.args.copy
    (c.loop-place.place + 1)) c.loop-place.invariant c.in_ok-add_place.ensures
    (λ o is. places_cases c.args.subject.now c.args.copy c.loop-place.place o is)

pub returns : goal.returns
returns c =
    adds_as c.args.subject.now c.args.gathered.now c.loop-place.gathered
    (OfPlaces c.args.subject.now c.args.copy c.loop-place.place) (OfCopy c.args.subject.now c.args.copy)
    c.loop-place.invariant (λ o is.
    let same = same_Some is.copy c.copy.result.now (sym is.is_copy ∙ c.copy.ensures) in
    record {
      place = is.of.place;
      below = omega (
        arith,
        is.of.below,
        ap (λ (x : CopyFunction). length x.places) same,
        ap (λ places. length places) c.places.ensures.value,
      );
      of = is.of.of;
    })
