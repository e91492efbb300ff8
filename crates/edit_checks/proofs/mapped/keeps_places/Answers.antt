use Rattle.std.proofs.Common.{◌≡◌, ◌∙◌, List, Some, length, slice_get, slice_index_or, arith, ap, subst}
use Rattle.std.proofs.lemmas.Option.{slice_get-get_or, slice_get_within}
use Rattle.copy_functions.specs.declared.place.Place.{Place}
use Rattle.edit_checks.proofs.Lists.{before_more}
use Rattle.edit_checks.specs.Mapped.{KeepsPlace}
use Rattle.edit_checks.proofs.mapped.keeps_places.Goals as goal

pub loop-place-preserved : goal.loop-place-preserved
loop-place-preserved c =
    let items = c.as_slice-place-items.result.now in
    let at = c.loop-place.place-index in
    let none : Place = record { target = record { 0 = 0 }; source = record { 0 = 0 } } in
    before_more (KeepsPlace c.args.spec.now.relations c.args.completion.now c.args.map.now c.args.copied)
    c.args.map.now.places at (slice_index_or items at none)
    (subst (λ (xs : List Place). slice_get xs at ≡ Some (slice_index_or items at none))
    (c.as_slice-place-items.ensures ∙ c.places.ensures.value) (slice_get-get_or items at none c.loop-place-test.true))
    (c.keeps_place.ensures c.if-not-keeps_place.false) c.loop-place.invariant

pub returns : goal.returns
returns c =
    let same : c.as_slice-place-items.result.now ≡ c.args.map.now.places =
    c.as_slice-place-items.ensures ∙ c.places.ensures.value in
    λ _ at place here.
    c.loop-place.invariant at place
    (omega (arith, ap length same, slice_get_within c.args.map.now.places at place here, c.loop-place-test.false)) here
