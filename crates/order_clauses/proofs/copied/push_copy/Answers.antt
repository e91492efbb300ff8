use Rattle.std.proofs.Common.{◌≡◌, ◌∙◌, ap, sym, subst, slice_get, Some}
use Rattle.currency_base.specs.declared.ids.RelId.{RelId}
use Rattle.copy_functions.specs.Copies.{source_at}
use Rattle.copy_functions.specs.declared.place.Place.{Place}
use Rattle.order_literals.specs.Said.{Says, before, not_before}
use Rattle.order_clauses.specs.Subject.{variables, IsPairIn}
use Rattle.order_clauses.proofs.CopyClauses.{copied_as, first_mapped, second_mapped, sources_in, targets_in, copy_clause}
use Rattle.order_clauses.proofs.copied.push_copy.Goals as goal

pub unreachable-requires : goal.unreachable-requires
unreachable-requires c =
    let s = c.args.sayings.now.spec in
    let copy = c.copy-map.result.now in
    first_mapped s copy c.args.pair (copied_as s c.args.copy.0 c.args.pair copy c.requires.pair c.copy-map.ensures)
    (sym c.source_of.ensures ∙ c.in_default.is)

pub unreachable-requires-in_default-source_of : goal.unreachable-requires-in_default-source_of
unreachable-requires-in_default-source_of c =
    let s = c.args.sayings.now.spec in
    let copy = c.copy-map.result.now in
    second_mapped s copy c.args.pair (copied_as s c.args.copy.0 c.args.pair copy c.requires.pair c.copy-map.ensures)
    (sym c.source_of-2.ensures ∙ c.in_default-source_of.is)

pub not_before-supposed-requires : goal.not_before-supposed-requires
not_before-supposed-requires c =
    let s = c.args.sayings.now.spec in
    let copy = c.copy-map.result.now in
    let at : Place = c.get-at.result.now in
    let place : slice_get copy.places c.args.place ≡ Some at =
    ap (λ places. slice_get places c.args.place) (sym c.places.ensures.value) ∙ c.get-at.ensures in
    let first : source_at copy c.args.pair.first ≡ Some c.in-Some.first = cc in
    let second : source_at copy c.args.pair.second ≡ Some c.in-Some-source_of.second = cc in
    subst (λ (rel : RelId). IsPairIn s rel at.source c.in-Some.first c.in-Some-source_of.second) (sym c.source.ensures)
    (sources_in s copy c.args.pair c.args.place at c.in-Some.first c.in-Some-source_of.second
    (copied_as s c.args.copy.0 c.args.pair copy c.requires.pair c.copy-map.ensures) place first second)

pub before-concluded-requires : goal.before-concluded-requires
before-concluded-requires c =
    let s = c.args.sayings.now.spec in
    let copy = c.copy-map.result.now in
    let at : Place = c.get-at.result.now in
    let place : slice_get copy.places c.args.place ≡ Some at =
    ap (λ places. slice_get places c.args.place) (sym c.places.ensures.value) ∙ c.get-at.ensures in
    subst (λ (rel : RelId). IsPairIn s rel at.target c.args.pair.first c.args.pair.second) (sym c.target.ensures)
    (targets_in s copy c.args.pair c.args.place at
    (copied_as s c.args.copy.0 c.args.pair copy c.requires.pair c.copy-map.ensures) place)

pub push_axiom-requires : goal.push_axiom-requires
push_axiom-requires c =
    let s = c.args.sayings.now in
    let copy = c.copy-map.result.now in
    let at : Place = c.get-at.result.now in
    let place : slice_get copy.places c.args.place ≡ Some at =
    ap (λ places. slice_get places c.args.place) (sym c.places.ensures.value) ∙ c.get-at.ensures in
    let first : source_at copy c.args.pair.first ≡ Some c.in-Some.first = cc in
    let second : source_at copy c.args.pair.second ≡ Some c.in-Some-source_of.second = cc in
    let supposed = subst (λ (rel : RelId). Says (variables s) c.not_before-supposed.result
    (not_before rel at.source c.in-Some.first c.in-Some-source_of.second)) c.source.ensures
    c.not_before-supposed.ensures in
    let concluded = subst (λ (rel : RelId). Says (variables s) c.before-concluded.result
    (before rel at.target c.args.pair.first c.args.pair.second)) c.target.ensures
    c.before-concluded.ensures in
    copy_clause s c.args.copy c.args.place c.args.pair copy at c.in-Some.first c.in-Some-source_of.second
    c.not_before-supposed.result c.before-concluded.result
    c.requires.pair c.copy-map.ensures place first second supposed concluded
