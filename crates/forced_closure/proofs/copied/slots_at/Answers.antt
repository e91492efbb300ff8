use Rattle.std.proofs.Common.{◌≡◌, ◌∙◌, Some, slice_get, sym, ap, subst}
use Rattle.currency_base.specs.declared.ids.RelId.{RelId}
use Rattle.copy_functions.specs.Copies.{source_at}
use Rattle.copy_functions.specs.declared.place.Place.{Place}
use Rattle.order_squares.specs.Squares.{IsSlot, Stand}
use Rattle.forced_closure.proofs.Standing.{pair_of, source_stands, target_stands, copy_clause, not_mapped}
use Rattle.forced_closure.proofs.copied.slots_at.Goals as goal

pub unreachable-requires : goal.unreachable-requires
unreachable-requires c =
    let of = pair_of c.args.subject.now c.args.copy.0 c.copy-map.result.now c.args.pair c.spec.ensures.facts
    c.copy-map.ensures c.requires.pair in
    not_mapped c.copy-map.result.now c.args.pair.first of.pair.together.first_source of.pair.together.first_is
    (sym c.source_of.ensures ∙ c.in_default.is)

pub unreachable-requires-in_default-source_of : goal.unreachable-requires-in_default-source_of
unreachable-requires-in_default-source_of c =
    let of = pair_of c.args.subject.now c.args.copy.0 c.copy-map.result.now c.args.pair c.spec.ensures.facts
    c.copy-map.ensures c.requires.pair in
    not_mapped c.copy-map.result.now c.args.pair.second of.pair.together.second_source of.pair.together.second_is
    (sym c.source_of-2.ensures ∙ c.in_default-source_of.is)

pub slot-requires : goal.slot-requires
slot-requires c =
    let copy = c.copy-map.result.now in
    let of = pair_of c.args.subject.now c.args.copy.0 copy c.args.pair c.spec.ensures.facts c.copy-map.ensures c.requires.pair in
    let at : Place = c.get-at.result.now in
    let place : slice_get copy.places c.args.place ≡ Some at = ap (λ places. slice_get places c.args.place)
    (sym c.places.ensures.value) ∙ c.get-at.ensures in
    let first : source_at copy c.args.pair.first ≡ Some c.in-Some.first = cc in
    let second : source_at copy c.args.pair.second ≡ Some c.in-Some-source_of.second = cc in
    subst (λ (rel : RelId). Stand c.args.subject.now.spec.relations rel.0 at.source.0 c.in-Some.first
    c.in-Some-source_of.second) (sym c.source.ensures)
    (source_stands c.args.subject.now copy c.args.pair c.args.place at c.in-Some.first c.in-Some-source_of.second of
    place first second)

pub slot-requires-2 : goal.slot-requires-2
slot-requires-2 c =
    let copy = c.copy-map.result.now in
    let of = pair_of c.args.subject.now c.args.copy.0 copy c.args.pair c.spec.ensures.facts c.copy-map.ensures c.requires.pair in
    let at : Place = c.get-at.result.now in
    let place : slice_get copy.places c.args.place ≡ Some at = ap (λ places. slice_get places c.args.place)
    (sym c.places.ensures.value) ∙ c.get-at.ensures in
    subst (λ (rel : RelId). Stand c.args.subject.now.spec.relations rel.0 at.target.0 c.args.pair.first
    c.args.pair.second) (sym c.target.ensures)
    (target_stands c.args.subject.now copy c.args.pair c.args.place at of place)

pub returns : goal.returns
returns c =
    let copy = c.copy-map.result.now in
    let m = c.args.subject.now in
    let of = pair_of m c.args.copy.0 copy c.args.pair c.spec.ensures.facts c.copy-map.ensures c.requires.pair in
    let at : Place = c.get-at.result.now in
    let place : slice_get copy.places c.args.place ≡ Some at = ap (λ places. slice_get places c.args.place)
    (sym c.places.ensures.value) ∙ c.get-at.ensures in
    let first : source_at copy c.args.pair.first ≡ Some c.in-Some.first = cc in
    let second : source_at copy c.args.pair.second ≡ Some c.in-Some-source_of.second = cc in
    let source = subst (λ (rel : RelId). IsSlot m.layout rel.0 at.source.0 c.in-Some.first c.in-Some-source_of.second
    c.slot.result) c.source.ensures c.slot.ensures in
    let target = subst (λ (rel : RelId). IsSlot m.layout rel.0 at.target.0 c.args.pair.first c.args.pair.second
    c.slot-2.result) c.target.ensures c.slot-2.ensures in
    copy_clause m c.args.copy.0 c.args.place copy at c.args.pair c.in-Some.first c.in-Some-source_of.second
    c.slot.result c.slot-2.result of c.copy-map.ensures place
    first second source target
