use Rattle.std.proofs.Common.{rules, ◌≡◌, ◌∙◌, ap, sym, slice_get}
use Rattle.order_squares.specs.Entities.{entities_in}
use Rattle.order_squares.specs.Squares.{Layout}
use Rattle.order_squares.proofs.Layouts.{slot_ent, no_entity, one_ent}
use Rattle.order_squares.proofs.squares.Squares.slot.Goals as goal

pub returns-in_default-clause-none : goal.returns-in_default-clause-none
returns-in_default-clause-none c slot is =
    let of = slot_ent c.args.self.now c.args.rel.0 c.args.pair.attr.0 c.args.pair.earlier c.args.pair.later slot is in
    let here = ap (λ (l : Layout). slice_get (entities_in l.relations c.args.rel.0) c.args.pair.earlier.0) c.self.view_is in
    no_entity c.entity.result _ _ c.in_default.is (c.entity.ensures.value ∙ here) of.0

pub returns-in_default-entity-clause-none : goal.returns-in_default-entity-clause-none
returns-in_default-entity-clause-none c slot is =
    let of = slot_ent c.args.self.now c.args.rel.0 c.args.pair.attr.0 c.args.pair.earlier c.args.pair.later slot is in
    let here = ap (λ (l : Layout). slice_get (entities_in l.relations c.args.rel.0) c.args.pair.later.0) c.self.view_is in
    no_entity c.entity-2.result _ _ c.in_default-entity.is (c.entity-2.ensures.value ∙ here) of.1

pub returns-else-eq-clause-none : goal.returns-else-eq-clause-none
returns-else-eq-clause-none c slot is =
    let of = slot_ent c.args.self.now c.args.rel.0 c.args.pair.attr.0 c.args.pair.earlier c.args.pair.later slot is in
    let here = ap (λ (l : Layout). slice_get (entities_in l.relations c.args.rel.0) c.args.pair.earlier.0) c.self.view_is in
    let there = ap (λ (l : Layout). slice_get (entities_in l.relations c.args.rel.0) c.args.pair.later.0) c.self.view_is in
    let first = one_ent c.entity.result _ c.in-Some.earlier is.ent c.in-Some.is (c.entity.ensures.value ∙ here) of.0 in
    let second = one_ent c.entity-2.result _ c.in-Some-entity.later is.ent c.in-Some-entity.is
    (c.entity-2.ensures.value ∙ there) of.1 in
    let same : c.in-Some.earlier.0 ≡ c.in-Some-entity.later.0 = first ∙ sym second in
    let differ : c.in-Some.earlier.0 ≡ c.in-Some-entity.later.0 → ⊥ = search rules in
    absurd (differ same)
