use Rattle.std.proofs.Common.{◌≡◌, length, sym, arith}
use Rattle.spec_model.specs.declared.relation.Relation.{Relation}
use Rattle.current_claims.proofs.Differing.{found, none_more, none_of_entity}
use Rattle.current_claims.proofs.ReadRelations.{place_read, read_of}
use Rattle.current_claims.proofs.difference.entity_difference.Goals as goal

pub returns-then-test-clause-some : goal.returns-then-test-clause-some
returns-then-test-clause-some c =
    let place = place_read c.args.spec.now.relations c.relations.result.now c.args.rel.0 c.loop-attr.attr
    c.args.ent.0 c.index-relations-rel.result
    c.len-attr-end.result c.relations.ensures.value c.requires.entity c.len-attr-end.ensures c.loop-attr-test.true in
    found c.args.spec.now.relations c.args.first.now c.args.second.now c.args.rel c.args.ent (record { 0 = c.loop-attr.attr })
    c.last-one.result.now c.last-other.result.now place.relation place.is_relation place.attr_within place.ent_within
    c.last-one.ensures
    c.last-other.ensures (sym c.if-test.ensures)

pub loop-attr-preserved : goal.loop-attr-preserved
loop-attr-preserved c =
    none_more c.args.spec.now.relations c.args.first.now c.args.second.now c.args.rel c.args.ent (record { 0 = c.loop-attr.attr })
    c.last-one.result.now c.last-other.result.now c.last-one.ensures c.last-other.ensures (sym c.if-test.ensures)
    c.loop-attr.invariant

pub returns-clause-none : goal.returns-clause-none
returns-clause-none c =
    none_of_entity c.args.spec.now.relations c.args.first.now c.args.second.now c.args.rel c.args.ent c.loop-attr.attr
    (λ r at.
    let attrs : c.len-attr-end.result ≡ length r.attrs =
    read_of (λ (q : Relation). length q.attrs) c.args.spec.now.relations c.relations.result.now c.args.rel.0
    c.index-relations-rel.result r
    c.len-attr-end.result c.relations.ensures.value c.len-attr-end.ensures at in
    omega arith)
    c.loop-attr.invariant
