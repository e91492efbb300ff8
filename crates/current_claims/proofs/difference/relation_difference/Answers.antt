use Rattle.std.proofs.Common.{◌≡◌, length, arith}
use Rattle.spec_model.specs.declared.relation.Relation.{Relation}
use Rattle.current_claims.proofs.Differing.{before_more, none_of_relation}
use Rattle.current_claims.proofs.ReadRelations.{entity_read, read_of}
use Rattle.current_claims.proofs.difference.relation_difference.Goals as goal

pub entity_difference-requires-clause-entity : goal.entity_difference-requires-clause-entity
entity_difference-requires-clause-entity c =
    entity_read c.args.spec.now.relations c.relations.result.now c.args.rel.0 c.loop-ent.ent
    c.index-relations-rel.result c.len-ent-end.result
    c.relations.ensures.value c.requires.rel c.len-ent-end.ensures c.loop-ent-test.true

pub loop-ent-preserved : goal.loop-ent-preserved
loop-ent-preserved c =
    before_more c.args.spec.now.relations c.args.first.now c.args.second.now c.args.rel
    (record { 0 = c.loop-ent.ent }) c.in_default.ensures.none
    c.loop-ent.invariant

pub returns-clause-none : goal.returns-clause-none
returns-clause-none c =
    none_of_relation c.args.spec.now.relations c.args.first.now c.args.second.now c.args.rel c.loop-ent.ent
    (λ r at.
    let entities : c.len-ent-end.result ≡ length r.entities =
    read_of (λ (q : Relation). length q.entities) c.args.spec.now.relations c.relations.result.now c.args.rel.0
    c.index-relations-rel.result r
    c.len-ent-end.result c.relations.ensures.value c.len-ent-end.ensures at in
    omega arith)
    c.loop-ent.invariant
