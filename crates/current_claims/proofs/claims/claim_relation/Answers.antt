use Rattle.std.proofs.Common.{◌≡◌, ◌≤◌, get_or, length, refl, arith}
use Rattle.std.proofs.lemmas.Bool.{false≢true}
use Rattle.std.proofs.lemmas.Option.{slice_get-get_or}
use Rattle.spec_model.specs.declared.relation.Relation.{Relation}
use Rattle.current_claims.proofs.Places.{listed_more, listed_past, listed_relation}
use Rattle.current_claims.proofs.ReadRelations.{entity_read, read_of}
use Rattle.current_claims.proofs.claims.claim_relation.Goals as goal

pub returns-then-not-is_asked : goal.returns-then-not-is_asked
returns-then-not-is_asked c =
    listed_past c.args.spec.now.relations c.args.rels.now c.args.completion.now c.args.rel c.args.claims.now
    (λ asked. false≢true (c.if-not-is_asked.ensures.1 asked)) c.requires.listed

pub claim_entity-requires-clause-entity : goal.claim_entity-requires-clause-entity
claim_entity-requires-clause-entity c =
    entity_read c.args.spec.now.relations c.relations.result.now c.args.rel.0 c.loop-ent.ent
    c.index-relations-rel.result c.len-ent-end.result
    c.relations.ensures.value c.requires.rel c.len-ent-end.ensures c.loop-ent-test.true

pub loop-ent-preserved : goal.loop-ent-preserved
loop-ent-preserved c =
    listed_more c.args.spec.now.relations c.args.rels.now c.args.completion.now c.args.rel
    (record { 0 = c.loop-ent.ent }) c.loop-ent.claims
    c.claim_entity.new.claims (c.if-not-is_asked.ensures.0 refl) c.loop-ent.invariant c.in_ok-claim_entity.ensures

pub returns : goal.returns
returns c =
    let relations = c.args.spec.now.relations in
    let own = c.index-relations-rel.result in
    let r = get_or relations c.args.rel.0 own in
    let at = slice_get-get_or relations c.args.rel.0 own c.requires.rel in
    let all : c.len-ent-end.result ≡ length r.entities =
    read_of (λ (q : Relation). length q.entities) relations c.relations.result.now c.args.rel.0 own r c.len-ent-end.result
    c.relations.ensures.value c.len-ent-end.ensures at in
    let whole : length r.entities ≤ c.loop-ent.ent = omega arith in
    listed_relation relations c.args.rels.now c.args.completion.now c.args.rel c.loop-ent.ent c.loop-ent.claims r at
    whole c.loop-ent.invariant
