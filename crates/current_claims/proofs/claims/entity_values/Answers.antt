use Rattle.std.proofs.Common.{◌≡◌, ◌+◌, length, subst, sym, arith}
use Rattle.spec_model.specs.declared.relation.Relation.{Relation}
use Rattle.current_claims.specs.Listed.{AreValuesOf}
use Rattle.current_claims.proofs.OfEntity.{values_more}
use Rattle.current_claims.proofs.ReadRelations.{few_attrs, read_of}
use Rattle.current_claims.proofs.claims.entity_values.Goals as goal

pub loop-attr-preserved : goal.loop-attr-preserved
loop-attr-preserved c = λ r at.
    subst (AreValuesOf r c.args.completion.now c.args.rel.0 c.args.ent.0 (c.loop-attr.attr + 1)) (sym c.in_ok-push.ensures.ok)
    (values_more r c.args.completion.now c.args.rel.0 c.args.ent.0 c.loop-attr.attr c.loop-attr.values c.last-value.result.now
    c.in_ok-duplicate.field-0 (c.last-value.ensures r at) c.is_value.ensures c.in_ok-duplicate.ensures
    (c.loop-attr.invariant r at))

pub returns-clause-values : goal.returns-clause-values
returns-clause-values c = λ r at.
    let attrs : c.len-attr-end.result ≡ length r.attrs =
    read_of (λ (q : Relation). length q.attrs) c.args.spec.now.relations c.relations.result.now c.args.rel.0
    c.index-relations-rel.result r
    c.len-attr-end.result c.relations.ensures.value c.len-attr-end.ensures at in
    let all : c.loop-attr.attr ≡ length r.attrs = omega arith in
    subst (λ n. AreValuesOf r c.args.completion.now c.args.rel.0 c.args.ent.0 n c.loop-attr.values) all
    (c.loop-attr.invariant r at)

pub returns-clause-few : goal.returns-clause-few
returns-clause-few c =
    let relations = c.args.spec.now.relations in
    let r = c.requires.entity.relation in
    let at = c.requires.entity.is_relation in
    let attrs : c.len-attr-end.result ≡ length r.attrs =
    read_of (λ (q : Relation). length q.attrs) relations c.relations.result.now c.args.rel.0 c.index-relations-rel.result r
    c.len-attr-end.result c.relations.ensures.value c.len-attr-end.ensures at in
    omega (arith, few_attrs relations c.args.rel.0 r c.relations.ensures.facts at, (c.loop-attr.invariant r at).per_attr)
