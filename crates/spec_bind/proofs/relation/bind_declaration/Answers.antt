use Rattle.std.proofs.Common.{◌≡◌, ◌∙◌, Result, Ok, Err, ap, subst}
use Rattle.bind_faults.specs.Faults.{IsDue}
use Rattle.bind_faults.specs.declared.fault.BindFault.{BindFault}
use Rattle.spec_model.specs.declared.relation.Relation.{Relation}
use Rattle.bound_spec.specs.Growth.{limited, relation_names, with_relation}
use Rattle.relation_bind.specs.Relations.{IsDeclared}
use Rattle.spec_bind.proofs.Steps.{Docs, declared_with, part_refused, part_step, relation_table}
use Rattle.spec_bind.proofs.relation.bind_declaration.Goals as goal

pub returns-in-Ok-clause-step : goal.returns-in-Ok-clause-step
returns-in-Ok-clause-step g c =
    let texts = g.S.Shelf.texts c.args.shelf.now in
    let d = c.args.declaration.now in
    let names : c.relations.result.now ≡ relation_names c.args.bound =
    c.relations.ensures ∙ ap (λ n. n.relations) c.bound.invariant.names_are ∙ ap (λ s. relation_names s) c.bound.view_is in
    part_step texts (λ (told : Docs) (r : Result Relation BindFault). IsDeclared told (relation_names c.args.bound) d
    r) (with_relation c.args.bound) c.in-Ok.relation c.add_relation.result
    (declared_with texts c.args.bound d c.relations.result.now (Ok c.in-Ok.relation) names (c.in-Ok.ensures.declared tt))
    (subst (λ (r : Relation). IsDue (limited (with_relation c.args.bound r)) c.add_relation.result)
    c.into_parts-relation.ensures.relation c.add_relation.ensures.due)

pub returns-in-Err-clause-step : goal.returns-in-Err-clause-step
returns-in-Err-clause-step g c =
    let texts = g.S.Shelf.texts c.args.shelf.now in
    let d = c.args.declaration.now in
    let names : c.relations.result.now ≡ relation_names c.args.bound =
    c.relations.ensures ∙ ap (λ n. n.relations) c.bound.invariant.names_are ∙ ap (λ s. relation_names s) c.bound.view_is in
    part_refused texts (λ (told : Docs) (r : Result Relation BindFault). IsDeclared told
    (relation_names c.args.bound) d r) (with_relation c.args.bound) c.in-Err.fault
    (λ determined. declared_with texts c.args.bound d c.relations.result.now (Err c.in-Err.fault) names
    (c.in-Err.ensures.declared determined))

pub returns-in-Err-clause-table : goal.returns-in-Err-clause-table
returns-in-Err-clause-table g c =
    let names : c.relations.result.now ≡ relation_names c.args.bound =
    c.relations.ensures ∙ ap (λ n. n.relations) c.bound.invariant.names_are ∙ ap (λ s. relation_names s) c.bound.view_is in
    λ name. relation_table c.args.bound c.args.declaration.now c.relations.result.now c.in-Err.fault name names
    c.in-Err.ensures.table
