-- The relation that is found is that of the names, and what is due of it is due of the rule.
use Rattle.std.proofs.Common.{sym, arith, subst, Result}
use Rattle.std.proofs.lemmas.Result.{err_from_is_err_and}
use Rattle.bind_faults.specs.Faults.{IsDue}
use Rattle.bind_faults.specs.declared.fault.BindFault.{BindFault}
use Rattle.denial_rules.specs.declared.rule.Rule.{Rule}
use Rattle.bind_faults.proofs.Outcomes.{due_same}
use Rattle.rule_bind.proofs.AtPlace.{IsPlace, place_fits, relation_at, attrs_at, few_attrs, unknown_relation, due_at, fits_at, fresh_at}
use Rattle.rule_bind.proofs.bind.bind_named.Goals as goal

place : (c : goal.After-rules) → IsPlace c.args.names.now c.args.spec.now c.relations.result.now c.in_ok-rel.rel
    c.relations-2.result.now c.index-relations-rel.result c.relation.result.now
place c = record {
  all = c.requires;
  listed = c.relations.ensures;
  within = c.in_ok-rel.ensures.within;
  are = c.relations-2.ensures.value;
  is = c.index-relations-rel.is;
  has_names = c.relation.ensures;
}

placed : (c : goal.After-bind_at) → IsPlace c.args.names.now c.args.spec.now c.relations.result.now c.in_ok-rel.rel
    c.relations-2.result.now c.index-relations-rel.result c.relation.result.now
placed c = record {
  all = c.requires;
  listed = c.relations.ensures;
  within = c.in_ok-rel.ensures.within;
  are = c.relations-2.ensures.value;
  is = c.index-relations-rel.is;
  has_names = c.relation.ensures;
}

pub returns-in_err-rel-clause-due : goal.returns-in_err-rel-clause-due
returns-in_err-rel-clause-due c =
    let p = err_from_is_err_and c.from_residual.result c.from_residual.ensures.1 in
    rw (p.1, p.2) (due_same _ _ (unknown_relation c.args.names.now c.args.spec.now c.relations.result.now c.args.tree.now
    c.in_err-rel.field-0.0 c.requires c.relations.ensures c.in_err-rel.ensures.value))

pub overflow_cast-place : goal.overflow_cast-place
overflow_cast-place c =
    omega (
      arith,
      place_fits c.args.names.now c.args.spec.now c.relations.result.now c.in_ok-rel.rel c.requires c.relations.ensures
          c.in_ok-rel.ensures.within c.relations-2.ensures.facts,
    )

pub bind_at-requires-clause-attrs : goal.bind_at-requires-clause-attrs
bind_at-requires-clause-attrs c = attrs_at _ _ _ _ _ _ _ (place c)

pub bind_at-requires-clause-few : goal.bind_at-requires-clause-few
bind_at-requires-clause-few c = few_attrs _ _ _ _ _ _ _ (place c) c.relations-2.ensures.facts

pub returns-clause-due : goal.returns-clause-due
returns-clause-due c =
    subst (λ (due : Result Rule BindFault). IsDue due c.bind_at.result)
    (sym (due_at _ _ _ _ _ _ _ c.args.tree.now c.rules.result.now (placed c) c.in_ok-rel.ensures.value
    c.rules.ensures)) c.bind_at.ensures.due

pub returns-clause-fits : goal.returns-clause-fits
returns-clause-fits c =
    fits_at c.args.spec.now c.in_ok-rel.rel c.index-relations-rel.result c.bind_at.result (relation_at _ _ _ _ _ _ _ (placed c))
    c.bind_at.ensures.of c.bind_at.ensures.fits

pub returns-clause-fresh : goal.returns-clause-fresh
returns-clause-fresh c =
    fresh_at c.args.names.now c.args.spec.now c.rules.result.now c.bind_at.result c.requires c.rules.ensures
    c.bind_at.ensures.fresh
