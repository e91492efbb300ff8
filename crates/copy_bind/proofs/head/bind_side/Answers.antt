-- The relation that is found is that of the names, and what is due of it is due of the side.
use Rattle.std.proofs.Common.{sym, subst, Result}
use Rattle.std.proofs.lemmas.Result.{err_from_is_err_and}
use Rattle.bind_faults.specs.Faults.{IsDue}
use Rattle.bind_faults.specs.declared.fault.BindFault.{BindFault}
use Rattle.copy_bind.specs.Sides.{Side}
use Rattle.copy_bind.proofs.AtPlace.{IsPlace, unknown_relation, due_at, parts_at}
use Rattle.copy_bind.proofs.Due.{due_same}
use Rattle.copy_bind.proofs.head.bind_side.Goals as goal

place : (c : goal.After-relation-parts) → IsPlace c.args.names.now c.args.spec.now c.relations.result.now
    c.in_ok-place.place c.relations-2.result.now c.index-relations-place.result
place c = record {
  all = c.requires;
  listed = c.relations.ensures;
  within = c.in_ok-place.ensures.within;
  are = c.relations-2.ensures.value;
  is = c.index-relations-place.is;
}

placed : (c : goal.After-side_with) → IsPlace c.args.names.now c.args.spec.now c.relations.result.now
    c.in_ok-place.place c.relations-2.result.now c.index-relations-place.result
placed c = record {
  all = c.requires;
  listed = c.relations.ensures;
  within = c.in_ok-place.ensures.within;
  are = c.relations-2.ensures.value;
  is = c.index-relations-place.is;
}

pub returns-in_err-place : goal.returns-in_err-place
returns-in_err-place c =
    let p = err_from_is_err_and c.from_residual.result c.from_residual.ensures.1 in
    rw (p.1, p.2) (due_same _ _ (unknown_relation c.args.names.now c.args.spec.now c.relations.result.now
    c.args.name.now c.args.attrs.now
    c.in_err-place.field-0.0 c.requires c.relations.ensures c.in_err-place.ensures.value))

pub side_with-requires-clause-names : goal.side_with-requires-clause-names
side_with-requires-clause-names c =
    parts_at c.args.names.now c.args.spec.now c.relations.result.now c.in_ok-place.place c.relations-2.result.now
    c.index-relations-place.result
    c.relation-parts.result.now (place c) c.relation-parts.ensures

pub returns : goal.returns
returns c =
    subst (λ (due : Result Side BindFault). IsDue due c.side_with.result)
    (sym (due_at c.args.names.now c.args.spec.now c.relations.result.now c.in_ok-place.place c.relations-2.result.now
    c.index-relations-place.result
    c.args.name.now c.args.attrs.now (placed c) c.in_ok-place.ensures.value)) c.side_with.ensures
