-- The relation that is found is that of the names, and what is due of its pair is due of the edit.
use Rattle.std.proofs.Common.{◌∙◌, Ok, ap, sym, subst}
use Rattle.std.proofs.lemmas.Result.{err_from_is_err_and}
use Rattle.bind_faults.specs.Faults.{and_then}
use Rattle.order_bind.proofs.OrderPairs.{parts_of, relation_there}
use Rattle.spec_edits.specs.Edits.{IsEditOf}
use Rattle.session_entries.specs.Entries.{given_edit}
use Rattle.session_entries.proofs.PairsNamed.{given_there, relation_fault, relation_found}
use Rattle.session_entries.proofs.given.bind_given.Goals as goal

pub returns-in_err-rel-clause-value : goal.returns-in_err-rel-clause-value
returns-in_err-rel-clause-value c =
    let p = err_from_is_err_and c.from_residual.result c.from_residual.ensures.1 in
    rw (p.1, p.2) (sym (relation_fault c.args.names.now c.relations.result.now c.args.spec.now c.args.add c.args.relation.now
    c.args.attr.now c.args.pair.now c.in_err-rel.field-0.0 c.requires c.relations.ensures c.in_err-rel.ensures.value))

pub pair_in-requires-clause-names : goal.pair_in-requires-clause-names
pair_in-requires-clause-names c =
    let here = relation_there c.args.names.now c.relations.result.now c.args.spec.now c.in_ok-rel.rel c.relations-2.result.now
    c.index-relations-rel.result c.requires c.relations.ensures c.in_ok-rel.ensures.within
    c.relations-2.ensures.value c.index-relations-rel.is in
    parts_of c.args.names.now c.args.spec.now c.in_ok-rel.rel c.index-relations-rel.result c.relation.result.now
    c.requires c.relation.ensures here

pub returns-in_err-pair-clause-value : goal.returns-in_err-pair-clause-value
returns-in_err-pair-clause-value c =
    let p = err_from_is_err_and c.from_residual-in_err-pair.result c.from_residual-in_err-pair.ensures.1 in
    let here = relation_there c.args.names.now c.relations.result.now c.args.spec.now c.in_ok-rel.rel c.relations-2.result.now
    c.index-relations-rel.result c.requires c.relations.ensures c.in_ok-rel.ensures.within
    c.relations-2.ensures.value c.index-relations-rel.is in
    rw (p.1, p.2) (sym (relation_found c.args.names.now c.relations.result.now c.args.spec.now c.args.add c.args.relation.now
    c.args.attr.now c.args.pair.now c.in_ok-rel.rel c.index-relations-rel.result c.requires c.relations.ensures
    c.in_ok-rel.ensures.value here
    ∙ ap (λ q. and_then q (λ pair. Ok (given_edit c.args.add c.in_ok-rel.rel pair))) (sym c.in_err-pair.ensures.value)))

pub returns-clause-value : goal.returns-clause-value
returns-clause-value c =
    let here = relation_there c.args.names.now c.relations.result.now c.args.spec.now c.in_ok-rel.rel c.relations-2.result.now
    c.index-relations-rel.result c.requires c.relations.ensures c.in_ok-rel.ensures.within
    c.relations-2.ensures.value c.index-relations-rel.is in
    ap Ok c.given_edit.ensures
    ∙ sym (relation_found c.args.names.now c.relations.result.now c.args.spec.now c.args.add c.args.relation.now
    c.args.attr.now c.args.pair.now c.in_ok-rel.rel c.index-relations-rel.result c.requires c.relations.ensures
    c.in_ok-rel.ensures.value here
    ∙ ap (λ q. and_then q (λ pair. Ok (given_edit c.args.add c.in_ok-rel.rel pair))) (sym c.in_ok-pair.ensures.value))

pub returns-clause-there : goal.returns-clause-there
returns-clause-there c =
    let here = relation_there c.args.names.now c.relations.result.now c.args.spec.now c.in_ok-rel.rel c.relations-2.result.now
    c.index-relations-rel.result c.requires c.relations.ensures c.in_ok-rel.ensures.within
    c.relations-2.ensures.value c.index-relations-rel.is in
    subst (IsEditOf c.args.spec.now) (sym c.given_edit.ensures)
    (given_there c.args.spec.now c.args.add c.in_ok-rel.rel c.index-relations-rel.result c.in_ok-pair.pair here
    c.in_ok-pair.ensures.there)
