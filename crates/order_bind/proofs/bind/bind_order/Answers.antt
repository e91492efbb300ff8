-- The relation that is found is that of the names, and its pairs are added where none is refused.
use Rattle.std.proofs.Common.{ap, ◌∙◌}
use Rattle.std.proofs.lemmas.Result.{err_from_is_err_and}
use Rattle.order_bind.specs.Orders.{giving_pairs}
use Rattle.order_bind.proofs.OrderFaults.{pairs_due_reads}
use Rattle.order_bind.proofs.OrderPairs.{relation_fault, relation_found, relation_there, steps_same, steps_through, parts_of, fits_there, given_all}
use Rattle.order_bind.proofs.bind.bind_order.Goals as goal

pub returns-in_err-rel-clause-step : goal.returns-in_err-rel-clause-step
returns-in_err-rel-clause-step c =
    let p = err_from_is_err_and c.from_residual.result c.from_residual.ensures.1 in
    rw (p.1, p.2) (steps_same c.args.spec.now.relations _ _ (relation_fault c.args.names.now c.relations.result.now
    c.args.spec.now c.args.ordering.now
    c.in_err-rel.field-0.0 c.requires c.relations.ensures c.in_err-rel.ensures.value))

pub pairs_of-requires-clause-names : goal.pairs_of-requires-clause-names
pairs_of-requires-clause-names c =
    let here = relation_there c.args.names.now c.relations.result.now c.args.spec.now c.in_ok-rel.rel c.relations-2.result.now
    c.index-relations-rel.result c.requires c.relations.ensures c.in_ok-rel.ensures.within
    c.relations-2.ensures.value c.index-relations-rel.is in
    parts_of c.args.names.now c.args.spec.now c.in_ok-rel.rel c.index-relations-rel.result c.relation.result.now
    c.requires c.relation.ensures here

pub returns-in_err-pairs-clause-step : goal.returns-in_err-pairs-clause-step
returns-in_err-pairs-clause-step c =
    let p = err_from_is_err_and c.from_residual-in_err-pairs.result c.from_residual-in_err-pairs.ensures.1 in
    let here = relation_there c.args.names.now c.relations.result.now c.args.spec.now c.in_ok-rel.rel c.relations-2.result.now
    c.index-relations-rel.result c.requires c.relations.ensures c.in_ok-rel.ensures.within
    c.relations-2.ensures.value c.index-relations-rel.is in
    let found = relation_found c.args.names.now c.relations.result.now c.args.spec.now c.args.ordering.now c.in_ok-rel.rel
    c.index-relations-rel.result c.requires c.relations.ensures c.in_ok-rel.ensures.value here in
    rw (p.1, p.2) (steps_through c.args.spec.now.relations _ _ c.in_err-pairs.field-0.0 c.in_err-pairs.ensures.due
    (λ is. found ∙ ap (giving_pairs c.args.spec.now.relations c.in_ok-rel.rel c.index-relations-rel.result) is))

pub add_all-requires-clause-given : goal.add_all-requires-clause-given
add_all-requires-clause-given c =
    let here = relation_there c.args.names.now c.relations.result.now c.args.spec.now c.in_ok-rel.rel c.relations-2.result.now
    c.index-relations-rel.result c.requires c.relations.ensures c.in_ok-rel.ensures.within
    c.relations-2.ensures.value c.index-relations-rel.is in
    fits_there c.args.spec.now.relations c.in_ok-rel.rel c.index-relations-rel.result c.as_slice.result.now
    c.in_ok-pairs.pairs here
    c.as_slice.ensures c.in_ok-pairs.ensures.given

pub returns-in-Ok-clause-step : goal.returns-in-Ok-clause-step
returns-in-Ok-clause-step c =
    let here = relation_there c.args.names.now c.relations.result.now c.args.spec.now c.in_ok-rel.rel c.relations-2.result.now
    c.index-relations-rel.result c.requires c.relations.ensures c.in_ok-rel.ensures.within
    c.relations-2.ensures.value c.index-relations-rel.is in
    let found = relation_found c.args.names.now c.relations.result.now c.args.spec.now c.args.ordering.now c.in_ok-rel.rel
    c.index-relations-rel.result c.requires c.relations.ensures c.in_ok-rel.ensures.value here in
    found ∙ given_all c.args.spec.now.relations c.add_all.new.spec.relations c.in_ok-rel.rel
    c.index-relations-rel.result _ c.in_ok-pairs.pairs c.as_slice.result.now
    c.in_ok-pairs.ensures.due c.as_slice.ensures (c.in-Ok.ensures.ok c.index-relations-rel.result here)

pub returns-in_err-pairs-clause-reads : goal.returns-in_err-pairs-clause-reads
returns-in_err-pairs-clause-reads c =
    let p = err_from_is_err_and c.from_residual-in_err-pairs.result c.from_residual-in_err-pairs.ensures.1 in
    rw (p.1, p.2) (pairs_due_reads c.index-relations-rel.result c.args.ordering.now c.in_err-pairs.field-0.0
    c.in_err-pairs.ensures.due)
