-- The relation is that of the names, and its pairs are added where none is refused.
use Rattle.std.proofs.Common.{ap, ◌∙◌}
use Rattle.std.proofs.lemmas.Result.{err_from_is_err_and}
use Rattle.bind_faults.proofs.Outcomes.{due_reads}
use Rattle.order_bind.specs.Orders.{giving_pairs}
use Rattle.order_bind.proofs.OrderPairs.{steps_through, parts_of, fits_there, given_all}
use Rattle.order_bind.specs.TableOrders.{pairs_of_tuples}
use Rattle.order_bind.proofs.Made.{relation_there, due_there, tuples_read}
use Rattle.order_bind.proofs.tables.bind.give_pairs.Goals as goal

pub table_pairs-requires-clause-names : goal.table_pairs-requires-clause-names
table_pairs-requires-clause-names c =
    let here = relation_there c.args.spec.now c.args.rel c.relations.result.now c.index-relations-rel.result
    c.requires.within c.relations.ensures.value c.index-relations-rel.is in
    parts_of c.args.names.now c.args.spec.now c.args.rel c.index-relations-rel.result c.relation.result.now
    c.requires.names c.relation.ensures here

pub returns-in_err-pairs-clause-step : goal.returns-in_err-pairs-clause-step
returns-in_err-pairs-clause-step c =
    let p = err_from_is_err_and c.from_residual.result c.from_residual.ensures.1 in
    let r = c.index-relations-rel.result in
    let here = relation_there c.args.spec.now c.args.rel c.relations.result.now r c.requires.within
    c.relations.ensures.value c.index-relations-rel.is in
    rw (p.1, p.2) (steps_through c.args.spec.now.relations (pairs_of_tuples r c.args.table.now c.args.tuples) _
    c.in_err-pairs.field-0.0 c.in_err-pairs.ensures.due
    (λ is. due_there c.args.spec.now.relations c.args.rel c.args.table.now c.args.tuples r here
    ∙ ap (giving_pairs c.args.spec.now.relations c.args.rel r) is))

pub returns-in_err-pairs-clause-reads : goal.returns-in_err-pairs-clause-reads
returns-in_err-pairs-clause-reads c =
    let p = err_from_is_err_and c.from_residual.result c.from_residual.ensures.1 in
    let r = c.index-relations-rel.result in
    rw (p.1, p.2) (due_reads (Unit {0}) (pairs_of_tuples r c.args.table.now c.args.tuples) c.in_err-pairs.field-0.0
    (tuples_read r c.args.table.now c.args.tuples) c.in_err-pairs.ensures.due)

pub add_all-requires-clause-given : goal.add_all-requires-clause-given
add_all-requires-clause-given c =
    let here = relation_there c.args.spec.now c.args.rel c.relations.result.now c.index-relations-rel.result
    c.requires.within c.relations.ensures.value c.index-relations-rel.is in
    fits_there c.args.spec.now.relations c.args.rel c.index-relations-rel.result c.as_slice.result.now
    c.in_ok-pairs.pairs here c.as_slice.ensures c.in_ok-pairs.ensures.given

pub returns-in-Ok-clause-step : goal.returns-in-Ok-clause-step
returns-in-Ok-clause-step c =
    let r = c.index-relations-rel.result in
    let here = relation_there c.args.spec.now c.args.rel c.relations.result.now r c.requires.within
    c.relations.ensures.value c.index-relations-rel.is in
    due_there c.args.spec.now.relations c.args.rel c.args.table.now c.args.tuples r here
    ∙ given_all c.args.spec.now.relations c.add_all.new.spec.relations c.args.rel r
    (pairs_of_tuples r c.args.table.now c.args.tuples) c.in_ok-pairs.pairs c.as_slice.result.now
    c.in_ok-pairs.ensures.due c.as_slice.ensures (c.in-Ok.ensures.ok r here)

pub returns-in-Ok-clause-given : goal.returns-in-Ok-clause-given
returns-in-Ok-clause-given c =
    let r = c.index-relations-rel.result in
    let here = relation_there c.args.spec.now c.args.rel c.relations.result.now r c.requires.within
    c.relations.ensures.value c.index-relations-rel.is in
    record { rel = c.args.rel; r = r; pairs = c.as_slice.result.now; there = here; is = c.in-Ok.ensures.ok r here }
