-- The relation is refused, or its table is not read, or its pairs are what is made.
use Rattle.std.proofs.Common.{◌∙◌, ap, Err}
use Rattle.std.proofs.lemmas.Result.{err_from_is_err_and}
use Rattle.order_bind.proofs.Made.{name_found, read_made, rel_within, table_not_given, unknown_made, unread_made}
use Rattle.order_bind.proofs.tables.bind.bind_orders.Goals as goal

pub returns-in_err-rel-clause-step : goal.returns-in_err-rel-clause-step
returns-in_err-rel-clause-step g c =
    let p = err_from_is_err_and c.from_residual.result c.from_residual.ensures.1 in
    λ determined. unknown_made (g.S.Shelf.texts c.args.shelf.now) c.args.names.now c.relations.result.now
    c.args.spec.now c.args.relation.now c.args.document.now
    c.args.spec.now.relations c.in_err-rel.field-0.0 c.from_residual.result c.requires c.relations.ensures
    c.in_err-rel.ensures.value (p.1 ∙ ap Err p.2)

pub returns-in_err-tuples-clause-step : goal.returns-in_err-tuples-clause-step
returns-in_err-tuples-clause-step g c =
    let p = err_from_is_err_and c.from_residual-in_err-tuples.result c.from_residual-in_err-tuples.ensures.1 in
    let at = name_found c.args.names.now c.relations.result.now c.args.spec.now c.args.relation.now c.in_ok-rel.rel
    c.requires c.relations.ensures c.in_ok-rel.ensures.value in
    λ determined. unread_made (g.S.Shelf.texts c.args.shelf.now) c.args.spec.now.relations c.args.relation.now
    c.args.document.now c.in_ok-rel.rel c.args.spec.now.relations
    c.in_err-tuples.field-0.0 c.from_residual-in_err-tuples.result at c.in_err-tuples.ensures.tuples (p.1 ∙ ap Err p.2) determined

pub returns-in_err-tuples-clause-table : goal.returns-in_err-tuples-clause-table
returns-in_err-tuples-clause-table g c =
    let p = err_from_is_err_and c.from_residual-in_err-tuples.result c.from_residual-in_err-tuples.ensures.1 in
    let at = name_found c.args.names.now c.relations.result.now c.args.spec.now c.args.relation.now c.in_ok-rel.rel
    c.requires c.relations.ensures c.in_ok-rel.ensures.value in
    table_not_given c.args.spec.now.relations c.args.relation.now c.args.document.now c.in_ok-rel.rel
    c.in_err-tuples.field-0.0 c.from_residual-in_err-tuples.result
    at c.in_err-tuples.ensures.names_it (p.1 ∙ ap Err p.2)

pub give_pairs-requires-clause-within : goal.give_pairs-requires-clause-within
give_pairs-requires-clause-within g c = rel_within c.args.names.now c.relations.result.now c.args.spec.now
    c.in_ok-rel.rel c.requires c.relations.ensures c.in_ok-rel.ensures.within

pub returns-clause-step : goal.returns-clause-step
returns-clause-step g c =
    let at = name_found c.args.names.now c.relations.result.now c.args.spec.now c.args.relation.now c.in_ok-rel.rel
    c.requires c.relations.ensures c.in_ok-rel.ensures.value in
    λ determined. read_made (g.S.Shelf.texts c.args.shelf.now) c.args.spec.now.relations c.args.relation.now
    c.args.document.now c.in_ok-rel.rel c.give_pairs.new.spec.relations
    c.in_ok-tuples.tuples c.give_pairs.result at (c.in_ok-tuples.ensures.tuples tt) c.give_pairs.ensures.step
