-- An unknown attribute, an unknown row and a wrong pair are the faults that are due, in this order.
use Rattle.std.proofs.lemmas.Result.{err_from_is_err_and}
use Rattle.order_bind.proofs.Given.{record_fault, row_fault, pairs_read}
use Rattle.order_bind.proofs.tables.bind.table_pairs.Goals as goal

pub returns-in_err-records-clause-due : goal.returns-in_err-records-clause-due
returns-in_err-records-clause-due c =
    let p = err_from_is_err_and c.from_residual.result c.from_residual.ensures.1 in
    rw (p.1, p.2) (record_fault c.args.names.now c.args.relation.now c.args.table.now c.args.tuples
    c.in_err-records.field-0.0 c.requires.names c.in_err-records.ensures)

pub returns-in_err-pairs-clause-due : goal.returns-in_err-pairs-clause-due
returns-in_err-pairs-clause-due c =
    let p = err_from_is_err_and c.from_residual-in_err-pairs.result c.from_residual-in_err-pairs.ensures.1 in
    rw (p.1, p.2) (row_fault c.args.names.now c.args.relation.now c.args.table.now c.args.tuples
    c.in_ok-records.records c.as_slice.result.now
    c.in_err-pairs.field-0.0 c.requires.names c.in_ok-records.ensures c.as_slice.ensures c.in_err-pairs.ensures)

pub returns-clause-due : goal.returns-clause-due
returns-clause-due c =
    (pairs_read c.args.names.now c.args.relation.now c.args.table.now c.args.tuples c.in_ok-records.records
    c.as_slice.result.now c.in_ok-pairs.pairs c.as_slice-2.result.now
    c.checked.result c.requires.names c.in_ok-records.ensures c.as_slice.ensures c.in_ok-pairs.ensures
    c.as_slice-2.ensures c.checked.ensures).due

pub returns-clause-given : goal.returns-clause-given
returns-clause-given c =
    (pairs_read c.args.names.now c.args.relation.now c.args.table.now c.args.tuples c.in_ok-records.records
    c.as_slice.result.now c.in_ok-pairs.pairs c.as_slice-2.result.now
    c.checked.result c.requires.names c.in_ok-records.ensures c.as_slice.ensures c.in_ok-pairs.ensures
    c.as_slice-2.ensures c.checked.ensures).given
