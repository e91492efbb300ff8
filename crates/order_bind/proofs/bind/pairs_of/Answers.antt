-- An unknown attribute, an unknown row and a wrong pair are the faults that are due, in this order.
use Rattle.std.proofs.lemmas.Result.{err_from_is_err_and}
use Rattle.bind_faults.proofs.Outcomes.{due_same}
use Rattle.order_bind.proofs.OrderPairs.{IsRead, attr_fault, row_fault, pairs_read, all_of-length}
use Rattle.order_bind.proofs.bind.pairs_of.Goals as goal

pub returns-in_err-attr-clause-due : goal.returns-in_err-attr-clause-due
returns-in_err-attr-clause-due c =
    let p = err_from_is_err_and c.from_residual.result c.from_residual.ensures.1 in
    rw (p.1, p.2) (due_same _ _ (attr_fault c.args.names.now c.args.relation.now c.args.ordering.now
    c.in_err-attr.field-0.0 c.requires.names c.in_err-attr.ensures.value))

pub returns-in_err-pairs-clause-due : goal.returns-in_err-pairs-clause-due
returns-in_err-pairs-clause-due c =
    let p = err_from_is_err_and c.from_residual-in_err-pairs.result c.from_residual-in_err-pairs.ensures.1 in
    rw (p.1, p.2) (row_fault c.args.names.now c.args.relation.now c.args.ordering.now c.in_ok-attr.attr
    c.as_slice-named.result.now
    c.in_err-pairs.field-0.0 c.requires.names c.as_slice-named.ensures c.in_ok-attr.ensures.value c.in_err-pairs.ensures)

pub checked-requires : goal.checked-requires
checked-requires c = all_of-length _ c.as_slice-named.result.now c.in_ok-pairs.pairs c.in_ok-pairs.ensures

read : (c : goal.After-checked) → IsRead c.args.relation.now c.args.ordering.now c.checked.result
read c =
    pairs_read c.args.names.now c.args.relation.now c.args.ordering.now c.in_ok-attr.attr c.as_slice-named.result.now
    c.as_slice.result.now
    c.in_ok-pairs.pairs c.checked.result c.requires.names c.as_slice-named.ensures c.as_slice.ensures c.in_ok-attr.ensures.value
    c.in_ok-attr.ensures.within c.in_ok-pairs.ensures c.checked.ensures

pub returns-clause-due : goal.returns-clause-due
returns-clause-due c = (read c).due

pub returns-clause-given : goal.returns-clause-given
returns-clause-given c = (read c).given
