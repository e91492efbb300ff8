-- An unknown attribute, an unknown row and a pair that is not of one entity are the faults that are due, in this order.
use Rattle.std.proofs.Common.{◌∙◌, sym}
use Rattle.std.proofs.lemmas.Result.{err_from_is_err_and}
use Rattle.session_entries.proofs.PairsNamed.{attr_fault, row_fault, rows_found}
use Rattle.session_entries.proofs.given.pair_in.Goals as goal

pub returns-in_err-place-clause-value : goal.returns-in_err-place-clause-value
returns-in_err-place-clause-value c =
    let p = err_from_is_err_and c.from_residual.result c.from_residual.ensures.1 in
    rw (p.1, p.2) (sym (attr_fault c.args.names.now c.args.relation.now c.args.attr.now c.args.pair.now
    c.in_err-place.field-0.0 c.requires.names c.in_err-place.ensures.value))

pub returns-in_err-resolved-clause-value : goal.returns-in_err-resolved-clause-value
returns-in_err-resolved-clause-value c =
    let p = err_from_is_err_and c.from_residual-in_err-resolved.result c.from_residual-in_err-resolved.ensures.1 in
    rw (p.1, p.2) (sym (row_fault c.args.names.now c.args.relation.now c.args.attr.now c.args.pair.now c.in_ok-place.place
    c.in_err-resolved.field-0.0 c.requires.names c.in_ok-place.ensures.value c.in_err-resolved.ensures))

pub returns-clause-value : goal.returns-clause-value
returns-clause-value c =
    c.checked_pair.ensures
    ∙ rows_found c.args.names.now c.args.relation.now c.args.attr.now c.args.pair.now c.in_ok-place.place c.as_slice.result.now
    c.in_ok-resolved.resolved c.requires.names c.in_ok-place.ensures.value c.in_ok-resolved.ensures c.as_slice.ensures
