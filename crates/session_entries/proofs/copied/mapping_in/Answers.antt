-- The first of the two names that no row has is refused.
use Rattle.std.proofs.Common.{◌∙◌, Ok, ap, sym}
use Rattle.std.proofs.lemmas.Result.{err_from_is_err_and}
use Rattle.session_entries.proofs.RowsNamed.{both_found, source_fault, target_fault}
use Rattle.session_entries.proofs.copied.mapping_in.Goals as goal

pub returns-in_err-target : goal.returns-in_err-target
returns-in_err-target c =
    let p = err_from_is_err_and c.from_residual.result c.from_residual.ensures.1 in
    rw (p.1, p.2) (sym (target_fault c.args.targets.now c.args.sources.now c.args.add c.args.copy.0 c.args.pair.now
    c.in_err-target.field-0.0 c.in_err-target.ensures.value))

pub returns-in_err-source : goal.returns-in_err-source
returns-in_err-source c =
    let p = err_from_is_err_and c.from_residual-in_err-source.result c.from_residual-in_err-source.ensures.1 in
    rw (p.1, p.2) (sym (source_fault c.args.targets.now c.args.sources.now c.args.add c.args.copy.0 c.args.pair.now
    c.in_ok-target.target c.in_err-source.field-0.0 c.in_ok-target.ensures.value c.in_err-source.ensures.value))

pub returns : goal.returns
returns c =
    ap Ok c.copied_edit.ensures
    ∙ sym (both_found c.args.targets.now c.args.sources.now c.args.add c.args.copy.0 c.args.pair.now c.in_ok-target.target
    c.in_ok-source.source c.in_ok-target.ensures.value c.in_ok-source.ensures.value)
