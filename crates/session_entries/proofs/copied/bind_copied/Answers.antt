-- The copy function that is found is that of the names, and what is due of its rows is due of the edit.
use Rattle.std.proofs.Common.{◌∙◌, ◌≡◌, ℕ, List, ap, subst, sym, IfOk, Result, Some, slice_get}
use Rattle.std.proofs.lemmas.Result.{err_from_is_err_and}
use Rattle.bind_faults.specs.declared.fault.BindFault.{BindFault}
use Rattle.spec_edits.specs.Edits.{IsEditOf}
use Rattle.spec_edits.specs.declared.edit.Edit.{Edit}
use Rattle.session_entries.specs.Entries.{mapping_in, row_names}
use Rattle.session_entries.proofs.RowsNamed.{copy_fault, copy_found, copy_there, mapping_there}
use Rattle.session_entries.proofs.copied.bind_copied.Goals as goal

pub returns-in_err-copy-clause-value : goal.returns-in_err-copy-clause-value
returns-in_err-copy-clause-value c =
    let p = err_from_is_err_and c.from_residual.result c.from_residual.ensures.1 in
    rw (p.1, p.2) (sym (copy_fault c.args.names.now c.copies.result.now c.args.spec.now c.args.add c.args.name.now
    c.args.mapping.now c.in_err-copy.field-0.0 c.requires c.copies.ensures c.in_err-copy.ensures.value))

-- what the rows are bound to, where the copy function is the one of the names
rows_bound : (c : goal.After-mapping_in) → c.mapping_in.result
    ≡ mapping_in (row_names c.args.spec.now.relations c.index-copies-copy.result.target)
    (row_names c.args.spec.now.relations c.index-copies-copy.result.source) c.args.add c.in_ok-copy.copy c.args.mapping.now
rows_bound c =
    let targets = c.row_names-targets.ensures.value ∙ ap (row_names c.args.spec.now.relations) c.target.ensures in
    let sources = c.row_names-sources.ensures.value ∙ ap (row_names c.args.spec.now.relations) c.source.ensures in
    c.mapping_in.ensures
    ∙ ap (λ (ts : List (List ℕ)). mapping_in ts c.row_names-sources.result.now c.args.add c.in_ok-copy.copy c.args.mapping.now)
    targets
    ∙ ap (λ (ss : List (List ℕ)). mapping_in (row_names c.args.spec.now.relations c.index-copies-copy.result.target) ss
    c.args.add c.in_ok-copy.copy c.args.mapping.now) sources

there : (c : goal.After-mapping_in) → slice_get c.args.spec.now.copies c.in_ok-copy.copy ≡ Some c.index-copies-copy.result
there c =
    copy_there c.args.names.now c.copies.result.now c.args.spec.now c.in_ok-copy.copy c.copies-2.result.now
    c.index-copies-copy.result c.requires c.copies.ensures c.in_ok-copy.ensures.within c.copies-2.ensures.value
    c.index-copies-copy.is

pub returns-clause-value : goal.returns-clause-value
returns-clause-value c =
    rows_bound c
    ∙ sym (copy_found c.args.names.now c.copies.result.now c.args.spec.now c.args.add c.args.name.now c.args.mapping.now
    c.in_ok-copy.copy c.index-copies-copy.result c.requires c.copies.ensures c.in_ok-copy.ensures.value (there c))

pub returns-clause-there : goal.returns-clause-there
returns-clause-there c =
    subst (λ (r : Result Edit BindFault). IfOk r (IsEditOf c.args.spec.now)) (sym (rows_bound c))
    (mapping_there c.args.spec.now c.args.add c.in_ok-copy.copy c.index-copies-copy.result c.args.mapping.now (there c))
