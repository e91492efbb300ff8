use Rattle.std.proofs.Common.{◌≡◌, ◌<◌, ◌^◌, ◌∙◌, Ok, inr, sym, ap, subst, arith}
use Rattle.std.proofs.lemmas.Option.{slice_get_within}
use Rattle.spec_model.specs.Spec.{Spec}
use Rattle.spec_edits.specs.Counted.{IsCounted}
use Rattle.spec_edits.specs.Edits.{IsRefused, of_copy}
use Rattle.spec_edits.specs.declared.edit.Edit.TheVariants.{MapCopied}
use Rattle.spec_edits.specs.declared.fault.EditFault.{EditFault}
use Rattle.spec_edits.proofs.Counting.{within_limits}
use Rattle.spec_edits.proofs.CopyEdits.{copy_refused, err_and, mapped_edit, mapping_above, mapping_counted, mapping_is}
use Rattle.spec_edits.proofs.mapped.map_copied.Goals as goal

pub returns-in_err-check_copied-clause-due : goal.returns-in_err-check_copied-clause-due
returns-in_err-check_copied-clause-due c =
    let s = c.args.spec.now in
    let fault = c.in_err-check_copied.field-0.0 in
    let edit = MapCopied c.args.copy c.args.target c.args.source in
    err_and c.from_residual.result (λ e. e ≡ of_copy fault) (IsRefused s edit) c.from_residual.ensures.1
    (λ e is. subst (λ (f : EditFault). IsRefused s edit f) (sym is)
    (copy_refused s c.args.copy c.args.target c.args.source c.requires.rows.function fault c.requires.rows.is_function
    c.in_err-check_copied.ensures.due))

pub returns-in_default-clause-due : goal.returns-in_default-clause-due
returns-in_default-clause-due c =
    let few : c.args.left < 2 ^ 32 = omega arith in
    inr (mapping_above c.args.spec.now c.args.lists.now c.args.left c.row_instances-more.result c.args.copy c.args.target
    c.args.source c.requires.rows c.requires.counted few c.in_ok-check_copied.ensures.faultless c.row_instances-more.ensures
    (sym c.left_after.ensures ∙ c.in_default.is))

pub map_copied-requires-clause-within : goal.map_copied-requires-clause-within
map_copied-requires-clause-within c =
    slice_get_within c.args.spec.now.copies c.args.copy.0 c.requires.rows.function c.requires.rows.is_function

pub returns-clause-ok : goal.returns-clause-ok
returns-clause-ok c =
    let s = c.args.spec.now in
    let f = c.requires.rows.function in
    let at = c.requires.rows.is_function in
    let few : c.args.left < 2 ^ 32 = omega arith in
    let counted = mapping_counted s c.args.lists.now c.args.left c.row_instances-more.result c.in-Some.rest c.args.copy
    c.args.target c.args.source c.requires.rows c.requires.counted few c.in_ok-check_copied.ensures.faultless
    c.row_instances-more.ensures (sym c.left_after.ensures ∙ c.in-Some.is) in
    let new = mapping_is s c.map_copied.new.self c.args.copy.0 c.args.target c.args.source f at c.in_ok-map_copied.ensures.ok
    c.map_copied.ensures.relations c.map_copied.ensures.rules in
    mapped_edit s c.args.copy c.args.target c.args.source f _ at c.in_ok-check_copied.ensures.faultless
    (within_limits _ c.args.lists.now c.in-Some.rest counted ∙ ap Ok (sym new))

pub returns-clause-counted : goal.returns-clause-counted
returns-clause-counted c =
    let s = c.args.spec.now in
    let f = c.requires.rows.function in
    let at = c.requires.rows.is_function in
    let few : c.args.left < 2 ^ 32 = omega arith in
    let new = mapping_is s c.map_copied.new.self c.args.copy.0 c.args.target c.args.source f at c.in_ok-map_copied.ensures.ok
    c.map_copied.ensures.relations c.map_copied.ensures.rules in
    subst (λ (u : Spec). IsCounted u c.args.lists.now c.in-Some.rest) (sym new)
    (mapping_counted s c.args.lists.now c.args.left c.row_instances-more.result c.in-Some.rest c.args.copy c.args.target
    c.args.source c.requires.rows c.requires.counted few c.in_ok-check_copied.ensures.faultless c.row_instances-more.ensures
    (sym c.left_after.ensures ∙ c.in-Some.is))
