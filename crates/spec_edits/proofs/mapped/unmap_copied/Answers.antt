use Rattle.std.proofs.Common.{◌≡◌, ◌+◌, ◌∙◌, true, false, sym, subst, slice_get, arith, rules}
use Rattle.std.proofs.lemmas.Option.{slice_get_within}
use Rattle.copy_functions.specs.Copies.{CopyFunction}
use Rattle.spec_model.specs.Spec.{Spec}
use Rattle.spec_edits.specs.Counted.{IsCounted}
use Rattle.spec_edits.specs.Edits.{is_mapped_to}
use Rattle.spec_edits.proofs.Counting.{if_some}
use Rattle.spec_edits.proofs.CopyEdits.{unmapped_edit, unmapped_refused, unmapping_counted, unmapping_is}
use Rattle.spec_edits.proofs.mapped.unmap_copied.Goals as goal

pub returns-then-not-is_mapped_to-clause-due : goal.returns-then-not-is_mapped_to-clause-due
returns-then-not-is_mapped_to-clause-due c =
    let s = c.args.spec.now in
    let f = c.requires.rows.function in
    let at = c.requires.rows.is_function in
    let told = if_some (λ (q : CopyFunction). c.is_mapped_to.result ≡ is_mapped_to q c.args.target c.args.source)
    (slice_get s.copies c.args.copy.0) f at c.is_mapped_to.ensures in
    let not : c.is_mapped_to.result ≡ false = search rules in
    unmapped_refused s c.args.copy c.args.target c.args.source f at (sym told ∙ not)

pub withdraw_copied-requires : goal.withdraw_copied-requires
withdraw_copied-requires c =
    slice_get_within c.args.spec.now.copies c.args.copy.0 c.requires.rows.function c.requires.rows.is_function

pub overflow_cast-result : goal.overflow_cast-result
overflow_cast-result c =
    let s = c.args.spec.now in
    let told = if_some (λ (q : CopyFunction). c.is_mapped_to.result ≡ is_mapped_to q c.args.target c.args.source)
    (slice_get s.copies c.args.copy.0) c.requires.rows.function c.requires.rows.is_function c.is_mapped_to.ensures in
    let yes : c.is_mapped_to.result ≡ true = search rules in
    let counted = unmapping_counted s c.args.lists.now c.args.left c.row_instances-less.result c.args.copy c.args.target
    c.args.source c.requires.rows c.requires.counted (sym told ∙ yes) c.row_instances-less.ensures in
    omega (arith, counted.0)

pub overflow_add-result : goal.overflow_add-result
overflow_add-result c =
    let s = c.args.spec.now in
    let told = if_some (λ (q : CopyFunction). c.is_mapped_to.result ≡ is_mapped_to q c.args.target c.args.source)
    (slice_get s.copies c.args.copy.0) c.requires.rows.function c.requires.rows.is_function c.is_mapped_to.ensures in
    let yes : c.is_mapped_to.result ≡ true = search rules in
    let counted = unmapping_counted s c.args.lists.now c.args.left c.row_instances-less.result c.args.copy c.args.target
    c.args.source c.requires.rows c.requires.counted (sym told ∙ yes) c.row_instances-less.ensures in
    omega (arith, counted.0)

pub returns-clause-ok : goal.returns-clause-ok
returns-clause-ok c =
    let s = c.args.spec.now in
    let f = c.requires.rows.function in
    let at = c.requires.rows.is_function in
    let told = if_some (λ (q : CopyFunction). c.is_mapped_to.result ≡ is_mapped_to q c.args.target c.args.source)
    (slice_get s.copies c.args.copy.0) f at c.is_mapped_to.ensures in
    let yes : c.is_mapped_to.result ≡ true = search rules in
    unmapped_edit s c.withdraw_copied.new.self c.args.copy c.args.target c.args.source f at (sym told ∙ yes)
    (unmapping_is s c.withdraw_copied.new.self c.args.copy.0 c.args.target f at c.withdraw_copied.ensures.value
    c.withdraw_copied.ensures.relations c.withdraw_copied.ensures.rules)

pub returns-clause-counted : goal.returns-clause-counted
returns-clause-counted c =
    let s = c.args.spec.now in
    let f = c.requires.rows.function in
    let at = c.requires.rows.is_function in
    let told = if_some (λ (q : CopyFunction). c.is_mapped_to.result ≡ is_mapped_to q c.args.target c.args.source)
    (slice_get s.copies c.args.copy.0) f at c.is_mapped_to.ensures in
    let yes : c.is_mapped_to.result ≡ true = search rules in
    let counted = unmapping_counted s c.args.lists.now c.args.left c.row_instances-less.result c.args.copy c.args.target
    c.args.source c.requires.rows c.requires.counted (sym told ∙ yes) c.row_instances-less.ensures in
    subst (λ (u : Spec). IsCounted u c.args.lists.now (c.args.left + c.row_instances-less.result))
    (sym (unmapping_is s c.withdraw_copied.new.self c.args.copy.0 c.args.target f at c.withdraw_copied.ensures.value
    c.withdraw_copied.ensures.relations c.withdraw_copied.ensures.rules)) counted.1
