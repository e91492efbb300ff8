-- What the parts are refused for is due, in the order of the checks.
use Rattle.std.proofs.Common.{◌≡◌, ◌∙◌, ap, sym, None, Some, Ok}
use Rattle.std.proofs.lemmas.Result.{err_from_is_err_and}
use Rattle.bind_faults.specs.Faults.{unless}
use Rattle.copy_bind.specs.Heads.{head_of, matched, names_refused, side_of}
use Rattle.copy_bind.proofs.Due.{AreSides, copies_of, due_through, is_free, is_refused, are_sides, of_copies, target_refused, source_refused, name_refused, match_refused, head_there}
use Rattle.copy_bind.proofs.Fitting.{head_among, is_fresh}
use Rattle.copy_bind.proofs.HeadReads.{head_reads}
use Rattle.copy_bind.proofs.NoReads.{due_reads}
use Rattle.copy_bind.proofs.head.bind_head.Goals as goal

-- once the names are checked
pub record IsChecked (c : goal.In_ok-places) : Type 0 where
  pub sides : AreSides c.args.spec.now c.args.tree.now c.in_ok-target.target c.in_ok-source.source
  pub free : names_refused (copies_of c.args.spec.now) c.args.tree.now ≡ None

checked : (c : goal.In_ok-places) → IsChecked c
checked c = record {
  sides = are_sides c.args.spec.now c.args.tree.now c.as_slice.result.now c.as_slice-2.result.now
      c.in_ok-target.target c.in_ok-source.source
      c.as_slice.ensures c.as_slice-2.ensures c.in_ok-target.ensures c.in_ok-source.ensures;
  free =
      of_copies c.args.names.now c.args.spec.now c.copies.result.now c.args.tree.now None c.requires c.copies.ensures
      (is_free (names_refused c.copies.result.now c.args.tree.now) c.in_ok-check_names.field-0 c.in_ok-check_names.ensures);
}

pub returns-in_err-target-clause-due : goal.returns-in_err-target-clause-due
returns-in_err-target-clause-due c =
    let p = err_from_is_err_and c.from_residual.result c.from_residual.ensures.1 in
    rw (p.1, p.2) (due_through (side_of c.args.spec.now.relations c.args.tree.now.target c.as_slice.result.now)
    (head_of c.args.spec.now c.args.tree.now)
    c.in_err-target.field-0.0 c.in_err-target.ensures
    (λ is. target_refused c.args.spec.now c.args.tree.now c.in_err-target.field-0.0
    (ap (side_of c.args.spec.now.relations c.args.tree.now.target) (sym c.as_slice.ensures) ∙ is)))

pub returns-in_err-source-clause-due : goal.returns-in_err-source-clause-due
returns-in_err-source-clause-due c =
    let p = err_from_is_err_and c.from_residual-in_err-source.result c.from_residual-in_err-source.ensures.1 in
    let first : side_of c.args.spec.now.relations c.args.tree.now.target c.args.tree.now.target_attrs ≡ Ok c.in_ok-target.target =
    ap (side_of c.args.spec.now.relations c.args.tree.now.target) (sym c.as_slice.ensures) ∙ c.in_ok-target.ensures in
    rw (p.1, p.2) (due_through (side_of c.args.spec.now.relations c.args.tree.now.source c.as_slice-2.result.now)
    (head_of c.args.spec.now c.args.tree.now)
    c.in_err-source.field-0.0 c.in_err-source.ensures
    (λ is. source_refused c.args.spec.now c.args.tree.now c.in_ok-target.target c.in_err-source.field-0.0 first
    (ap (side_of c.args.spec.now.relations c.args.tree.now.source) (sym c.as_slice-2.ensures) ∙ is)))

pub returns-in_err-check_names-clause-due : goal.returns-in_err-check_names-clause-due
returns-in_err-check_names-clause-due c =
    let p = err_from_is_err_and c.from_residual-in_err-check_names.result c.from_residual-in_err-check_names.ensures.1 in
    let are : AreSides c.args.spec.now c.args.tree.now c.in_ok-target.target c.in_ok-source.source =
    are_sides c.args.spec.now c.args.tree.now c.as_slice.result.now c.as_slice-2.result.now c.in_ok-target.target
    c.in_ok-source.source
    c.as_slice.ensures c.as_slice-2.ensures c.in_ok-target.ensures c.in_ok-source.ensures in
    rw (p.1, p.2) (due_through (unless (names_refused c.copies.result.now c.args.tree.now) (Ok tt))
    (head_of c.args.spec.now c.args.tree.now)
    c.in_err-check_names.field-0.0 c.in_err-check_names.ensures
    (λ is. name_refused c.args.spec.now c.args.tree.now c.in_ok-target.target c.in_ok-source.source
    c.in_err-check_names.field-0.0 are
    (of_copies c.args.names.now c.args.spec.now c.copies.result.now c.args.tree.now
    (Some c.in_err-check_names.field-0.0) c.requires c.copies.ensures
    (is_refused (names_refused c.copies.result.now c.args.tree.now) c.in_err-check_names.field-0.0 is))))

pub returns-in_err-places-clause-due : goal.returns-in_err-places-clause-due
returns-in_err-places-clause-due c =
    let p = err_from_is_err_and c.from_residual-in_err-places.result c.from_residual-in_err-places.ensures.1 in
    let are : AreSides c.args.spec.now c.args.tree.now c.in_ok-target.target c.in_ok-source.source =
    are_sides c.args.spec.now c.args.tree.now c.as_slice.result.now c.as_slice-2.result.now c.in_ok-target.target
    c.in_ok-source.source
    c.as_slice.ensures c.as_slice-2.ensures c.in_ok-target.ensures c.in_ok-source.ensures in
    let free : names_refused (copies_of c.args.spec.now) c.args.tree.now ≡ None =
    of_copies c.args.names.now c.args.spec.now c.copies.result.now c.args.tree.now None c.requires c.copies.ensures
    (is_free (names_refused c.copies.result.now c.args.tree.now) c.in_ok-check_names.field-0 c.in_ok-check_names.ensures) in
    rw (p.1, p.2) (due_through (matched c.args.tree.now.name c.in_ok-target.target c.in_ok-source.source)
    (head_of c.args.spec.now c.args.tree.now)
    c.in_err-places.field-0.0 c.in_err-places.ensures
    (λ is. match_refused c.args.spec.now c.args.tree.now c.in_ok-target.target c.in_ok-source.source
    c.in_err-places.field-0.0 are free is))

pub returns-clause-due : goal.returns-clause-due
returns-clause-due c =
    let k = checked c in
    head_there c.args.spec.now c.args.tree.now c.in_ok-target.target c.in_ok-source.source c.in_ok-places.places
    k.sides k.free c.in_ok-places.ensures

pub returns-clause-among : goal.returns-clause-among
returns-clause-among c =
    head_among c.args.spec.now c.args.tree.now c.in_ok-target.target c.in_ok-source.source c.in_ok-places.places
    (checked c).sides c.in_ok-places.ensures

pub returns-clause-fresh : goal.returns-clause-fresh
returns-clause-fresh c = is_fresh c.args.spec.now c.args.tree.now (checked c).free

pub returns-in_err-target-clause-reads : goal.returns-in_err-target-clause-reads
returns-in_err-target-clause-reads c =
    due_reads (head_of c.args.spec.now c.args.tree.now) c.from_residual.result (head_reads c.args.spec.now c.args.tree.now)
    (returns-in_err-target-clause-due c)

pub returns-in_err-source-clause-reads : goal.returns-in_err-source-clause-reads
returns-in_err-source-clause-reads c =
    due_reads (head_of c.args.spec.now c.args.tree.now) c.from_residual-in_err-source.result
    (head_reads c.args.spec.now c.args.tree.now)
    (returns-in_err-source-clause-due c)

pub returns-in_err-check_names-clause-reads : goal.returns-in_err-check_names-clause-reads
returns-in_err-check_names-clause-reads c =
    due_reads (head_of c.args.spec.now c.args.tree.now) c.from_residual-in_err-check_names.result
    (head_reads c.args.spec.now c.args.tree.now)
    (returns-in_err-check_names-clause-due c)

pub returns-in_err-places-clause-reads : goal.returns-in_err-places-clause-reads
returns-in_err-places-clause-reads c =
    due_reads (head_of c.args.spec.now c.args.tree.now) c.from_residual-in_err-places.result
    (head_reads c.args.spec.now c.args.tree.now)
    (returns-in_err-places-clause-due c)
