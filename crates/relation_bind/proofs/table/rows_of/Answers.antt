use Rattle.std.proofs.Common.{◌≡◌, ◌∙◌, ◌⊎◌, ap, subst, inr, Ok, Err, Result, is_some, Bool}
use Rattle.table_rows.specs.Rows.{rows_from}
use Rattle.table_rows.specs.declared.rows.TableRows.{TableRows}
use Rattle.table_rows.specs.declared.rows.RowFault.{RowFault}
use Rattle.table_rows.specs.declared.rows.RowFault.TheVariants.{NoMemory, Repeated}
use Rattle.relation_bind.proofs.Tables.{due_rows, due_refusal, due_values}
use Rattle.relation_bind.proofs.table.rows_of.Goals as goal

pub returns-in-Ok-clause-exact : goal.returns-in-Ok-clause-exact
returns-in-Ok-clause-exact c =
    let d = c.args.declaration.now in
    let named : c.is_some.result ≡ is_some d.row = c.is_some.ensures ∙ ap (λ x. is_some x.row) c.declaration.view_is in
    let exact = subst (λ (b : Bool). (◌≡◌ {A = Result TableRows RowFault} (Ok c.in-Ok.rows) (Err NoMemory))
    ⊎ (◌≡◌ {A = Result TableRows RowFault} (Ok c.in-Ok.rows) (rows_from b c.args.tuples))) named c.in-Ok.ensures.exact in
    inr (due_rows d (rows_from (is_some d.row) c.args.tuples) c.in-Ok.rows exact)

pub returns-in-Err-Repeated-clause-exact : goal.returns-in-Err-Repeated-clause-exact
returns-in-Err-Repeated-clause-exact c =
    let d = c.args.declaration.now in
    let number = c.in-Err-Repeated.number in
    let named : c.is_some.result ≡ is_some d.row = c.is_some.ensures ∙ ap (λ x. is_some x.row) c.declaration.view_is in
    let at_fault = subst (λ (f : RowFault). (◌≡◌ {A = Result TableRows RowFault} (Err f) (Err NoMemory))
    ⊎ (◌≡◌ {A = Result TableRows RowFault} (Err f) (rows_from c.is_some.result c.args.tuples)))
    c.in-Err-Repeated.field-0-is c.in-Err-Repeated.ensures.exact in
    let exact = subst (λ (b : Bool). (◌≡◌ {A = Result TableRows RowFault} (Err (Repeated number)) (Err NoMemory))
    ⊎ (◌≡◌ {A = Result TableRows RowFault} (Err (Repeated number)) (rows_from b c.args.tuples))) named at_fault in
    due_refusal d (rows_from (is_some d.row) c.args.tuples) number c.refused_in.result exact
    (rw (ap (λ x. x.document.name) c.declaration.view_is) at c.refused_in.ensures)

pub returns-in-Ok-clause-values : goal.returns-in-Ok-clause-values
returns-in-Ok-clause-values c =
    let d = c.args.declaration.now in
    let named : c.is_some.result ≡ is_some d.row = c.is_some.ensures ∙ ap (λ x. is_some x.row) c.declaration.view_is in
    let exact = subst (λ (b : Bool). (◌≡◌ {A = Result TableRows RowFault} (Ok c.in-Ok.rows) (Err NoMemory))
    ⊎ (◌≡◌ {A = Result TableRows RowFault} (Ok c.in-Ok.rows) (rows_from b c.args.tuples))) named c.in-Ok.ensures.exact in
    due_values d c.args.tuples c.in-Ok.rows c.requires exact
