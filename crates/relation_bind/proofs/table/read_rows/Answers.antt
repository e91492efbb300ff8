use Rattle.std.proofs.Common.{◌≡◌, ◌∙◌, ap, Err}
use Rattle.std.proofs.lemmas.Result.{err_from_is_err_and}
use Rattle.relation_bind.specs.Relations.{columns_of}
use Rattle.relation_bind.proofs.Tables.{table_read, table_not_read, no_read_fault, no_table_fault}
use Rattle.relation_bind.proofs.table.read_rows.Goals as goal

pub rows_of-requires : goal.rows_of-requires
rows_of-requires g c =
    let columns : c.as_slice.result.now ≡ columns_of c.args.declaration.now = c.as_slice.ensures ∙ c.in_ok-columns.ensures in
    rw columns at c.in_ok-tuples.ensures.kinds

pub returns-in_err-tuples-clause-table : goal.returns-in_err-tuples-clause-table
returns-in_err-tuples-clause-table g c =
    let d = c.args.declaration.now in
    let columns : c.as_slice.result.now ≡ columns_of d = c.as_slice.ensures ∙ c.in_ok-columns.ensures in
    let p = err_from_is_err_and c.from_residual-in_err-tuples.result c.from_residual-in_err-tuples.ensures.1 in
    λ determined. table_not_read (g.S.Shelf.texts c.args.shelf.now) d c.declaration.inside.document.now.name
    c.as_slice.result.now c.in_err-tuples.field-0.0 c.from_residual-in_err-tuples.result
    (ap (λ x. x.document.name) c.declaration.view_is) columns c.in_err-tuples.ensures.tuples (p.1 ∙ ap Err p.2) determined

pub returns-clause-table : goal.returns-clause-table
returns-clause-table g c =
    let d = c.args.declaration.now in
    let columns : c.as_slice.result.now ≡ columns_of d = c.as_slice.ensures ∙ c.in_ok-columns.ensures in
    λ determined. table_read (g.S.Shelf.texts c.args.shelf.now) d c.declaration.inside.document.now.name
    c.as_slice.result.now c.in_ok-tuples.tuples c.rows_of.result
    (ap (λ x. x.document.name) c.declaration.view_is) columns (c.in_ok-tuples.ensures.tuples tt) c.rows_of.ensures.exact determined

pub returns-clause-read_fault : goal.returns-clause-read_fault
returns-clause-read_fault g c = λ fault. absurd (no_read_fault c.args.declaration.now c.in_ok-tuples.tuples
    c.rows_of.result c.rows_of.ensures.exact fault)

pub returns-clause-names_it : goal.returns-clause-names_it
returns-clause-names_it g c = λ table fault. absurd (no_table_fault c.args.declaration.now c.in_ok-tuples.tuples
    c.rows_of.result c.rows_of.ensures.exact table fault)
