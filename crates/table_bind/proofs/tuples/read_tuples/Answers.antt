use Rattle.std.proofs.Common.{◌∙◌, ap, subst, Err, List, ℕ}
use Rattle.std.proofs.lemmas.Result.{err_from_is_err_and}
use Rattle.table_bind.specs.Steps.{ReadsTuples}
use Rattle.table_bind.proofs.Reading.{table_read, table_not_read, no_read_fault, no_table_fault}
use Rattle.table_bind.proofs.tuples.read_tuples.Goals as goal

pub returns-in_err-bytes-clause-tuples : goal.returns-in_err-bytes-clause-tuples
returns-in_err-bytes-clause-tuples g c =
    let p = err_from_is_err_and c.from_residual.result c.from_residual.ensures.1 in
    λ determined. table_not_read (g.S.Shelf.texts c.args.shelf.now) c.args.name.now c.args.columns.now
    c.in_err-bytes.field-0.0 c.from_residual.result
    c.in_err-bytes.ensures.reads (p.1 ∙ ap Err p.2) determined

pub returns-clause-tuples : goal.returns-clause-tuples
returns-clause-tuples g c =
    let tuples = subst (λ (bs : List ℕ). ReadsTuples c.args.name.now c.args.columns.now bs c.tuples_in.result)
    c.as_slice.ensures c.tuples_in.ensures.reads in
    λ determined. table_read (g.S.Shelf.texts c.args.shelf.now) c.args.name.now c.args.columns.now c.in_ok-bytes.bytes
    c.tuples_in.result
    c.in_ok-bytes.ensures.reads tuples determined

pub returns-clause-read_fault : goal.returns-clause-read_fault
returns-clause-read_fault g c = λ fault. absurd (no_read_fault c.args.name.now c.args.columns.now
    c.as_slice.result.now c.tuples_in.result c.tuples_in.ensures.reads fault)

pub returns-clause-names_it : goal.returns-clause-names_it
returns-clause-names_it g c = λ table fault. absurd (no_table_fault c.args.name.now c.args.columns.now
    c.as_slice.result.now c.tuples_in.result c.tuples_in.ensures.reads table fault)
