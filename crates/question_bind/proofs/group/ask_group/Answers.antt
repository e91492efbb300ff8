-- Its heads are refused, or a table of its is, or what is asked about is what is due.
use Rattle.std.proofs.Common.{◌∙◌, ap, sym, Ok, Err, List}
use Rattle.std.proofs.lemmas.Result.{err_from_is_err_and}
use Rattle.bind_faults.proofs.Outcomes.{read_fault_of}
use Rattle.spec_model.specs.declared.question.Asked.{Asked}
use Rattle.question_bind.proofs.GroupSteps.{heads_no_read, heads_refused, read_fits, read_step, table_due, tables_step}
use Rattle.question_bind.proofs.Unread.{group_no_read}
use Rattle.question_bind.proofs.group.ask_group.Goals as goal

pub returns-in_err-heads-clause-asked : goal.returns-in_err-heads-clause-asked
returns-in_err-heads-clause-asked g c =
    let p = err_from_is_err_and c.from_residual.result c.from_residual.ensures.1 in
    rw (p.1, p.2) (heads_refused (g.S.Shelf.texts c.args.shelf.now) c.args.names.now c.args.spec.now c.args.so_far
    c.args.group.now c.in_err-heads.field-0.0 c.requires.names c.in_err-heads.ensures)

pub returns-in_err-heads-clause-read_fault : goal.returns-in_err-heads-clause-read_fault
returns-in_err-heads-clause-read_fault g c =
    let p = err_from_is_err_and c.from_residual.result c.from_residual.ensures.1 in
    rw (p.1, p.2) (λ reads. absurd (heads_no_read (List Asked) c.args.names.now c.args.spec.now c.args.group.now
    c.in_err-heads.field-0.0 c.requires.names c.in_err-heads.ensures reads))

pub returns-in_err-heads-clause-table : goal.returns-in_err-heads-clause-table
returns-in_err-heads-clause-table g c =
    let p = err_from_is_err_and c.from_residual.result c.from_residual.ensures.1 in
    rw (p.1, p.2) (λ name reads. absurd (heads_no_read (List Asked) c.args.names.now c.args.spec.now c.args.group.now
    c.in_err-heads.field-0.0 c.requires.names c.in_err-heads.ensures
    (read_fault_of {A = List Asked} (Err c.in_err-heads.field-0.0) name reads)))

pub returns-in_err-tables-clause-asked : goal.returns-in_err-tables-clause-asked
returns-in_err-tables-clause-asked g c =
    let p = err_from_is_err_and c.from_residual-in_err-tables.result c.from_residual-in_err-tables.ensures.1 in
    rw (p.1, p.2) (tables_step (g.S.Shelf.texts c.args.shelf.now) c.args.names.now c.args.spec.now c.args.so_far
    c.args.group.now c.in_ok-heads.heads c.in_err-tables.field-0.0
    c.requires.names c.in_ok-heads.ensures c.in_err-tables.ensures.read)

pub returns-in_err-tables-clause-table : goal.returns-in_err-tables-clause-table
returns-in_err-tables-clause-table g c =
    let p = err_from_is_err_and c.from_residual-in_err-tables.result c.from_residual-in_err-tables.ensures.1 in
    rw (p.1, p.2) (table_due c.args.names.now c.args.spec.now c.args.group.now c.in_ok-heads.heads
    c.in_err-tables.field-0.0 c.requires.names c.in_ok-heads.ensures c.in_err-tables.ensures.table)

pub returns-clause-asked : goal.returns-clause-asked
returns-clause-asked g c =
    read_step (g.S.Shelf.texts c.args.shelf.now) c.args.names.now c.args.spec.now c.args.so_far c.args.group.now
    c.as_slice.result.now c.in_ok-tables.tables c.ask_read.result
    c.requires.names (c.in_ok-heads.ensures ∙ ap Ok (sym c.as_slice.ensures)) (c.in_ok-tables.ensures.read tt) c.ask_read.ensures

pub returns-clause-fits : goal.returns-clause-fits
returns-clause-fits g c =
    read_fits c.args.names.now c.args.spec.now c.args.so_far c.args.group.now c.as_slice.result.now
    c.in_ok-tables.tables c.ask_read.result
    c.requires.names (c.in_ok-heads.ensures ∙ ap Ok (sym c.as_slice.ensures)) c.in_ok-tables.ensures.count
    c.requires.so_far c.ask_read.ensures

pub returns-clause-read_fault : goal.returns-clause-read_fault
returns-clause-read_fault g c = λ reads.
    absurd (group_no_read c.args.spec.now.relations c.as_slice.result.now c.args.group.now c.in_ok-tables.tables
    c.args.so_far c.ask_read.result c.ask_read.ensures reads)

pub returns-clause-table : goal.returns-clause-table
returns-clause-table g c = λ name reads.
    absurd (group_no_read c.args.spec.now.relations c.as_slice.result.now c.args.group.now c.in_ok-tables.tables
    c.args.so_far c.ask_read.result c.ask_read.ensures
    (read_fault_of c.ask_read.result name reads))
