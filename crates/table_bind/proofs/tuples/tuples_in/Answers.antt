use Rattle.table_bind.proofs.Reading.{of_table, of_fault}
use Rattle.table_bind.proofs.tuples.tuples_in.Goals as goal

pub returns-in-Ok-clause-reads : goal.returns-in-Ok-clause-reads
returns-in-Ok-clause-reads c = of_table c.args.name.now c.args.columns.now c.args.bytes.now c.in-Ok.table c.in-Ok.ensures.exact

pub returns-in-Err-clause-reads : goal.returns-in-Err-clause-reads
returns-in-Err-clause-reads c =
    of_fault c.args.name.now c.args.columns.now c.args.bytes.now c.in-Err.fault c.table_refusal.result
    c.in-Err.ensures.exact c.table_refusal.ensures
