use Rattle.answer_tables.specs.Asked.{table_said}
use Rattle.certain_table.proofs.Tellings.{refused_due, table_due, table_printed}
use Rattle.certain_table.proofs.finding.certain_documents.Goals as goal

pub returns-in-Ok-clause-due : goal.returns-in-Ok-clause-due
returns-in-Ok-clause-due g c =
    table_due (g.S.Shelf.texts c.args.shelf.now) (table_said c.args.asked) c.in-Ok.read.spec c.in-Ok.read.question
    c.in-Ok.read.query c.reply.result c.in-Ok.ensures.read c.reply.ensures.job

pub returns-in-Err-clause-due : goal.returns-in-Err-clause-due
returns-in-Err-clause-due g c =
    refused_due (g.S.Shelf.texts c.args.shelf.now) (table_said c.args.asked) c.in-Err.trouble c.in-Err.ensures.refused

pub returns-in-Ok-clause-printed : goal.returns-in-Ok-clause-printed
returns-in-Ok-clause-printed g c =
    table_printed (g.S.Shelf.texts c.args.shelf.now) (table_said c.args.asked) c.in-Ok.read.spec c.in-Ok.read.question
    c.in-Ok.read.query c.reply.result c.in-Ok.ensures.read c.reply.ensures.job
