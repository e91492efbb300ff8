use Rattle.certain_table.proofs.Tellings.{answered, not_answered}
use Rattle.certain_table.proofs.finding.reply.Goals as goal

pub returns-in-Ok-clause-job : goal.returns-in-Ok-clause-job
returns-in-Ok-clause-job g c =
    answered c.args.read.now.spec c.args.budget c.args.read.now.question c.args.read.now.query c.in-Ok.report c.printed_table.result
    c.in-Ok.ensures.answer c.printed_table.ensures.printed c.printed_table.ensures.memory

pub returns-in-Err-clause-job : goal.returns-in-Err-clause-job
returns-in-Err-clause-job g c =
    not_answered c.args.read.now.spec c.args.budget c.args.read.now.question c.args.read.now.query c.in-Err.trouble
    c.in-Err.ensures.too_many
