use Rattle.possible_command.specs.Possible.{possible_said}
use Rattle.possible_command.proofs.Tellings.{stages_due, stages_printed}
use Rattle.possible_command.proofs.finding.possible_documents.Goals as goal

pub returns-clause-due : goal.returns-clause-due
returns-clause-due g c =
    stages_due (g.S.Shelf.texts c.args.shelf.now) (possible_said c.args.asked) c.in-Ok.spec
    c.in-Ok-read_the_question.question c.reply.result
    (c.in-Ok.ensures.stage tt) (rw c.in-Ok.ensures.kept at (c.in-Ok-read_the_question.ensures.stage tt)) c.reply.ensures.job

pub returns-clause-printed : goal.returns-clause-printed
returns-clause-printed g c =
    stages_printed (g.S.Shelf.texts c.args.shelf.now) (possible_said c.args.asked) c.in-Ok.spec
    c.in-Ok-read_the_question.question c.reply.result
    (c.in-Ok.ensures.stage tt) (rw c.in-Ok.ensures.kept at (c.in-Ok-read_the_question.ensures.stage tt)) c.reply.ensures.job
