use Rattle.explain_command.specs.Explained.{explain_said}
use Rattle.explain_command.proofs.ExplainStages.{explain_due, explain_printed}
use Rattle.explain_command.proofs.explaining.explain_documents.Goals as goal

pub returns-clause-due : goal.returns-clause-due
returns-clause-due g c =
    explain_due (g.S.Shelf.texts c.args.shelf.now) (explain_said c.args.asked) c.in-Ok.spec
    c.in-Ok-read_the_question.question c.reply.result
    (c.in-Ok.ensures.stage tt) (rw c.in-Ok.ensures.kept at (c.in-Ok-read_the_question.ensures.stage tt)) c.reply.ensures.job

pub returns-clause-printed : goal.returns-clause-printed
returns-clause-printed g c =
    explain_printed (g.S.Shelf.texts c.args.shelf.now) (explain_said c.args.asked) c.in-Ok.spec
    c.in-Ok-read_the_question.question c.reply.result
    (c.in-Ok.ensures.stage tt) (rw c.in-Ok.ensures.kept at (c.in-Ok-read_the_question.ensures.stage tt)) c.reply.ensures.job
