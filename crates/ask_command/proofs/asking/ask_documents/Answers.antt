use Rattle.ask_command.specs.Asked.{ask_said}
use Rattle.ask_command.proofs.AskStages.{ask_due, ask_printed}
use Rattle.ask_command.proofs.asking.ask_documents.Goals as goal

pub returns-clause-due : goal.returns-clause-due
returns-clause-due g c =
    ask_due (g.S.Shelf.texts c.args.shelf.now) (ask_said c.args.asked) c.in-Ok.spec
    c.in-Ok-read_the_question.question c.reply.result
    (c.in-Ok.ensures.stage tt) (rw c.in-Ok.ensures.kept at (c.in-Ok-read_the_question.ensures.stage tt)) c.reply.ensures.job

pub returns-clause-printed : goal.returns-clause-printed
returns-clause-printed g c =
    ask_printed (g.S.Shelf.texts c.args.shelf.now) (ask_said c.args.asked) c.in-Ok.spec
    c.in-Ok-read_the_question.question c.reply.result
    (c.in-Ok.ensures.stage tt) (rw c.in-Ok.ensures.kept at (c.in-Ok-read_the_question.ensures.stage tt)) c.reply.ensures.job
