use Rattle.command_stages.proofs.StageLemmas.{question_refused, question_table_unread}
use Rattle.command_stages.proofs.stages.question_said.Goals as goal

pub returns-in-Err-clause-said : goal.returns-in-Err-clause-said
returns-in-Err-clause-said g c determined =
    question_refused (g.S.Shelf.texts c.args.shelf.now) c.args.spec.now.relations c.args.name.now c.args.bytes.now
    c.in-Err.trouble
    (c.in-Err.ensures.tree determined)

pub returns-in-Err-bind_question-clause-unread : goal.returns-in-Err-bind_question-clause-unread
returns-in-Err-bind_question-clause-unread g c =
    question_table_unread (g.S.Shelf.texts c.args.shelf.now) c.args.spec.now.relations c.args.name.now
    c.args.bytes.now c.in-Ok.tree
    c.in-Err-bind_question.fault c.of_binding.result (c.in-Ok.ensures.tree tt) c.of_binding.ensures.due
    c.in-Err-bind_question.ensures.table_due
