use Rattle.std.proofs.Common.{◌∙◌, Ok, Err, codes}
use Rattle.command_stages.specs.Stages.{IsQuestionRead}
use Rattle.trial_command.proofs.Trials.{all_read, fourth_refused, moved, second_refused, third_refused}
use Rattle.trial_command.proofs.trial.read_questions.Goals as goal

pub returns-in-Err-read_the_question-clause-read : goal.returns-in-Err-read_the_question-clause-read
returns-in-Err-read_the_question-clause-read c determined =
    second_refused c.args.shelf.now c.args.spec.now.relations c.in-Ok.question c.in-Err-read_the_question.trouble
    (c.in-Ok.ensures.stage tt)
    (moved _ c.args.shelf.now (λ told. IsQuestionRead told c.args.spec.now.relations (codes "q2")
    (Err c.in-Err-read_the_question.trouble)) c.in-Ok.ensures.kept (c.in-Err-read_the_question.ensures.stage determined))

pub returns-in-Err-read_the_question-2-clause-read : goal.returns-in-Err-read_the_question-2-clause-read
returns-in-Err-read_the_question-2-clause-read c determined =
    third_refused c.args.shelf.now c.args.spec.now.relations c.in-Ok.question c.in-Ok-read_the_question.question
    c.in-Err-read_the_question-2.trouble
    (c.in-Ok.ensures.stage tt)
    (moved _ c.args.shelf.now (λ told. IsQuestionRead told c.args.spec.now.relations (codes "q2")
    (Ok c.in-Ok-read_the_question.question)) c.in-Ok.ensures.kept (c.in-Ok-read_the_question.ensures.stage tt))
    (moved _ c.args.shelf.now (λ told. IsQuestionRead told c.args.spec.now.relations (codes "q3")
    (Err c.in-Err-read_the_question-2.trouble)) (c.in-Ok-read_the_question.ensures.kept ∙ c.in-Ok.ensures.kept)
    (c.in-Err-read_the_question-2.ensures.stage determined))

pub returns-in-Err-read_the_question-3-clause-read : goal.returns-in-Err-read_the_question-3-clause-read
returns-in-Err-read_the_question-3-clause-read c determined =
    fourth_refused c.args.shelf.now c.args.spec.now.relations c.in-Ok.question c.in-Ok-read_the_question.question
    c.in-Ok-read_the_question-2.question c.in-Err-read_the_question-3.trouble
    (c.in-Ok.ensures.stage tt)
    (moved _ c.args.shelf.now (λ told. IsQuestionRead told c.args.spec.now.relations (codes "q2")
    (Ok c.in-Ok-read_the_question.question)) c.in-Ok.ensures.kept (c.in-Ok-read_the_question.ensures.stage tt))
    (moved _ c.args.shelf.now (λ told. IsQuestionRead told c.args.spec.now.relations (codes "q3")
    (Ok c.in-Ok-read_the_question-2.question)) (c.in-Ok-read_the_question.ensures.kept ∙ c.in-Ok.ensures.kept)
    (c.in-Ok-read_the_question-2.ensures.stage tt))
    (moved _ c.args.shelf.now (λ told. IsQuestionRead told c.args.spec.now.relations (codes "q4")
    (Err c.in-Err-read_the_question-3.trouble)) (c.in-Ok-read_the_question-2.ensures.kept
    ∙ c.in-Ok-read_the_question.ensures.kept ∙ c.in-Ok.ensures.kept) (c.in-Err-read_the_question-3.ensures.stage determined))

pub returns-in-Ok-four-clause-read : goal.returns-in-Ok-four-clause-read
returns-in-Ok-four-clause-read c determined =
    all_read c.args.shelf.now c.args.spec.now.relations c.in-Ok.question c.in-Ok-read_the_question.question
    c.in-Ok-read_the_question-2.question c.in-Ok-read_the_question-3.question c.in-Ok-four.questions
    (c.in-Ok.ensures.stage tt)
    (moved _ c.args.shelf.now (λ told. IsQuestionRead told c.args.spec.now.relations (codes "q2")
    (Ok c.in-Ok-read_the_question.question)) c.in-Ok.ensures.kept (c.in-Ok-read_the_question.ensures.stage tt))
    (moved _ c.args.shelf.now (λ told. IsQuestionRead told c.args.spec.now.relations (codes "q3")
    (Ok c.in-Ok-read_the_question-2.question)) (c.in-Ok-read_the_question.ensures.kept ∙ c.in-Ok.ensures.kept)
    (c.in-Ok-read_the_question-2.ensures.stage tt))
    (moved _ c.args.shelf.now (λ told. IsQuestionRead told c.args.spec.now.relations (codes "q4")
    (Ok c.in-Ok-read_the_question-3.question)) (c.in-Ok-read_the_question-2.ensures.kept
    ∙ c.in-Ok-read_the_question.ensures.kept ∙ c.in-Ok.ensures.kept) (c.in-Ok-read_the_question-3.ensures.stage tt))
    c.in-Ok-four.ensures
