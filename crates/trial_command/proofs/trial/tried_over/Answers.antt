use Rattle.std.proofs.Common.{Ok, Err}
use Rattle.trial_command.specs.Trial.{AreQuestionsRead}
use Rattle.trial_command.proofs.Trials.{moved, questions_refused, trial_due}
use Rattle.trial_command.proofs.trial.tried_over.Goals as goal

pub returns-in-Err-read_questions-clause-due : goal.returns-in-Err-read_questions-clause-due
returns-in-Err-read_questions-clause-due g c determined =
    questions_refused c.args.shelf.now c.args.size c.in-Ok.spec c.in-Err-read_questions.trouble (c.in-Ok.ensures.stage tt)
    (moved _ c.args.shelf.now (λ told. AreQuestionsRead told c.in-Ok.spec.relations
    (Err c.in-Err-read_questions.trouble)) c.in-Ok.ensures.kept
    (c.in-Err-read_questions.ensures.read determined))

pub returns-clause-due : goal.returns-clause-due
returns-clause-due g c determined =
    trial_due c.args.shelf.now c.args.size c.in-Ok.spec c.in-Ok-read_questions.questions c.tried.result (c.in-Ok.ensures.stage tt)
    (moved _ c.args.shelf.now (λ told. AreQuestionsRead told c.in-Ok.spec.relations
    (Ok c.in-Ok-read_questions.questions)) c.in-Ok.ensures.kept
    (c.in-Ok-read_questions.ensures.read tt))
    (rw c.as_slice.ensures at (c.tried.ensures.job determined))
