use Rattle.ask_command.specs.Asked.{ask_said}
use Rattle.ask_command.proofs.AskStages.{answered, not_answered}
use Rattle.ask_command.proofs.asking.reply.Goals as goal

pub returns-in-Ok-clause-job : goal.returns-in-Ok-clause-job
returns-in-Ok-clause-job g c =
    answered c.args.spec.now (ask_said c.args.asked) c.args.question.now c.in-Ok.report c.printed_as_asked.result
    c.in-Ok.ensures.answer
    c.printed_as_asked.ensures.printed c.printed_as_asked.ensures.memory

pub returns-in-Err-clause-job : goal.returns-in-Err-clause-job
returns-in-Err-clause-job g c =
    not_answered c.args.spec.now (ask_said c.args.asked) c.args.question.now c.in-Err.trouble c.in-Err.ensures.too_many
