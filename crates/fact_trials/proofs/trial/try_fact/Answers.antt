use Rattle.std.proofs.Common.{Err, ap}
use Rattle.fact_trials.proofs.Headless.{not_too_many}
use Rattle.fact_trials.proofs.Spending.{is_spent}
use Rattle.fact_trials.proofs.trial.try_fact.Goals as goal

pub wanting-requires : goal.wanting-requires
wanting-requires g c = λ found is.
    not_too_many c.args.spec.now c.args.question.now c.requires.question found (c.in-Err.ensures.too_many found (ap Err is))

pub returns-in-Ok : goal.returns-in-Ok
returns-in-Ok g c =
    c.tried.ensures c.args.budget
    (is_spent c.args.spec.now c.args.question.now c.args.budget c.in-Ok.report c.in-Ok.ensures.shown c.in-Ok.ensures.writable
    c.in-Ok.ensures.lists)
