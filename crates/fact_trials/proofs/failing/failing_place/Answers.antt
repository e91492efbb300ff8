use Rattle.fact_trials.proofs.Tellings.{not_certain_fails}
use Rattle.fact_trials.proofs.failing.failing_place.Goals as goal

pub returns-in-NotCertain : goal.returns-in-NotCertain
returns-in-NotCertain c =
    not_certain_fails c.args.spec.now c.args.question.now c.args.report.now c.requires.telling c.in-NotCertain.field-0
    c.in-NotCertain.is
