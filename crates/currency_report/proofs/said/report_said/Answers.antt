use Rattle.currency_report.proofs.Joining.{refuses, says}
use Rattle.currency_report.proofs.said.report_said.Goals as goal

pub returns-in-Ok-clause-due : goal.returns-in-Ok-clause-due
returns-in-Ok-clause-due c = rw c.report_with.ensures (says c.args.spec.now.relations c.args.tree c.in-Ok.parts
    c.in-Ok.ensures.due)

pub returns-in-Err-clause-due : goal.returns-in-Err-clause-due
returns-in-Err-clause-due c = refuses c.args.spec.now.relations c.args.tree c.in-Err.fault c.in-Err.ensures.due
