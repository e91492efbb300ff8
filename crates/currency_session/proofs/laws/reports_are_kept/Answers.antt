use Rattle.currency_session.proofs.Forms.{faults_same}
use Rattle.currency_session.proofs.Written.{completion_kept, report_kept, verdict_kept}
use Rattle.currency_session.proofs.laws.reports_are_kept.Goals as goal

pub returns-clause-verdicts : goal.returns-clause-verdicts
returns-clause-verdicts c = verdict_kept

pub returns-clause-completions : goal.returns-clause-completions
returns-clause-completions c = completion_kept

pub returns-clause-faults : goal.returns-clause-faults
returns-clause-faults c = faults_same

pub returns-clause-reports : goal.returns-clause-reports
returns-clause-reports c = report_kept
