use Rattle.search_logs.proofs.Right.{search_logs_right, trimmed_right}
use Rattle.search_logs.proofs.laws.search_logs_are_right.Goals as goal

pub returns-clause-right : goal.returns-clause-right
returns-clause-right c = search_logs_right

pub returns-clause-trimmed : goal.returns-clause-trimmed
returns-clause-trimmed c = trimmed_right
