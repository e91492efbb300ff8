use Rattle.search_logs.proofs.Whole.{search_logs_writable}
use Rattle.search_logs.proofs.laws.search_logs_are_writable.Goals as goal

pub returns : goal.returns
returns c = search_logs_writable c.statements_are_few.ensures
