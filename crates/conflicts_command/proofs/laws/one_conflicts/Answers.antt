use Rattle.conflicts_command.proofs.Replies.{conflicts_like, found_like}
use Rattle.conflicts_command.proofs.laws.one_conflicts.Goals as goal

pub returns-clause-found : goal.returns-clause-found
returns-clause-found c = found_like

pub returns-clause-due : goal.returns-clause-due
returns-clause-due c = conflicts_like c.one_read.ensures.specs
