use Rattle.golden_command.proofs.Replies.{found_like, golden_like}
use Rattle.golden_command.proofs.laws.one_golden.Goals as goal

pub returns-clause-found : goal.returns-clause-found
returns-clause-found c = λ told s g. found_like told s g

pub returns-clause-due : goal.returns-clause-due
returns-clause-due c = golden_like c.one_read.ensures.specs
