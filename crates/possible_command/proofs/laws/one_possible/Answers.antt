use Rattle.possible_command.proofs.Replies.{outcomes_like}
use Rattle.possible_command.proofs.laws.one_possible.Goals as goal

pub returns : goal.returns
returns c = outcomes_like
