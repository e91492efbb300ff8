use Rattle.explain_command.proofs.Replies.{explanation_like}
use Rattle.explain_command.proofs.laws.one_explanation.Goals as goal

pub returns : goal.returns
returns c = explanation_like
