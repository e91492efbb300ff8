use Rattle.known_models.proofs.Meeting.{values_are_models}
use Rattle.known_models.proofs.laws.values_are_models.Goals as goal

pub returns : goal.returns
returns c = values_are_models c.one_literal.ensures.one
