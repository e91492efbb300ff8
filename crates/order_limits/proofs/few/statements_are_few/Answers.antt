use Rattle.order_limits.proofs.Bounded.{statements_few}
use Rattle.order_limits.proofs.few.statements_are_few.Goals as goal

pub returns : goal.returns
returns c = statements_few
