use Rattle.order_literals.proofs.Order.{statements_sorted}
use Rattle.order_literals.proofs.laws.statements_ascend.Goals as goal

pub returns : goal.returns
returns c = statements_sorted
