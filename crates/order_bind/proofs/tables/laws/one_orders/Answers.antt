use Rattle.order_bind.proofs.Made.{one_outcome}
use Rattle.order_bind.proofs.tables.laws.one_orders.Goals as goal

pub returns : goal.returns
returns c = one_outcome c.one_table.ensures
