use Rattle.std.proofs.Common.{length}
use Rattle.order_start.specs.Lists.{AreOf}
use Rattle.order_start.proofs.order.Order.next.Given as goal

abbrev pub invariant-loop-place : goal.invariant-loop-place
invariant-loop-place l = AreOf (length l.list.rows) l.self.ranks.items l.self.holders.items
