use Rattle.std.proofs.Common.{◌<◌, length}
use Rattle.std.specs.Option.{IfSome}
use Rattle.order_start.specs.Lists.{AreOf}
use Rattle.order_start.proofs.order.Order.rank.Given as goal

abbrev pub invariant-loop-rank : goal.invariant-loop-rank
invariant-loop-rank l = AreOf (length l.list.rows) l.self.ranks.items l.self.holders.items × IfSome l.last
    (λ place. place < length l.list.rows)
