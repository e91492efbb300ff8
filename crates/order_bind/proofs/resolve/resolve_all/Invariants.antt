-- What is resolved so far, in front of what is left, is the whole.
use Rattle.order_bind.specs.Orders.{pair_named}
use Rattle.order_bind.proofs.OrderLemmas.{Resolves}
use Rattle.order_bind.proofs.resolve.resolve_all.Given as goal

abbrev pub invariant-loop-pair : goal.invariant-loop-pair
invariant-loop-pair l = Resolves (pair_named l.rows l.attr.0) l.pairs l.pair-index l.list
