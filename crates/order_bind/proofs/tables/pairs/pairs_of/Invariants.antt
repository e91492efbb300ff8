-- The pairs so far, in front of those that are left, are the whole.
use Rattle.order_bind.specs.TableOrders.{pair_in}
use Rattle.order_bind.proofs.OrderLemmas.{Resolves}
use Rattle.order_bind.proofs.tables.pairs.pairs_of.Given as goal

abbrev pub invariant-loop-entry : goal.invariant-loop-entry
invariant-loop-entry l = Resolves (pair_in l.table l.rows) l.records l.entry-index l.pairs
