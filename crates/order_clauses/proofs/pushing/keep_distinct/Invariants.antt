use Rattle.std.proofs.Common.{take}
use Rattle.order_clauses.specs.Added.{AreDistinctOf}
use Rattle.order_clauses.proofs.pushing.keep_distinct.Given as goal

abbrev pub invariant-loop-lit : goal.invariant-loop-lit
invariant-loop-lit l = AreDistinctOf (take l.lit-index l.lits) l.distinct.items
