use Rattle.order_clauses.specs.Added.{Adds, below}
use Rattle.order_clauses.specs.Listing.{rule_at}
use Rattle.order_clauses.proofs.ruled.ruled.Given as goal

abbrev pub invariant-loop-k : goal.invariant-loop-k
invariant-loop-k l = Adds l.sayings (below (rule_at l.grounds) l.k) l.initial.steps l.steps
