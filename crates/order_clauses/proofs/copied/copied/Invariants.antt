use Rattle.order_clauses.specs.Added.{Adds, below}
use Rattle.order_clauses.specs.Listing.{copy_at}
use Rattle.order_clauses.proofs.copied.copied.Given as goal

abbrev pub invariant-loop-k : goal.invariant-loop-k
invariant-loop-k l = Adds l.sayings (below (copy_at l.sayings.spec l.grounds) l.k) l.initial.steps l.steps
