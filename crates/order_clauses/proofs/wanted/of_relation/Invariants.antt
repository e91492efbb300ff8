use Rattle.order_clauses.specs.Added.{Adds, below}
use Rattle.order_clauses.specs.Listing.{attr_labels}
use Rattle.order_clauses.proofs.wanted.of_relation.Given as goal

abbrev pub invariant-loop-attr : goal.invariant-loop-attr
invariant-loop-attr l = Adds l.sayings (below (attr_labels l.sayings l.relation l.rel) l.attr) l.initial.steps l.steps
