use Rattle.order_clauses.specs.Added.{Adds, below}
use Rattle.order_clauses.specs.Listing.{entity_labels}
use Rattle.order_clauses.proofs.wanted.of_attribute.Given as goal

abbrev pub invariant-loop-ent : goal.invariant-loop-ent
invariant-loop-ent l = Adds l.column.subject (below (entity_labels l.column) l.ent) l.initial.steps l.steps
