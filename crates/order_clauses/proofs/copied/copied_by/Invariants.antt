use Rattle.order_clauses.specs.Added.{Adds, below}
use Rattle.order_clauses.specs.Listing.{copy_place}
use Rattle.order_clauses.proofs.copied.copied_by.Given as goal

abbrev pub invariant-loop-place : goal.invariant-loop-place
invariant-loop-place l = Adds l.sayings (below (copy_place l.copy l.pairs) l.place) l.initial.steps l.steps
