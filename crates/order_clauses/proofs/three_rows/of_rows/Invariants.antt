use Rattle.order_clauses.specs.Added.{Adds, below}
use Rattle.order_clauses.specs.Listing.{third_labels}
use Rattle.order_clauses.proofs.three_rows.of_rows.Given as goal

abbrev pub invariant-loop-third : goal.invariant-loop-third
invariant-loop-third l = Adds l.column.subject (below (third_labels l.column l.members) l.third) l.initial.steps l.steps
