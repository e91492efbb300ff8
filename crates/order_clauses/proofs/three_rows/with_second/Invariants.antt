use Rattle.order_clauses.specs.Added.{Adds, below}
use Rattle.order_clauses.specs.Listing.{first_labels}
use Rattle.order_clauses.proofs.three_rows.with_second.Given as goal

abbrev pub invariant-loop-first : goal.invariant-loop-first
invariant-loop-first l = Adds l.column.subject (below (first_labels l.column l.members l.third l.second) l.first)
    l.initial.steps l.steps
