use Rattle.order_clauses.specs.Added.{Adds, below}
use Rattle.order_clauses.specs.Listing.{second_labels}
use Rattle.order_clauses.proofs.three_rows.with_third.Given as goal

abbrev pub invariant-loop-second : goal.invariant-loop-second
invariant-loop-second l = Adds l.column.subject (below (second_labels l.column l.members l.third) l.second)
    l.initial.steps l.steps
