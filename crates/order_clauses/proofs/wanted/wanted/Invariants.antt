use Rattle.order_clauses.specs.Added.{Adds, below}
use Rattle.order_clauses.specs.Listing.{wanted_at}
use Rattle.order_clauses.proofs.wanted.wanted.Given as goal

abbrev pub invariant-loop-rel : goal.invariant-loop-rel
invariant-loop-rel l = Adds l.sayings (below (wanted_at l.sayings) l.rel) l.initial.steps l.steps
