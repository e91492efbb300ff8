use Rattle.currency_base.specs.Lists.{OnlyOnce}
use Rattle.order_clauses.specs.Added.{Adds, below}
use Rattle.order_clauses.specs.Listing.{given_at}
use Rattle.order_clauses.proofs.given.given.Given as goal

abbrev pub invariant-loop-rel : goal.invariant-loop-rel
invariant-loop-rel l = record {
  adds : Adds l.sayings (below (given_at l.sayings.spec) l.rel) l.initial.steps l.steps;
  once : OnlyOnce (below (given_at l.sayings.spec) l.rel);
}
