use Rattle.std.proofs.Common.{◌<◌, ℕ}
use Rattle.currency_base.specs.declared.pair.Pair.{Pair}
use Rattle.forced_closure.specs.Forced.{IsGiven}
use Rattle.forced_closure.specs.Clauses.{AreOfGiven, HasFact}
use Rattle.forced_closure.proofs.given.facts_of.Given as goal

abbrev pub invariant-loop-rel : goal.invariant-loop-rel
invariant-loop-rel l = record {
  each : AreOfGiven l.subject l.facts.items;
  all : (k : ℕ) (p : Pair) → k < l.rel → IsGiven l.subject.spec k p → HasFact l.subject l.facts.items k p;
}
