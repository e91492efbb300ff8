use Rattle.std.proofs.Common.{Contains, map}
use Rattle.std.specs.Map.Iter.{deref}
use Rattle.currency_base.specs.declared.pair.Pair.{Pair}
use Rattle.forced_closure.specs.Clauses.{AreOfGiven, Grows, HasFact}
use Rattle.forced_closure.proofs.given.add_given.Given as goal

abbrev pub invariant-loop-pair : goal.invariant-loop-pair
invariant-loop-pair l = record {
  each : AreOfGiven l.subject l.facts.items;
  grows : Grows l.initial.facts.items l.facts.items;
  all : (p : Pair) → Contains (map deref l.yielded) p → HasFact l.subject l.facts.items l.rel.0 p;
}
