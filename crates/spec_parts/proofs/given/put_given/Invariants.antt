use Rattle.std.proofs.Common.{◌<◌, ℕ}
use Rattle.spec_parts.specs.Steps.{Grows, HasGiven}
use Rattle.spec_parts.proofs.given.put_given.Given as goal

abbrev pub invariant-loop-rel : goal.invariant-loop-rel
invariant-loop-rel l = record {
  grows : Grows l.whole l.places l.initial.part l.part;
  added : (k : ℕ) → k < l.rel → HasGiven l.whole l.places l.part.relations k;
}
