use Rattle.std.proofs.Common.{◌≡◌}
use Rattle.spec_parts.specs.Steps.{AreCopiesSoFar}
use Rattle.spec_parts.proofs.parts.put_copies.Given as goal

abbrev pub invariant-loop-at : goal.invariant-loop-at
invariant-loop-at l = record {
  so_far : AreCopiesSoFar l.places l.whole.copies l.at l.part.copies;
  relations : l.part.relations ≡ l.initial.part.relations;
  rules : l.part.rules ≡ l.initial.part.rules;
}
