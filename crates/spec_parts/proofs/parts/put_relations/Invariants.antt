use Rattle.std.proofs.Common.{◌≡◌}
use Rattle.spec_parts.specs.Steps.{ArePartsSoFar}
use Rattle.spec_parts.proofs.parts.put_relations.Given as goal

abbrev pub invariant-loop-rel : goal.invariant-loop-rel
invariant-loop-rel l = record {
  so_far : ArePartsSoFar l.whole.relations l.places l.rel l.part.relations;
  rules : l.part.rules ≡ l.initial.part.rules;
  copies : l.part.copies ≡ l.initial.part.copies;
}
