use Rattle.std.proofs.Common.{◌≡◌, ◌+◌, ◌++◌, drop}
use Rattle.kept_items.specs.Steps.{given_count, marked_relations}
use Rattle.kept_items.proofs.copying.put_relations.Given as goal

abbrev pub invariant-loop-relation : goal.invariant-loop-relation
invariant-loop-relation l = record {
  next : l.at + given_count (drop l.relation-index l.whole.relations) ≡ l.initial.at + given_count l.whole.relations;
  kept : l.part.relations ++ marked_relations l.marks l.at (drop l.relation-index l.whole.relations)
      ≡ marked_relations l.marks l.initial.at l.whole.relations;
  rules : l.part.rules ≡ l.initial.part.rules;
  copies : l.part.copies ≡ l.initial.part.copies;
}
