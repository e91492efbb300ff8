use Rattle.std.proofs.Common.{◌≡◌, ◌+◌, ◌++◌, drop}
use Rattle.kept_items.specs.Steps.{copies_count, marked_copies}
use Rattle.kept_items.proofs.copying.put_copies.Given as goal

abbrev pub invariant-loop-copy : goal.invariant-loop-copy
invariant-loop-copy l = record {
  next : l.at + copies_count l.whole.relations (drop l.copy-index l.whole.copies)
      ≡ l.initial.at + copies_count l.whole.relations l.whole.copies;
  kept : l.part.copies ++ marked_copies l.whole.relations l.marks l.at (drop l.copy-index l.whole.copies)
      ≡ marked_copies l.whole.relations l.marks l.initial.at l.whole.copies;
  relations : l.part.relations ≡ l.initial.part.relations;
  rules : l.part.rules ≡ l.initial.part.rules;
}
