use Rattle.std.proofs.Common.{◌≡◌, ◌+◌, ◌++◌, drop}
use Rattle.kept_items.specs.Steps.{marked}
use Rattle.kept_items.proofs.copying.put_rules.Given as goal

abbrev pub invariant-loop-rule : goal.invariant-loop-rule
invariant-loop-rule l = record {
  next : l.at ≡ l.initial.at + l.rule-index;
  kept : l.part.rules ++ marked l.marks l.at (drop l.rule-index l.whole.rules) ≡ marked l.marks l.initial.at l.whole.rules;
  relations : l.part.relations ≡ l.initial.part.relations;
  copies : l.part.copies ≡ l.initial.part.copies;
}
