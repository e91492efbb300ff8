use Rattle.part_conflicts.specs.Conflicts.{AreConflictsUpTo}
use Rattle.part_conflicts.proofs.parts.decide_each.Given as goal

abbrev pub invariant-loop-number : goal.invariant-loop-number
invariant-loop-number g l = record {
  decided : AreConflictsUpTo l.spec l.ties l.number l.found;
}
