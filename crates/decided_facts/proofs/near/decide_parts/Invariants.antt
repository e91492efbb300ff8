use Rattle.std.proofs.Common.{◌≤◌, length}
use Rattle.decided_facts.specs.Steps.{AreFound}
use Rattle.decided_facts.proofs.near.decide_parts.Given as goal

abbrev pub invariant-loop-number : goal.invariant-loop-number
invariant-loop-number g l = record {
  start : l.start ≤ length l.keys;
  found : AreFound l.task.spec.now l.task.facts.now l.found.completions.items l.found.holds.items;
}
