use Rattle.decided_facts.specs.Steps.{AreMarked, AreShownTo}
use Rattle.decided_facts.proofs.rest.decide_rest.Given as goal

abbrev pub invariant-loop-place : goal.invariant-loop-place
invariant-loop-place g l = record {
  shown : AreShownTo l.task.spec.now l.task.facts.now l.place l.completions.items l.shown;
  marked : AreMarked l.task.spec.now l.task.facts.now l.holds.items;
}
