use Rattle.decided_facts.specs.Steps.{AreFound, IsCertain}
use Rattle.decided_facts.proofs.each.decide_each.Given as goal

abbrev pub invariant-loop-key : goal.invariant-loop-key
invariant-loop-key g l = record {
  certain : IsCertain l.site.task.now.spec.now l.round.claim l.round.certain;
  found : AreFound l.site.task.now.spec.now l.site.task.now.facts.now l.found.completions.items l.found.holds.items;
}
