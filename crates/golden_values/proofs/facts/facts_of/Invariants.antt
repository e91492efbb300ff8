use Rattle.golden_values.specs.Steps.{AreClaimsTo}
use Rattle.golden_values.proofs.facts.facts_of.Given as goal

abbrev pub invariant-loop-ent : goal.invariant-loop-ent
invariant-loop-ent l = AreClaimsTo l.rel.0 l.relation l.completion l.ent 0 l.facts.items
