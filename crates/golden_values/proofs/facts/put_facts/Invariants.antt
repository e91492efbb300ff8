use Rattle.golden_values.specs.Steps.{AreClaimsTo}
use Rattle.golden_values.proofs.facts.put_facts.Given as goal

abbrev pub invariant-loop-attr : goal.invariant-loop-attr
invariant-loop-attr l = AreClaimsTo l.rel.0 l.relation l.completion l.ent.0 l.attr l.facts.items
