use Rattle.value_candidates.specs.Steps.{GoesOn}
use Rattle.value_candidates.proofs.listing.put_relation.Given as goal

abbrev pub invariant-loop-ent : goal.invariant-loop-ent
invariant-loop-ent l = GoesOn l.relation l.rel 0 0 l.fn.claims l.rel.0 l.ent 0 l.claims
