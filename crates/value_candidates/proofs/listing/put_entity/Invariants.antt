use Rattle.value_candidates.specs.Steps.{GoesOn}
use Rattle.value_candidates.proofs.listing.put_entity.Given as goal

abbrev pub invariant-loop-attr : goal.invariant-loop-attr
invariant-loop-attr l = GoesOn l.relation l.rel l.fn.ent.0 0 l.fn.claims l.rel.0 l.fn.ent.0 l.attr l.claims
