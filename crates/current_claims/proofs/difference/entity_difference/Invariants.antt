use Rattle.current_claims.proofs.Differing.{NoneBelow}
use Rattle.current_claims.proofs.difference.entity_difference.Given as goal

abbrev pub invariant-loop-attr : goal.invariant-loop-attr
invariant-loop-attr l = NoneBelow l.spec.relations l.first l.second l.rel l.ent l.attr
