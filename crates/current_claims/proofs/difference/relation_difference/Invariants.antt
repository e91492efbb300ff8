use Rattle.current_claims.proofs.Differing.{NoneBefore}
use Rattle.current_claims.proofs.difference.relation_difference.Given as goal

abbrev pub invariant-loop-ent : goal.invariant-loop-ent
invariant-loop-ent l = NoneBefore l.spec.relations l.first l.second l.rel l.ent
