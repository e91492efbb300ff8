use Rattle.current_claims.specs.Listed.{AreClaimsUpTo}
use Rattle.current_claims.proofs.claims.claim_relation.Given as goal

abbrev pub invariant-loop-ent : goal.invariant-loop-ent
invariant-loop-ent l = AreClaimsUpTo l.spec.relations l.rels l.completion l.rel.0 l.ent l.claims
