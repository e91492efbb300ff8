use Rattle.current_claims.specs.Listed.{AreClaimsUpTo}
use Rattle.current_claims.proofs.claims.claims_of.Given as goal

abbrev pub invariant-loop-rel : goal.invariant-loop-rel
invariant-loop-rel l = AreClaimsUpTo l.spec.relations l.rels l.completion l.rel 0 l.claims
