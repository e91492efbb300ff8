use Rattle.value_candidates.specs.Steps.{ArePutTo}
use Rattle.value_candidates.proofs.listing.value_claims.Given as goal

abbrev pub invariant-loop-rel : goal.invariant-loop-rel
invariant-loop-rel l = ArePutTo l.spec.relations l.rels l.rel 0 0 l.claims
