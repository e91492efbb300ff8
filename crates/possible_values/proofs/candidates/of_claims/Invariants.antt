use Rattle.std.proofs.Common.{◌≡◌, ◌++◌, drop, map}
use Rattle.possible_values.specs.declared.candidates.Candidate.TheVariants as candidate
use Rattle.possible_values.proofs.candidates.of_claims.Given as goal

abbrev pub invariant-loop-claim : goal.invariant-loop-claim
invariant-loop-claim l =
    l.list ++ map (λ p. candidate.Value p) (drop l.claim-index l.claims) ≡ map (λ p. candidate.Value p) l.claims
