use Rattle.std.proofs.Common.{◌≡◌, ◌++◌, drop, option_map}
use Rattle.log_axioms.specs.Matches.{match_claims}
use Rattle.match_candidates.proofs.claims.match_claims.Given as goal

abbrev pub invariant-loop-place : goal.invariant-loop-place
invariant-loop-place l =
    option_map (λ rest. l.premises ++ rest) (match_claims l.relations l.values (drop l.place l.atoms) (drop l.place l.entities))
    ≡ match_claims l.relations l.values l.atoms l.entities
