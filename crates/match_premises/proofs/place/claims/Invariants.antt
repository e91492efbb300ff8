use Rattle.std.proofs.Common.{◌≡◌, [], Some, drop}
use Rattle.match_premises.specs.Premises.{claims_from}
use Rattle.match_premises.proofs.place.claims.Given as goal

abbrev pub invariant-loop-place : goal.invariant-loop-place
invariant-loop-place l =
    claims_from l.table.rel l.table.rows.now l.table.members.now l.values (Some l.premises) l.place (drop l.place l.terms)
    ≡ claims_from l.table.rel l.table.rows.now l.table.members.now l.values (Some []) 0 l.terms
