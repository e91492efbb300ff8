use Rattle.std.proofs.Common.{◌≡◌, ◌++◌, map, take}
use Rattle.value_candidates.specs.Steps.{claim_for}
use Rattle.value_candidates.proofs.listing.put_claims.Given as goal

abbrev pub invariant-loop-row : goal.invariant-loop-row
invariant-loop-row l = l.claims ≡ l.fn.claims ++ map (claim_for l.rel l.attr) (take l.row-index l.rows)
