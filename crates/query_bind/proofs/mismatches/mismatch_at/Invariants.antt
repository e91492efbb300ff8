-- No place so far is refused.
use Rattle.std.proofs.Common.{◌≡◌, drop}
use Rattle.query_bind.specs.Queried.{first_at, place_mismatch}
use Rattle.query_bind.specs.Steps.{kind_among, kind_for}
use Rattle.query_bind.proofs.mismatches.mismatch_at.Given as goal

abbrev pub invariant-loop-at : goal.invariant-loop-at
invariant-loop-at l =
    first_at (place_mismatch (kind_for l.scope.own.now) (kind_among l.scope.head.now l.scope.before.now) l.relation)
    l.at (drop l.at l.places)
    ≡ first_at (place_mismatch (kind_for l.scope.own.now) (kind_among l.scope.head.now l.scope.before.now) l.relation) 0 l.places
