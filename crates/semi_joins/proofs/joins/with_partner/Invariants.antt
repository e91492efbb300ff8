use Rattle.semi_joins.specs.Kept.{IsJoined}
use Rattle.semi_joins.proofs.Marking.{KeepsBelow}
use Rattle.semi_joins.proofs.joins.with_partner.Given as goal

abbrev pub invariant-loop-place : goal.invariant-loop-place
invariant-loop-place l =
    KeepsBelow (IsJoined l.old l.others l.theirs l.links.here.items l.links.there.items) l.rows l.place l.kept
