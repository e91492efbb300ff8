use Rattle.semi_joins.specs.Kept.{AreLinks}
use Rattle.semi_joins.proofs.links.links_of.Given as goal

abbrev pub invariant-loop-place : goal.invariant-loop-place
invariant-loop-place l = AreLinks l.conditions.tests l.ones l.others l.here.items l.there.items
