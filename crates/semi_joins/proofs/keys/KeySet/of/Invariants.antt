use Rattle.semi_joins.proofs.Keeping.{NotedBelow}
use Rattle.semi_joins.proofs.keys.KeySet.of.Given as goal

abbrev pub invariant-loop-place : goal.invariant-loop-place
invariant-loop-place l = NotedBelow l.rows l.kept l.places l.place l.keys
