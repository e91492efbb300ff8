use Rattle.std.proofs.Common.{◌<◌, length}
use Rattle.query_plan.proofs.plan.next_place.Given as goal

abbrev pub invariant-loop-place : goal.invariant-loop-place
invariant-loop-place l = l.best < length l.left
