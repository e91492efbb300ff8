use Rattle.semi_joins.specs.Kept.{StayKept}
use Rattle.semi_joins.proofs.passes.join_down.Given as goal

abbrev pub invariant-loop-at : goal.invariant-loop-at
invariant-loop-at l = StayKept l.instance.relations l.steps l.conditions.tests l.initial.kept.items l.kept.items
