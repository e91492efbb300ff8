use Rattle.semi_joins.specs.Kept.{StayKept}
use Rattle.semi_joins.proofs.passes.join_up.Given as goal

abbrev pub invariant-loop-done : goal.invariant-loop-done
invariant-loop-done l = StayKept l.instance.relations l.steps l.conditions.tests l.initial.kept.items l.kept.items
