use Rattle.std.proofs.Common.{◌++◌, vec_len}
use Rattle.query_plan.specs.Plans.{AreSameAtoms}
use Rattle.query_plan.proofs.plan.planned.Given as goal

abbrev pub invariant-loop-left : goal.invariant-loop-left
invariant-loop-left l = AreSameAtoms l.atoms (l.steps.items ++ l.left.items)

abbrev pub decreases-loop-left : goal.decreases-loop-left
decreases-loop-left l = vec_len l.left
