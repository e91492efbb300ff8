use Rattle.std.proofs.Common.{take}
use Rattle.query_plan.specs.Plans.{AreSameAtoms}
use Rattle.query_plan.proofs.plan.steps_of.Given as goal

abbrev pub invariant-loop-atom : goal.invariant-loop-atom
invariant-loop-atom l = AreSameAtoms (take l.atom-index l.atoms) l.steps.items
