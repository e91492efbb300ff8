use Rattle.std.proofs.Common.{take}
use Rattle.std.specs.List.{AllZip}
use Rattle.semi_joins.specs.Kept.{KeepsAll}
use Rattle.semi_joins.proofs.passes.first_kept.Given as goal

abbrev pub invariant-loop-step : goal.invariant-loop-step
invariant-loop-step l = AllZip (KeepsAll l.instance.relations l.steps l.conditions.tests) (take l.step-index l.steps) l.kept.items
