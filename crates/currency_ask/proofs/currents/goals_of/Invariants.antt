use Rattle.std.proofs.Common.{◌≡◌, map, take}
use Rattle.currency_ask.specs.declared.goal.Goal.TheVariants.{Current}
use Rattle.currency_ask.proofs.currents.goals_of.Given as goal

abbrev pub invariant-loop-place : goal.invariant-loop-place
invariant-loop-place l = l.goals ≡ map Current (take l.place l.rows)
