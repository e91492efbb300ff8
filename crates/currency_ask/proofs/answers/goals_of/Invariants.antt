use Rattle.std.proofs.Common.{◌≡◌, map, take}
use Rattle.currency_ask.specs.declared.goal.Goal.TheVariants.{Answer}
use Rattle.currency_ask.proofs.answers.goals_of.Given as goal

abbrev pub invariant-loop-at : goal.invariant-loop-at
invariant-loop-at l = l.goals ≡ map Answer (take l.at l.places)
