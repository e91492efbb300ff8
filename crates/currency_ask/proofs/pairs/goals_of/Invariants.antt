use Rattle.std.proofs.Common.{◌≡◌, map, take}
use Rattle.currency_ask.specs.declared.goal.Goal.TheVariants.{Pair}
use Rattle.currency_ask.proofs.pairs.goals_of.Given as goal

abbrev pub invariant-loop-place : goal.invariant-loop-place
invariant-loop-place l = l.goals ≡ map Pair (take l.place l.pairs)
