use Rattle.std.proofs.Common.{◌≡◌}
use Rattle.query_plan.proofs.standings.close_from.Given as goal

abbrev pub invariant-loop-high : goal.invariant-loop-high
invariant-loop-high l = l.standings ≡ l.initial.standings
