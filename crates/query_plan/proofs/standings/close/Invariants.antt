use Rattle.std.proofs.Common.{◌≡◌}
use Rattle.query_plan.proofs.standings.close.Given as goal

abbrev pub invariant-loop-by : goal.invariant-loop-by
invariant-loop-by l = l.standings ≡ l.initial.standings
