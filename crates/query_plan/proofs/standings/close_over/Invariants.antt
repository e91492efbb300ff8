use Rattle.std.proofs.Common.{◌≡◌}
use Rattle.query_plan.proofs.standings.close_over.Given as goal

abbrev pub invariant-loop-low : goal.invariant-loop-low
invariant-loop-low l = l.standings ≡ l.initial.standings
