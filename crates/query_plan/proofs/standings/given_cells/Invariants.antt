use Rattle.std.proofs.Common.{IfSome}
use Rattle.std.specs.List.{All}
use Rattle.query_plan.specs.Implied.{Follows}
use Rattle.query_plan.proofs.standings.given_cells.Given as goal

abbrev pub invariant-loop-place : goal.invariant-loop-place
invariant-loop-place l = All (λ c. IfSome c (Follows l.tests)) l.cells.items
