use Rattle.std.specs.List.{All}
use Rattle.query_plan.specs.Implied.{IsImplied}
use Rattle.query_plan.proofs.equalities.add_round.Given as goal

abbrev pub invariant-loop-number : goal.invariant-loop-number
invariant-loop-number l = All (IsImplied l.standings) l.initial.all.items → All (IsImplied l.standings) l.all.items
