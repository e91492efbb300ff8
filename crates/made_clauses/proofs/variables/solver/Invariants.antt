use Rattle.std.proofs.Common.{◌≡◌, [], length}
use Rattle.made_clauses.proofs.variables.solver.Given as goal

abbrev pub invariant-loop-tuple : goal.invariant-loop-tuple
invariant-loop-tuple l = record {
  statements : length l.log.statements ≡ l.tuple;
  steps : l.log.steps ≡ [];
}
