use Rattle.made_clauses.proofs.Ascents.{Ascend}
use Rattle.made_clauses.proofs.variables.is_fit.Given as goal

abbrev pub invariant-loop-place : goal.invariant-loop-place
invariant-loop-place l = Ascend l.lits l.place l.vars
