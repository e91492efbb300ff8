use Rattle.refutation_log.specs.Steps.{clauses_of}
use Rattle.last_rows.specs.Looks.{AreTops}
use Rattle.last_rows.proofs.looks.are_tops.Given as goal

abbrev pub invariant-loop-row : goal.invariant-loop-row
invariant-loop-row l = AreTops l.list (clauses_of l.earlier) l.row
