use Rattle.refutation_log.specs.Steps.{clauses_of}
use Rattle.last_rows.specs.Looks.{AreUnits}
use Rattle.last_rows.proofs.looks.are_units.Given as goal

abbrev pub invariant-loop-row : goal.invariant-loop-row
invariant-loop-row l = AreUnits l.list (clauses_of l.earlier) l.row
