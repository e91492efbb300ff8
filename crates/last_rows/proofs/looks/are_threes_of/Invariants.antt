use Rattle.refutation_log.specs.Steps.{clauses_of}
use Rattle.last_rows.specs.Looks.{ThreesOf}
use Rattle.last_rows.proofs.looks.are_threes_of.Given as goal

abbrev pub invariant-loop-second : goal.invariant-loop-second
invariant-loop-second l = ThreesOf l.list (clauses_of l.earlier) l.third l.second
