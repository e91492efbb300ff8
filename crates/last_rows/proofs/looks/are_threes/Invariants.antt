use Rattle.refutation_log.specs.Steps.{clauses_of}
use Rattle.last_rows.specs.Looks.{ThreesBelow}
use Rattle.last_rows.proofs.looks.are_threes.Given as goal

abbrev pub invariant-loop-third : goal.invariant-loop-third
invariant-loop-third l = ThreesBelow l.list (clauses_of l.earlier) l.third
