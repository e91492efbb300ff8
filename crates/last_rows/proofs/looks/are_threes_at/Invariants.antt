use Rattle.refutation_log.specs.Steps.{clauses_of}
use Rattle.last_rows.specs.Looks.{ThreesAt}
use Rattle.last_rows.proofs.looks.are_threes_at.Given as goal

abbrev pub invariant-loop-first : goal.invariant-loop-first
invariant-loop-first l = ThreesAt l.list (clauses_of l.earlier) l.second l.third l.first
