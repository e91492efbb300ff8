use Rattle.refutation_log.specs.Steps.{clauses_of}
use Rattle.last_rows.specs.Underway.{IsUnderway}
use Rattle.last_rows.proofs.derive.leave_out.Given as goal

abbrev pub invariant-loop-own : goal.invariant-loop-own
invariant-loop-own l = IsUnderway l.list (clauses_of l.earlier) l.derivation l.later l.own
