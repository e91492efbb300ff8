use Rattle.std.proofs.Common.{length}
use Rattle.refutation_log.specs.Steps.{clauses_of}
use Rattle.last_rows.specs.Underway.{IsBetween}
use Rattle.last_rows.proofs.derive.leave_known.Given as goal

abbrev pub invariant-loop-own : goal.invariant-loop-own
invariant-loop-own l = IsBetween l.list (clauses_of l.earlier) l.derivation (length l.list.tops.items) l.list.kept l.own
