use Rattle.std.proofs.Common.{◌≤◌}
use Rattle.report_verify.proofs.Rising.{Rise}
use Rattle.report_verify.proofs.shape.are_ascending.Given as goal

abbrev pub invariant-loop-place : goal.invariant-loop-place
invariant-loop-place l = record { some : 1 ≤ l.place; rise : Rise l.tuples l.place }
