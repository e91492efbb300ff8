use Rattle.std.proofs.Common.{◌≡◌, None, drop}
use Rattle.log_form.specs.Form.{statements_fault}
use Rattle.log_form.proofs.statements.statements_fault.Given as goal

abbrev pub invariant-loop-place : goal.invariant-loop-place
invariant-loop-place l =
    statements_fault l.relations l.answers l.place l.before (drop l.place l.statements) ≡ statements_fault
    l.relations l.answers 0 None l.statements
