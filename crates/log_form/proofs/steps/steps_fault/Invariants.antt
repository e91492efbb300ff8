use Rattle.std.proofs.Common.{◌≡◌, drop}
use Rattle.log_form.specs.Form.{steps_fault}
use Rattle.log_form.proofs.steps.steps_fault.Given as goal

abbrev pub invariant-loop-place : goal.invariant-loop-place
invariant-loop-place l = steps_fault l.statements l.place (drop l.place l.steps) ≡ steps_fault l.statements 0 l.steps
