use Rattle.log_checker.proofs.Judged.{IsJudged}
use Rattle.log_checker.proofs.checker.check_steps.Given as goal

abbrev pub invariant-loop-place : goal.invariant-loop-place
invariant-loop-place l = IsJudged l.axioms.spec l.axioms.posed l.statements l.steps l.place l.replay l.checked
