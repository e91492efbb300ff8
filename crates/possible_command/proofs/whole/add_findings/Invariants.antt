use Rattle.possible_command.proofs.Adding.{GoesOn}
use Rattle.possible_command.proofs.whole.add_findings.Given as goal

abbrev pub invariant-loop-place : goal.invariant-loop-place
invariant-loop-place g l = GoesOn l.spec l.budget l.found l.initial.into l.place l.into
