use Rattle.std.proofs.Common.{string_bytes}
use Rattle.trial_command.proofs.Trials.{AreSoFar}
use Rattle.trial_command.proofs.trial.tried.Given as goal

abbrev pub invariant-loop-place : goal.invariant-loop-place
invariant-loop-place g l = AreSoFar l.size l.spec l.questions l.place (string_bytes l.summary)
