use Rattle.completion_check.proofs.Choices.{NoneBelow}
use Rattle.completion_check.proofs.search.first_break.Given as goal

abbrev pub invariant-loop-at : goal.invariant-loop-at
invariant-loop-at l = NoneBelow l.trial l.at
