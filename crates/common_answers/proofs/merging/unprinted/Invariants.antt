use Rattle.common_answers.proofs.Rest.{AreMerged}
use Rattle.common_answers.proofs.merging.unprinted.Given as goal

abbrev pub invariant-loop-at : goal.invariant-loop-at
invariant-loop-at l = AreMerged l.answers l.tuples l.at l.from l.left.items
