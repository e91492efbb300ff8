use Rattle.std.proofs.Common.{take}
use Rattle.common_answers.proofs.common.are_common.Given as goal
use Rattle.common_answers.specs.Candidates.{AreLeft}

abbrev pub invariant-loop-at : goal.invariant-loop-at
invariant-loop-at l = AreLeft l.spec.relations l.query l.tuples (take l.at l.completions) l.others
