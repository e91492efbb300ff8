use Rattle.std.proofs.Common.{take}
use Rattle.std.specs.List.{All}
use Rattle.ucq_answers.specs.Kept.{disjuncts_of}
use Rattle.ucq_answers.proofs.Union.{NoAnswerBy}
use Rattle.ucq_answers.proofs.indexed.first_match.Given as goal

abbrev pub invariant-loop-place : goal.invariant-loop-place
invariant-loop-place l = All (NoAnswerBy l.relations l.tuple) (take l.place (disjuncts_of l.disjuncts))
