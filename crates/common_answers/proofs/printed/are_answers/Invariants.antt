use Rattle.std.proofs.Common.{All, take}
use Rattle.common_answers.proofs.printed.are_answers.Given as goal
use Rattle.query_model.specs.Answers.{IsAnswer}

abbrev pub invariant-loop-tuple : goal.invariant-loop-tuple
invariant-loop-tuple l = All (IsAnswer l.indexed.query l.indexed.instance) (take l.tuple-index l.tuples)
