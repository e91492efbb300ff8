use Rattle.std.proofs.Common.{◌≡◌}
use Rattle.ucq_answers.proofs.answer_set.AnswerSet.into_tuples.Given as goal

abbrev pub invariant-loop-answer : goal.invariant-loop-answer
invariant-loop-answer l = l.tuples.items ≡ l.yielded
