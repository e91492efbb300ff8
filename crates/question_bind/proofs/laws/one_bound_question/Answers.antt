use Rattle.question_bind.proofs.OneQuestion.{one_question}
use Rattle.question_bind.proofs.laws.one_bound_question.Goals as goal

pub returns : goal.returns
returns c = one_question c.one_table.ensures
