use Rattle.std.proofs.Common.{subst}
use Rattle.query_model.specs.Answers.{AreAscending}
use Rattle.ucq_answers.specs.Found.{Bounded}
use Rattle.ucq_answers.proofs.Ascending.{sorted_ascend}
use Rattle.ucq_answers.proofs.answer_set.AnswerSet.into_tuples.Goals as goal

pub returns-in_err-tuples-clause-ascending : goal.returns-in_err-tuples-clause-ascending
returns-in_err-tuples-clause-ascending c =
    subst (λ (s : Bounded). AreAscending s.tuples) c.self.view_is
    (sorted_ascend c.self.inside.answers.keys c.len-count.ensures.ordered)

pub returns-in_err-push-clause-ascending : goal.returns-in_err-push-clause-ascending
returns-in_err-push-clause-ascending c =
    subst (λ (s : Bounded). AreAscending s.tuples) c.self.view_is
    (sorted_ascend c.self.inside.answers.keys c.len-count.ensures.ordered)

pub returns-clause-ascending : goal.returns-clause-ascending
returns-clause-ascending c =
    subst (λ (s : Bounded). AreAscending s.tuples) c.self.view_is
    (sorted_ascend c.self.inside.answers.keys c.len-count.ensures.ordered)
