use Rattle.std.proofs.Common.{subst, sym}
use Rattle.spec_model.specs.declared.question.Question.{Question}
use Rattle.currency_ask.specs.Answered.{HasTooMany}
use Rattle.currency_ask.proofs.ask.answered_from.Goals as goal

pub returns-in-Answers-clause-too_many : goal.returns-in-Answers-clause-too_many
returns-in-Answers-clause-too_many g c =
    λ completion is.
    subst (λ (q : Question). HasTooMany c.args.spec.now q completion) (sym c.in-Answers.is)
    (c.answers.ensures.too_many completion is)
