use Rattle.std.proofs.Common.{◌∙◌, ap, sym, slice_get, option_map}
use Rattle.std.proofs.lemmas.Result.{IfOk-weaker}
use Rattle.report_verify.specs.Supported.{item_needs, needs_of}
use Rattle.unit_questions.specs.Units.{question_of}
use Rattle.unit_questions.proofs.Walks.{answer_here, needs_answers, needs_same}
use Rattle.unit_questions.proofs.asking.question_at.Goals as goal

pub returns-in-Same : goal.returns-in-Same
returns-in-Same c =
    let question = c.args.question.now in
    IfOk-weaker c.value_at.result _ _
    (λ one is.
    is question
    ∙ ap (λ needs. option_map (λ need. question_of c.args.relations.now question need.claim) (slice_get needs c.args.unit))
    (ap (item_needs 0) c.as_slice.ensures ∙ sym (ap (needs_of question) c.in-Same.is ∙ needs_same question c.in-Same.items)))
    c.value_at.ensures

pub returns-in-Answers : goal.returns-in-Answers
returns-in-Answers c =
    let question = c.args.question.now in
    IfOk-weaker c.answer_at.result _ _
    (λ one is.
    is
    ∙ answer_here c.args.relations.now question 0 c.in-Answers.tuples c.args.unit
    ∙ ap (λ needs. option_map (λ need. question_of c.args.relations.now question need.claim) (slice_get needs c.args.unit))
    (sym (ap (needs_of question) c.in-Answers.is ∙ needs_answers question c.in-Answers.tuples)))
    c.answer_at.ensures
