use Rattle.std.proofs.Common.{◌∙◌, IfSome, option_map, slice_get, ap, subst, sym}
use Rattle.std.proofs.lemmas.Result.{IfOk-weaker}
use Rattle.report_verify.specs.Supported.{needs_of}
use Rattle.unit_questions.specs.Facts.{IsFactQuestion}
use Rattle.unit_questions.specs.Units.{question_of}
use Rattle.unit_questions.proofs.ClaimsLaw.{unit_posed}
use Rattle.unit_questions.proofs.asking.unit_question.Goals as goal

pub returns-clause-of_fact : goal.returns-clause-of_fact
returns-clause-of_fact c =
    let relations = c.args.spec.now.relations in
    let question = c.args.question.now in
    let verdict = c.args.verdict.now in
    IfOk-weaker c.question_at.result _ _
    (λ one is.
    subst (λ o. IfSome o (IsFactQuestion relations))
    (sym (is
    ∙ ap (λ rs. option_map (λ need. question_of rs question need.claim) (slice_get (needs_of question verdict) c.args.unit))
    c.relations-relations.ensures.value))
    (unit_posed relations question verdict c.args.unit c.relations-relations.ensures.facts c.requires.question c.requires.holds))
    c.question_at.ensures
