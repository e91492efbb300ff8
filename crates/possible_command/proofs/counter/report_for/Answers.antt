use Rattle.std.proofs.Common.{subst, sym}
use Rattle.spec_model.specs.declared.question.Question.{Question}
use Rattle.unit_questions.specs.Facts.{IsFactQuestion}
use Rattle.possible_command.proofs.Headless.{not_too_many}
use Rattle.possible_command.proofs.counter.report_for.Goals as goal

pub wanting-requires-clause-few : goal.wanting-requires-clause-few
wanting-requires-clause-few g c = λ determined.
    let relations = c.args.spec.now.relations in
    let many = c.in-Err.ensures.too_many determined in
    let asked =
    c.facts_are_asked.ensures relations c.args.fact.now c.is_specification.ensures.relations c.requires.fact in
    not_too_many c.args.spec.now c.in_ok-question.question
    (subst (λ (q : Question). IsFactQuestion relations q) (sym c.in_ok-question.ensures) asked.question) many.0 many.1
