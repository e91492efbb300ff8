use Rattle.std.proofs.Common.{◌∙◌, sym}
use Rattle.core_explain.proofs.Reports.{all_spent, decided_answer, none_consistent}
use Rattle.core_explain.proofs.explaining.of_report.Goals as goal

pub returns-in-Undecided : goal.returns-in-Undecided
returns-in-Undecided g c =
    all_spent c.args.spec.now c.args.question.now c.args.budget c.args.report c.requires.answer
    (sym c.kind.ensures ∙ c.in-Undecided.is)

pub of_contradiction-requires-clause-inconsistent : goal.of_contradiction-requires-clause-inconsistent
of_contradiction-requires-clause-inconsistent g c =
    none_consistent c.args.spec.now c.args.question.now c.args.budget c.args.report c.requires.answer
    (sym c.kind.ensures ∙ c.in-Inconsistent.is)

pub of_decided-requires-clause-answer : goal.of_decided-requires-clause-answer
of_decided-requires-clause-answer g c =
    decided_answer c.args.spec.now c.args.question.now c.args.budget c.args.report c.requires.answer
    (λ e. c.in_default.not-Undecided (c.kind.ensures ∙ e)) (λ e. c.in_default.not-Inconsistent (c.kind.ensures ∙ e))
