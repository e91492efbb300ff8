use Rattle.std.proofs.Common.{◌∙◌, IfSome, slice_get, subst, sym}
use Rattle.report_verify.specs.Supported.{needs_of}
use Rattle.unit_questions.specs.Facts.{IsFactQuestion}
use Rattle.unit_questions.specs.Units.{question_of}
use Rattle.core_explain.proofs.Claims.{each_in_one}
use Rattle.core_explain.proofs.Units.{for_unit, no_unit}
use Rattle.core_explain.proofs.explaining.of_decided.Goals as goal

pub unit_question-requires-clause-holds : goal.unit_question-requires-clause-holds
unit_question-requires-clause-holds g c =
    each_in_one c.args.spec.now c.args.question.now c.args.report.verdict c.requires.answer.right

pub of_unit-requires-clause-fact : goal.of_unit-requires-clause-fact
of_unit-requires-clause-fact g c =
    subst (λ o. IfSome o (IsFactQuestion c.args.spec.now.relations)) c.in-Ok-Some.field-0-is c.in-Ok-Some.ensures.of_fact

pub of_unit-requires-clause-asks : goal.of_unit-requires-clause-asks
of_unit-requires-clause-asks g c =
    for_unit c.args.spec.now c.args.question.now c.args.unit c.args.report.verdict c.requires.answer.shown.sound.one_of
    c.requires.answer.right _ (sym c.in-Ok-Some.ensures.asked ∙ c.in-Ok-Some.field-0-is)

pub of_unit-requires-clause-consistent : goal.of_unit-requires-clause-consistent
of_unit-requires-clause-consistent g c = c.requires.answer.shown.sound.consistent

pub returns-in-Ok-None : goal.returns-in-Ok-None
returns-in-Ok-None g c =
    record {
      shown = c.requires.answer.shown;
      right = c.requires.answer.right;
      consistent = c.requires.answer.consistent;
      none = no_unit (λ need. question_of c.args.spec.now.relations c.args.question.now need.claim)
          (slice_get (needs_of c.args.question.now c.args.report.verdict) c.args.unit)
          (sym c.in-Ok-None.ensures.asked ∙ c.in-Ok-None.field-0-is);
      writable = c.requires.answer.writable;
    }
