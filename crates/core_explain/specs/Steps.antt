-- What is known on the way to an explanation.
use Rattle.std.specs.Prelude.{◌≡◌, ◌≢◌, ℕ, true}
use Rattle.minimal_items.specs.Trials.{IsAnswerWithin}
use Rattle.report_model.specs.Verdicts.{is_decided, kind_of}
use Rattle.report_model.specs.declared.report.Report.{Report}
use Rattle.report_model.specs.declared.verdict.Verdict.TheVariants.{Inconsistent}
use Rattle.report_verify.specs.Right.{EachConsistent, IsRight}
use Rattle.report_verify.specs.Shown.{ShowsVerdict}
use Rattle.report_verify.specs.Supported.{Need}
use Rattle.report_write.specs.Writable.{IsWritableReport}
use Rattle.spec_model.specs.Consistent.{IsSatisfiable}
use Rattle.spec_model.specs.Spec.{Spec}
use Rattle.spec_model.specs.declared.question.Question.{Question}
use Rattle.unit_questions.specs.Claims.{ClaimHolds}
use Rattle.unit_questions.specs.Units.{question_of}
use Rattle.core_explain.specs.Explained.{IsUnit}

-- what is told of the report that answers the question
pub record IsAnswer (s : Spec) (q : Question) (budget : ℕ) (report : Report) : Type 0 where
  pub shown : ShowsVerdict s q report
  pub right : is_decided (kind_of report.verdict) ≡ true → IsRight s q report.verdict
  pub writable : IsWritableReport s.relations report
  pub lists : IsAnswerWithin s q budget report

-- a report shows a decided verdict of a consistent specification
pub record IsDecidedAnswer (s : Spec) (q : Question) (report : Report) : Type 0 where
  pub shown : ShowsVerdict s q report
  pub right : IsRight s q report.verdict
  pub consistent : report.verdict ≢ Inconsistent
  pub writable : IsWritableReport s.relations report

-- a question is that for a unit, which holds in every consistent completion
pub record IsForUnit (s : Spec) (q : Question) (unit : ℕ) (asks : Question) : Type 0 where
  pub satisfiable : IsSatisfiable s
  pub need : Need
  pub is_unit : IsUnit s q unit need
  pub is_asked : asks ≡ question_of s.relations q need.claim
  pub holds : EachConsistent s (ClaimHolds s.relations q need.claim)
