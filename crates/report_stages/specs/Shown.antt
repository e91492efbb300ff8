-- What is told where a report shows its verdict.
use Rattle.std.specs.Prelude.{◌≡◌, ℕ, true, List, Ok}
use Rattle.currency_report.specs.declared.report.ReadReport.{ReadReport}
use Rattle.report_model.specs.Verdicts.{is_decided, kind_of}
use Rattle.report_model.specs.declared.verdict.VerdictKind.{VerdictKind}
use Rattle.report_verify.specs.Right.{IsRight}
use Rattle.report_verify.specs.Shown.{ShowsVerdict}
use Rattle.spec_model.specs.Spec.{Spec}
use Rattle.spec_model.specs.declared.question.Question.{Question}
use Rattle.report_stages.specs.Judged.{IsReportRead}

-- the document of this name is read as a report that shows a verdict of this kind on a specification and a question; and the
-- verdict is right, if it is a decided one
pub record IsReportShown (told : List (List ℕ × List ℕ)) (s : Spec) (question : Question) (name : List ℕ)
    (kind : VerdictKind) : Type 0 where
  pub read : ReadReport
  pub report_read : IsReportRead told s.relations name (Ok read)
  pub shown : ShowsVerdict s question read.report
  pub of_kind : kind ≡ kind_of read.report.verdict
  pub right : is_decided kind ≡ true → IsRight s question read.report.verdict
