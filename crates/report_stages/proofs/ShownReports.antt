-- A report that was read and judged.
use Rattle.std.proofs.Common.{◌≡◌, ℕ, true, List, Option, Some, None, IfOk, IfSome, OnOk, Result, Ok, Err}
use Rattle.command_stages.specs.declared.trouble.Trouble.{Trouble}
use Rattle.command_stages.specs.declared.trouble.Trouble.TheVariants as trouble
use Rattle.currency_report.specs.declared.report.ReadReport.{ReadReport}
use Rattle.report_model.specs.Verdicts.{is_decided, kind_of}
use Rattle.report_model.specs.declared.verdict.VerdictKind.{VerdictKind}
use Rattle.report_verify.specs.Right.{IsRight}
use Rattle.report_verify.specs.Shown.{ShowsVerdict}
use Rattle.spec_model.specs.Spec.{Spec}
use Rattle.spec_model.specs.declared.question.Question.{Question}
use Rattle.report_stages.specs.Judged.{IsReportRead}
use Rattle.report_stages.specs.Shown.{IsReportShown}

-- the report and the job together
pub report_shown : (texts : Option (List (List ℕ × List ℕ))) (s : Spec) (q : Question) (name : List ℕ)
    (read : ReadReport) (r : Result VerdictKind Trouble)
    → IfSome texts (λ told. IsReportRead told s.relations name (Ok read)) → OnOk r (ShowsVerdict s q read.report)
    → IfOk r (λ kind. kind ≡ kind_of read.report.verdict)
    → IfOk r (λ kind. is_decided kind ≡ true → IsRight s q read.report.verdict)
    → IfOk r (λ kind. IfSome texts (λ told. IsReportShown told s q name kind))
report_shown None s q name read (Ok kind) is_read shown of_kind right = tt
report_shown (Some told) s q name read (Ok kind) is_read shown of_kind right =
    record { read = read; report_read = is_read; shown = shown; of_kind = of_kind; right = right }
report_shown texts s q name read (Err e) is_read shown of_kind right = tt
