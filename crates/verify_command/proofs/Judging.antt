-- Where three documents are read, what the report shows is told.
use Rattle.std.proofs.Common.{◌≡◌, ℕ, List, MatchResult, Result, Ok, Err, subst}
use Rattle.command_stages.specs.Stages.{Then, IsSpecRead, IsQuestionRead}
use Rattle.command_stages.specs.declared.done.Done.{Done}
use Rattle.command_stages.specs.declared.trouble.Trouble.{Trouble}
use Rattle.currency_report.specs.declared.report.ReadReport.{ReadReport}
use Rattle.program_words.specs.Words.{VerifySaid}
use Rattle.report_model.specs.declared.verdict.VerdictKind.{VerdictKind}
use Rattle.spec_model.specs.Spec.{Spec}
use Rattle.spec_model.specs.declared.question.Question.{Question}
use Rattle.spec_model.specs.declared.relation.Relation.{Relation}
use Rattle.report_stages.specs.Judged.{IsReportRead, IsJudged}
use Rattle.verify_command.specs.Judged.{IsJudgedDue, IsVerifyDue, accepted}

abbrev OneSpec : Type 0
OneSpec = (told : List (List ℕ × List ℕ)) (name : List ℕ) (a b : Result Spec Trouble) → IsSpecRead told name a
    → IsSpecRead told name b → a ≡ b

abbrev OneQuestion : Type 0
OneQuestion = (told : List (List ℕ × List ℕ)) (relations : List Relation) (name : List ℕ) (a b : Result Question Trouble)
    → IsQuestionRead told relations name a → IsQuestionRead told relations name b → a ≡ b

abbrev OneReport : Type 0
OneReport = (told : List (List ℕ × List ℕ)) (relations : List Relation) (name : List ℕ) (a b : Result ReadReport Trouble)
    → IsReportRead told relations name a → IsReportRead told relations name b → a ≡ b

judged_due : OneSpec → OneQuestion → OneReport → (told : List (List ℕ × List ℕ)) (v : VerifySaid) (s : Spec)
    (q : Question) (r : ReadReport)
    (judged : Result VerdictKind Trouble) → IsSpecRead told v.spec (Ok s) → IsQuestionRead told s.relations v.question (Ok q)
    → IsReportRead told s.relations v.report (Ok r) → IsJudgedDue told v judged → IsJudged s q v.report r judged
judged_due one_spec one_question one_report told v s q r judged spec question report h =
    of_report (of_question (of_spec h))
  where
    of_spec : IsJudgedDue told v judged → Then (IsQuestionRead told s.relations v.question)
        (λ x. Then (IsReportRead told s.relations v.report) (IsJudged s x v.report)) judged
    of_spec h =
        subst (λ (o : Result Spec Trouble). MatchResult o (λ x. Then (IsQuestionRead told x.relations v.question)
        (λ y. Then (IsReportRead told x.relations v.report) (IsJudged x y v.report)) judged) (λ e. judged ≡ Err e))
        (one_spec told v.spec h.0 (Ok s) h.1 spec) h.2

    of_question : Then (IsQuestionRead told s.relations v.question)
        (λ x. Then (IsReportRead told s.relations v.report) (IsJudged s x v.report)) judged
        → Then (IsReportRead told s.relations v.report) (IsJudged s q v.report) judged
    of_question h =
        subst (λ (o : Result Question Trouble). MatchResult o (λ x. Then (IsReportRead told s.relations v.report)
        (IsJudged s x v.report) judged) (λ e. judged ≡ Err e))
        (one_question told s.relations v.question h.0 (Ok q) h.1 question) h.2

    of_report : Then (IsReportRead told s.relations v.report) (IsJudged s q v.report) judged → IsJudged s q v.report r judged
    of_report h =
        subst (λ (o : Result ReadReport Trouble). MatchResult o (λ x. IsJudged s q v.report x judged) (λ e. judged ≡ Err e))
        (one_report told s.relations v.report h.0 (Ok r) h.1 report) h.2

-- what is due for the command
pub verify_judged : OneSpec → OneQuestion → OneReport → (told : List (List ℕ × List ℕ)) (v : VerifySaid) (s : Spec)
    (q : Question) (r : ReadReport)
    (got : Result Done Trouble) → IsSpecRead told v.spec (Ok s) → IsQuestionRead told s.relations v.question (Ok q)
    → IsReportRead told s.relations v.report (Ok r) → IsVerifyDue told v got → (judged : Result VerdictKind Trouble) ×
    IsJudged s q v.report r judged × (got ≡ accepted judged)
verify_judged one_spec one_question one_report told v s q r got spec question report h =
    (h.0, judged_due one_spec one_question one_report told v s q r h.0 spec question report h.1, h.2)
