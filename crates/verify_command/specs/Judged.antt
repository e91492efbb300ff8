-- What is due for three documents of which the third is a report.
use Rattle.std.specs.Prelude.{◌≡◌, ◌⊎◌, ◌++◌, ℕ, List, [], ◌∷◌, codes, Result, Ok, Err}
use Rattle.report_stages.specs.Judged.{IsReportRead, IsJudged}
use Rattle.command_stages.specs.Documents.{IsSpecDocumentDue, IsQuestionDue}
use Rattle.command_stages.specs.Endings.{printed_text}
use Rattle.command_stages.specs.Stages.{Then, IsSpecRead, IsQuestionRead}
use Rattle.command_stages.specs.declared.done.Done.{Done}
use Rattle.command_stages.specs.declared.trouble.Trouble.{Trouble}
use Rattle.program_words.specs.Words.{VerifySaid}
use Rattle.program_words.specs.declared.command.Verify.{Verify}
use Rattle.report_model.specs.Verdicts.{kind_text}
use Rattle.report_model.specs.declared.verdict.VerdictKind.{VerdictKind}
use Rattle.spec_model.specs.Spec.{Spec}
use Rattle.spec_model.specs.declared.question.Question.{Question}

-- what is asked to be verified, with the names of documents as bytes
abbrev pub verify_said : Verify → VerifySaid
verify_said v = record { spec = v.spec.now; question = v.question.now; report = v.report.now }

-- what is due for three documents: what the report shows
abbrev pub IsJudgedDue : List (List ℕ × List ℕ) → VerifySaid → Result VerdictKind Trouble → Type 0
IsJudgedDue told v =
    Then (IsSpecRead told v.spec) (λ s.
    Then (IsQuestionRead told s.relations v.question) (λ question.
    Then (IsReportRead told s.relations v.report) (IsJudged s question v.report)))

-- the line of a report that shows a verdict of this kind
abbrev pub accepted_text : VerdictKind → List ℕ
accepted_text kind = codes "accepted " ++ kind_text kind ++ 10 ∷ []

-- what such a report comes to
abbrev pub accepted_done : VerdictKind → Done
accepted_done kind = printed_text (accepted_text kind)

-- a report that shows its verdict is accepted
abbrev pub accepted : Result VerdictKind Trouble → Result Done Trouble
accepted (Ok kind) = Ok (accepted_done kind)
accepted (Err e) = Err e

-- what is due for `verify`
abbrev pub IsVerifyDue : List (List ℕ × List ℕ) → VerifySaid → Result Done Trouble → Type 0
IsVerifyDue told v outcome = (judged : Result VerdictKind Trouble) × IsJudgedDue told v judged × (outcome ≡ accepted judged)

-- ---- documents

-- the report is due to be read, once both are
abbrev pub IsReportDue : List (List ℕ × List ℕ) → VerifySaid → List ℕ → Type 0
IsReportDue told v name =
    (s : Spec) × (q : Question) × IsSpecRead told v.spec (Ok s) × IsQuestionRead told s.relations v.question (Ok q)
    × (name ≡ v.report)

-- a document is due to be read for `verify`
abbrev pub IsVerifyDocumentDue : List (List ℕ × List ℕ) → VerifySaid → List ℕ → Type 0
IsVerifyDocumentDue told v name = IsSpecDocumentDue told v.spec name ⊎
    (IsQuestionDue told v.spec v.question name ⊎ IsReportDue told v name)
