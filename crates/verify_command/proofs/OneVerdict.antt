-- What three documents show is determined.
use Rattle.std.proofs.Common.{◌≡◌, ◌∙◌, ℕ, List, Result, sym, ap}
use Rattle.command_stages.proofs.OneRead.{IsOne, then_one}
use Rattle.command_stages.specs.Stages.{IsSpecRead, IsQuestionRead}
use Rattle.command_stages.specs.declared.done.Done.{Done}
use Rattle.command_stages.specs.declared.trouble.Trouble.{Trouble}
use Rattle.currency_report.specs.declared.report.ReadReport.{ReadReport}
use Rattle.program_words.specs.Words.{VerifySaid}
use Rattle.spec_model.specs.Spec.{Spec}
use Rattle.spec_model.specs.declared.question.Question.{Question}
use Rattle.spec_model.specs.declared.relation.Relation.{Relation}
use Rattle.verify_command.specs.Judged.{IsJudgedDue, IsVerifyDue, accepted}
use Rattle.report_stages.specs.Judged.{IsReportRead, IsJudged}

-- what the layers below say of one reading of each document, and of one judgement
pub record Laws : Type 0 where
  pub specs : (told : List (List ℕ × List ℕ)) (name : List ℕ) → IsOne (IsSpecRead told name)
  pub questions : (told : List (List ℕ × List ℕ)) (relations : List Relation) (name : List ℕ)
      → IsOne (IsQuestionRead told relations name)
  pub reports : (told : List (List ℕ × List ℕ)) (relations : List Relation) (name : List ℕ)
      → IsOne (IsReportRead told relations name)
  pub judged : (s : Spec) (q : Question) (name : List ℕ) (r : ReadReport) → IsOne (IsJudged s q name r)

-- ---- the whole

judged_due_one : Laws → (told : List (List ℕ × List ℕ)) (v : VerifySaid) → IsOne (IsJudgedDue told v)
judged_due_one laws told v =
    then_one (IsSpecRead told v.spec) _ (laws.specs told v.spec) (λ s.
    then_one (IsQuestionRead told s.relations v.question) _ (laws.questions told s.relations v.question) (λ question.
    then_one (IsReportRead told s.relations v.report) _ (laws.reports told s.relations v.report)
    (laws.judged s question v.report)))

pub verdict_one : Laws → (told : List (List ℕ × List ℕ)) (v : VerifySaid) (a b : Result Done Trouble)
    → IsVerifyDue told v a → IsVerifyDue told v b → a ≡ b
verdict_one laws told v a b h k = h.2 ∙ ap accepted (judged_due_one laws told v h.0 k.0 h.1 k.1) ∙ sym k.2
