-- What is told where a report is accepted.
use Rattle.std.specs.Prelude.{◌≡◌, ℕ, List, Ok}
use Rattle.command_stages.specs.Stages.{IsSpecRead, IsQuestionRead}
use Rattle.command_stages.specs.declared.done.Done.{Done}
use Rattle.program_words.specs.Words.{VerifySaid}
use Rattle.report_model.specs.declared.verdict.VerdictKind.{VerdictKind}
use Rattle.spec_model.specs.Spec.{Spec}
use Rattle.spec_model.specs.declared.question.Question.{Question}
use Rattle.verify_command.specs.Judged.{accepted_done}
use Rattle.report_stages.specs.Shown.{IsReportShown}

-- the documents are read as a specification, a question and such a report on them
pub record IsShownRight (told : List (List ℕ × List ℕ)) (v : VerifySaid) (kind : VerdictKind) : Type 0 where
  pub spec : Spec
  pub question : Question
  pub spec_read : IsSpecRead told v.spec (Ok spec)
  pub question_read : IsQuestionRead told spec.relations v.question (Ok question)
  pub report : IsReportShown told spec question v.report kind

-- that is what a command came to
abbrev pub IsVerifyPrinted : List (List ℕ × List ℕ) → VerifySaid → Done → Type 0
IsVerifyPrinted told v done = (kind : VerdictKind) × IsShownRight told v kind × (done ≡ accepted_done kind)
