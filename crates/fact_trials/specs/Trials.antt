-- What is told of the fact that a question asks for.
use Rattle.std.specs.Prelude.{◌≡◌, ℕ}
pub use Rattle.currency_ask.specs.Answered.{HasTooMany, IsAnswerWithin}
pub use Rattle.currency_ask.specs.declared.fault.AskFault.TheVariants.{TooMany}
use Rattle.report_model.specs.declared.report.Report.{Report}
use Rattle.report_model.specs.declared.verdict.Verdict.TheVariants as verdict
use Rattle.report_write.specs.Writable.{IsWritableReport}
use Rattle.report_verify.specs.Right.{EachConsistent}
use Rattle.report_verify.specs.Shown.{ShowsVerdict}
use Rattle.spec_model.specs.Completion.{Rankings}
use Rattle.spec_model.specs.Consistent.{IsConsistent}
use Rattle.spec_model.specs.Spec.{Spec}
use Rattle.spec_model.specs.declared.question.Question.{Question}
use Rattle.unit_questions.specs.Facts.{FactHolds}
use Rattle.fact_trials.specs.declared.trial.Trial.{Trial}
use Rattle.fact_trials.specs.declared.trial.Trial.TheVariants.{Holds, Fails, Open}

-- a completion is consistent, and the question's fact fails in it
pub record IsWithout (s : Spec) (q : Question) (c : Rankings) : Type 0 where
  pub consistent : IsConsistent s c
  pub fails : FactHolds s.relations q c → ⊥

-- a report says that the budget is spent, and has what an answer within it has then
pub record IsSpent (s : Spec) (q : Question) (budget : ℕ) (report : Report) : Type 0 where
  pub undecided : report.verdict ≡ verdict.Undecided budget
  pub shown : ShowsVerdict s q report
  pub writable : IsWritableReport s.relations report
  pub within : IsAnswerWithin s q budget report

-- the fact holds in every consistent completion; or fails in this one; or the budget is spent
abbrev pub IsTrial : Spec → Question → ℕ → Trial → Type 0
IsTrial s q budget Holds = EachConsistent s (FactHolds s.relations q)
IsTrial s q budget (Fails c) = IsWithout s q c
IsTrial s q budget (Open report) = IsSpent s q budget report
