-- What an explanation is asked of, and what it may be.
use Rattle.std.specs.Prelude.{◌≡◌, ◌≢◌, ◌⊎◌, ℕ, List, None, Some, slice_get}
pub use Rattle.minimal_items.specs.Trials.{HasTooMany, IsSpent}
use Rattle.minimal_items.specs.Explanations.{IsExplanation}
use Rattle.minimal_items.specs.Reduced.{IsSpentOn}
use Rattle.minimal_items.specs.declared.reducing.Spent.{Spent}
use Rattle.minimal_items.specs.declared.needed.Needed.{Needed}
use Rattle.report_model.specs.declared.report.Report.{Report}
use Rattle.report_model.specs.declared.verdict.Verdict.{Verdict}
use Rattle.report_model.specs.declared.verdict.Verdict.TheVariants.{Inconsistent}
use Rattle.report_verify.specs.Right.{IsRight}
use Rattle.report_verify.specs.Shown.{ShowsVerdict}
use Rattle.report_verify.specs.Supported.{IsOneOf, Need, needs_of}
use Rattle.report_write.specs.Writable.{IsWritableReport}
use Rattle.spec_model.specs.Consistent.{IsSatisfiable}
use Rattle.spec_model.specs.Spec.{Spec}
use Rattle.spec_model.specs.declared.question.Question.{Question}
use Rattle.spec_model.specs.declared.question.Question.TheVariants.{Consistent}
use Rattle.unit_questions.specs.Claims.{ClaimHolds}
use Rattle.unit_questions.specs.Units.{question_of}
use Rattle.core_explain.specs.declared.explaining.Explained.{Explained}
use Rattle.core_explain.specs.declared.explaining.Explained.TheVariants as explained

-- a verdict is the question's, and right; its claims are the units
pub record IsVerdict (s : Spec) (q : Question) (v : Verdict) : Type 0 where
  pub of_question : IsOneOf s q v
  pub right : IsRight s q v

-- a claim is the unit of that number, from 0 on, of the question's verdict
pub record IsUnit (s : Spec) (q : Question) (unit : ℕ) (need : Need) : Type 0 where
  pub verdict : Verdict
  pub is_verdict : IsVerdict s q verdict
  pub is_unit : slice_get (needs_of q verdict) unit ≡ Some need

-- a fact is a unit of the verdict of a consistent specification, and this explains it
pub record ExplainsUnit (s : Spec) (q : Question) (unit : ℕ) (needed : List Needed) : Type 0 where
  pub satisfiable : IsSatisfiable s
  pub need : Need
  pub is_unit : IsUnit s q unit need
  pub explains : IsExplanation s (ClaimHolds s.relations q need.claim) needed

-- there is no consistent completion, and this explains it
pub record ExplainsInconsistency (s : Spec) (needed : List Needed) : Type 0 where
  pub inconsistent : IsSatisfiable s → ⊥
  pub explains : IsExplanation s (λ c. ⊥) needed

-- a report shows a decided verdict of a consistent specification, which has no such unit
pub record HasNoUnit (s : Spec) (q : Question) (unit : ℕ) (report : Report) : Type 0 where
  pub shown : ShowsVerdict s q report
  pub right : IsRight s q report.verdict
  pub consistent : report.verdict ≢ Inconsistent
  pub none : slice_get (needs_of q report.verdict) unit ≡ None
  pub writable : IsWritableReport s.relations report

-- the question for the unit, or whether there is a consistent completion
abbrev pub IsTried : Spec → Question → ℕ → Question → Type 0
IsTried s q unit tried =
    (tried ≡ Consistent) ⊎ ((need : Need) × IsUnit s q unit need × (tried ≡ question_of s.relations q need.claim))

-- the budget is spent on such a question over a part
pub record IsSpentTrying (s : Spec) (q : Question) (unit budget : ℕ) (spent : Spent) : Type 0 where
  pub tried : Question
  pub is_tried : IsTried s q unit tried
  pub is_spent : IsSpentOn s tried budget spent

-- what explains inconsistency or a unit; that there is no such unit; that the query has too many answers; or that the budget is
-- spent, on the question itself, or on a part
abbrev pub IsExplained : Spec → Question → ℕ → ℕ → Explained → Type 0
IsExplained s q unit budget (explained.Inconsistent needed) = ExplainsInconsistency s needed
IsExplained s q unit budget (explained.Unit needed) = ExplainsUnit s q unit needed
IsExplained s q unit budget (explained.NoUnit report) = HasNoUnit s q unit report
IsExplained s q unit budget (explained.TooMany c) = HasTooMany s q c
IsExplained s q unit budget (explained.Undecided report) = IsSpent s q budget report
IsExplained s q unit budget (explained.Open spent) = IsSpentTrying s q unit budget spent
