-- What is found of facts: in which listed completion each fails, or that it holds in every consistent one.
use Rattle.std.specs.Prelude.{◌≡◌, ◌<◌, ℕ, List, All, Some, length, slice_get}
pub use Rattle.fact_trials.specs.Trials.{HasTooMany, IsAnswerWithin, IsSpent, TooMany}
use Rattle.posed_facts.specs.Facts.{FactIn}
use Rattle.posed_facts.specs.Questions.{fact_question}
use Rattle.posed_facts.specs.declared.fact.Fact.{Fact}
use Rattle.report_model.specs.declared.report.Report.{Report}
use Rattle.report_verify.specs.Right.{EachConsistent}
use Rattle.spec_model.specs.Completion.{Rankings}
use Rattle.spec_model.specs.Consistent.{IsConsistent}
use Rattle.spec_model.specs.Spec.{Spec}
use Rattle.spec_model.specs.declared.relation.Relation.{Relation}
use Rattle.decided_facts.specs.declared.shown.FactOutcome.{FactOutcome}
use Rattle.decided_facts.specs.declared.shown.FactOutcome.TheVariants as outcome
use Rattle.decided_facts.specs.declared.shown.Shown.{Shown}
use Rattle.decided_facts.specs.declared.shown.Shown.TheVariants as shown

-- a fact fails in the listed completion of a place
pub record FailsAt (relations : List Relation) (completions : List Rankings) (f : Fact) (place : ℕ) : Type 0 where
  pub completion : Rankings
  pub is_there : slice_get completions place ≡ Some completion
  pub fails : FactIn relations f completion → ⊥

-- it holds in every consistent completion, or fails in a listed one
abbrev pub IsShown : Spec → List Rankings → Fact → Shown → Type 0
IsShown s completions f shown.Holds = EachConsistent s (FactIn s.relations f)
IsShown s completions f (shown.FailsIn place) = FailsAt s.relations completions f place

-- the listed completions are consistent and not none, and of each fact it is shown in which it fails, if it does in any
pub record AreShown (s : Spec) (facts : List Fact) (completions : List Rankings) (list : List Shown) : Type 0 where
  pub consistent : All (IsConsistent s) completions
  pub some : 0 < length completions
  pub per_fact : length list ≡ length facts
  pub each : (k : ℕ) (f : Fact) (x : Shown) → slice_get facts k ≡ Some f → slice_get list k ≡ Some x
      → IsShown s completions f x

-- the budget is spent on the question for the fact of a place
pub record IsOpenAt (s : Spec) (facts : List Fact) (budget place : ℕ) (report : Report) : Type 0 where
  pub fact : Fact
  pub is_fact : slice_get facts place ≡ Some fact
  pub spent : IsSpent s (fact_question s.relations fact) budget report

abbrev pub IsFactOutcome : Spec → List Fact → ℕ → FactOutcome → Type 0
IsFactOutcome s facts budget (outcome.All completions list) = AreShown s facts completions list
IsFactOutcome s facts budget (outcome.Open place report) = IsOpenAt s facts budget place report
