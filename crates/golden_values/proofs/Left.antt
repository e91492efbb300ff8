-- The fact on which the budget is spent.
use Rattle.std.proofs.Common.{◌≡◌, ◌∙◌, ◌<◌, ℕ, All, List, get_or, length, sym, subst}
use Rattle.std.proofs.lemmas.Option.{get_or_from_slice_get, slice_get_within}
use Rattle.fact_trials.specs.Trials.{IsSpent}
use Rattle.posed_facts.specs.Facts.{IsPosable}
use Rattle.posed_facts.specs.Questions.{fact_question}
use Rattle.posed_facts.specs.declared.fact.Fact.{Fact}
use Rattle.report_model.specs.declared.report.Report.{Report}
use Rattle.decided_facts.specs.Decided.{IsFactOutcome, IsOpenAt}
use Rattle.decided_facts.specs.declared.shown.FactOutcome.{FactOutcome}
use Rattle.decided_facts.specs.declared.shown.FactOutcome.TheVariants as outcome
use Rattle.spec_model.specs.Spec.{Spec}
use Rattle.golden_values.proofs.Lists.{item_has}

-- the outcome is that the budget is spent at a place
pub is_open : (s : Spec) (facts : List Fact) (budget place : ℕ) (report : Report) (x : FactOutcome)
    → x ≡ outcome.Open place report → IsFactOutcome s facts budget x → IsOpenAt s facts budget place report
is_open s facts budget place report x is outcome = subst (IsFactOutcome s facts budget) is outcome

-- the place is there
pub open_within : (s : Spec) (facts : List Fact) (budget place : ℕ) (report : Report) → IsOpenAt s facts budget place report
    → place < length facts
open_within s facts budget place report left = slice_get_within facts place left.fact left.is_fact

-- what is read at its place is that fact
open_read : (s : Spec) (facts : List Fact) (budget place : ℕ) (report : Report)
    → (left : IsOpenAt s facts budget place report) → (f : Fact) → f ≡ get_or facts place f → left.fact ≡ f
open_read s facts budget place report left f read =
    sym (get_or_from_slice_get facts place left.fact f left.is_fact) ∙ sym read

-- the budget is spent on its question
pub open_spent : (s : Spec) (facts : List Fact) (budget place : ℕ) (report : Report) → IsOpenAt s facts budget place report
    → (f : Fact) → f ≡ get_or facts place f → IsSpent s (fact_question s.relations f) budget report
open_spent s facts budget place report left f read =
    subst (λ g. IsSpent s (fact_question s.relations g) budget report) (open_read s facts budget place report left f read)
    left.spent

-- it can be asked for
pub open_posable : (s : Spec) (facts : List Fact) (budget place : ℕ) (report : Report) → IsOpenAt s facts budget place report
    → All (IsPosable s.relations) facts → (f : Fact) → f ≡ get_or facts place f → IsPosable s.relations f
open_posable s facts budget place report left all f read =
    subst (IsPosable s.relations) (open_read s facts budget place report left f read)
    (item_has (IsPosable s.relations) facts all place left.fact left.is_fact)
