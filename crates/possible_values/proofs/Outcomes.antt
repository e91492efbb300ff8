-- What is decided of the facts that candidates do not hold.
use Rattle.std.proofs.Common.{◌≡◌, ◌∙◌, ◌<◌, ℕ, All, List, get_or, length, sym, subst}
use Rattle.std.proofs.lemmas.Option.{get_or_from_slice_get, slice_get_within}
use Rattle.decided_facts.specs.Decided.{IsSpent}
use Rattle.posed_facts.specs.Facts.{IsPosable}
use Rattle.posed_facts.specs.Questions.{fact_question}
use Rattle.posed_facts.specs.declared.fact.Fact.{Fact}
use Rattle.report_model.specs.declared.report.Report.{Report}
use Rattle.decided_facts.specs.Decided.{AreShown, IsFactOutcome, IsOpenAt}
use Rattle.decided_facts.specs.declared.shown.FactOutcome.{FactOutcome}
use Rattle.decided_facts.specs.declared.shown.FactOutcome.TheVariants as outcome
use Rattle.decided_facts.specs.declared.shown.Shown.{Shown}
use Rattle.spec_model.specs.Completion.{Rankings}
use Rattle.spec_model.specs.Spec.{Spec}
use Rattle.possible_values.proofs.Lists.{item_has}

-- the outcome is that all facts are shown
pub are_shown : (s : Spec) (facts : List Fact) (budget : ℕ) (completions : List Rankings) (list : List Shown) (x : FactOutcome)
    → x ≡ outcome.All completions list → IsFactOutcome s facts budget x → AreShown s facts completions list
are_shown s facts budget completions list x is outcome_is = subst (IsFactOutcome s facts budget) is outcome_is

-- or that the budget is spent at a place
pub is_open : (s : Spec) (facts : List Fact) (budget place : ℕ) (report : Report) (x : FactOutcome)
    → x ≡ outcome.Open place report → IsFactOutcome s facts budget x → IsOpenAt s facts budget place report
is_open s facts budget place report x is outcome_is = subst (IsFactOutcome s facts budget) is outcome_is

-- the place is there
pub open_within : (s : Spec) (facts : List Fact) (budget place : ℕ) (report : Report) → IsOpenAt s facts budget place report
    → place < length facts
open_within s facts budget place report left = slice_get_within facts place left.fact left.is_fact

-- the fact that is read there can be asked for, and the budget is spent on its question
pub open_read : (s : Spec) (facts : List Fact) (budget place : ℕ) (report : Report) → IsOpenAt s facts budget place report
    → All (IsPosable s.relations) facts → (f : Fact) → f ≡ get_or facts place f
    → IsPosable s.relations f × IsSpent s (fact_question s.relations f) budget report
open_read s facts budget place report left all f read =
    let same : left.fact ≡ f = sym (get_or_from_slice_get facts place left.fact f left.is_fact) ∙ sym read in (
      subst (IsPosable s.relations) same (item_has (IsPosable s.relations) facts all place left.fact left.is_fact),
      subst (λ g. IsSpent s (fact_question s.relations g) budget report) same left.spent,
    )
