-- The assignments that make all axioms true are the truths in the consistent completions.
use Rattle.std.proofs.Common.{◌≡◌, ℕ, Bool, true, false, not, List, Some, slice_get, sym, subst}
use Rattle.std.proofs.lemmas.List.Elements.{All-map, All-weaker}
use Rattle.currency_base.specs.declared.lit.Lit.{Lit}
use Rattle.spec_model.specs.Completion.{Rankings}
use Rattle.spec_model.specs.Consistent.{IsConsistent}
use Rattle.spec_model.specs.Facts.{IsSpecification}
use Rattle.spec_model.specs.Spec.{Spec}
use Rattle.refutation_log.specs.Steps.{clause_of}
use Rattle.refutation_log.specs.declared.statement.Statement.{Statement}
use Rattle.refutation_log.specs.declared.statement.Statement.TheVariants as says
use Rattle.refutation_log.specs.declared.step.Label.{Label}
use Rattle.refutation_log.specs.declared.step.Step.{Step}
use Rattle.order_literals.proofs.Deciding.{said_exclude}
use Rattle.order_literals.specs.Numbers.{numbers_of}
use Rattle.order_literals.specs.Said.{IsClauseTrue, positive}
use Rattle.order_literals.specs.Truth.{Holds, IsTruth}
use Rattle.order_literals.specs.declared.wanted.Wanted.{Wanted}
use Rattle.order_clauses.specs.Clauses.{IsAskedStep, IsAxiomStep, IsTransitiveStep}
use Rattle.order_adequacy.proofs.Adequacy as adequacy
use Rattle.order_adequacy.proofs.OrderAxioms.{RulesByInstances}
use Rattle.order_adequacy.proofs.Saids.{as_assigned, said}
use Rattle.order_adequacy.specs.Laws.{IsModelOf, passing, said_answers, variables}
use Rattle.axiom_models.specs.Models.{AllAxioms, AreAllAxioms, AssignmentsAreCompletions, CompletionsHaveAssignments, IsModelOfOne, MakesTrue}
use Rattle.axiom_models.proofs.Ranking.{assignments_rank}

-- a model is one of no other completion
pub model_of_one : (s : Spec) (wanted : Wanted) → IsSpecification s → (truths : List Bool) (c : Rankings)
    → IsModelOf s wanted truths c → IsModelOfOne s wanted truths c
model_of_one s wanted facts truths c model = record {
  model = model;
  one = λ d other.
      adequacy.models_are_one (said_answers s wanted truths) (said_answers s wanted truths) s wanted facts truths d c
      other.consistent other.truth model.consistent model.truth;
}

pub assignments_are_completions : RulesByInstances → AssignmentsAreCompletions
assignments_are_completions by_instances s wanted facts axioms are truths makes =
    let found = assignments_rank s wanted facts truths makes.per_variable axioms.of_list are.of_list makes.of_list in (
      found.0,
      model_of_one s wanted facts truths found.0
          (adequacy.models_are_completions by_instances s wanted facts axioms.started are.started truths makes.per_variable
          makes.started found.0 found.1),
    )

-- ---- the other way

-- a truth is one where the answers are those that it says
pub own_answers : (s : Spec) (wanted : Wanted) (c : Rankings) (answers : ℕ → Type 0) (truths : List Bool)
    → IsTruth s.relations c answers (variables s wanted) truths
    → IsTruth s.relations c (said_answers s wanted truths) (variables s wanted) truths
own_answers s wanted c answers truths truth = record {
  per_variable = truth.per_variable;
  each = λ var x value at is. by var x value at is (truth.each var x value at is);
}
  where
    by : (var : ℕ) (x : Statement) (value : Bool) → slice_get (variables s wanted) var ≡ Some x
        → slice_get truths var ≡ Some value → Holds s.relations c answers (said x (not value))
        → Holds s.relations c (said_answers s wanted truths) (said x (not value))
    by var (says.Before rel attr a b) true at is holds = holds
    by var (says.Before rel attr a b) false at is holds = holds
    by var (says.Top rel attr row) true at is holds = holds
    by var (says.Top rel attr row) false at is holds = holds
    by var (says.Last rel attr row) true at is holds = holds
    by var (says.Last rel attr row) false at is holds = holds
    by var (says.Answer tuple) true at is holds = as_assigned (variables s wanted) truths var (says.Answer tuple) true at is
    by var (says.Answer tuple) false at is holds = λ put.
        said_exclude (numbers_of s.relations wanted) truths (positive (says.Answer tuple)) put
        (as_assigned (variables s wanted) truths var (says.Answer tuple) false at is)

-- the truth of the statements in a consistent completion makes all axioms true
pub makes_true : RulesByInstances → (answers : ℕ → Type 0) (s : Spec) (wanted : Wanted) → IsSpecification s
    → (axioms : AllAxioms) → AreAllAxioms s wanted axioms → (c : Rankings) → IsConsistent s c → (truths : List Bool)
    → IsTruth s.relations c answers (variables s wanted) truths → MakesTrue s wanted axioms truths
makes_true by_instances answers s wanted facts axioms are c consistent truths truth = record {
  per_variable = truth.per_variable;
  started = All-map (IsClauseTrue truths) clause_of axioms.started
      (All-weaker (IsAskedStep s wanted.currents (variables s wanted)) (λ taken. IsClauseTrue truths (clause_of taken))
      (λ taken asked. step_true asked.label asked.lits taken asked.step) axioms.started are.started.each);
  of_list = λ rel attr ent r is.
      All-map (IsClauseTrue truths) clause_of (axioms.of_list rel attr ent)
      (All-weaker (IsTransitiveStep s (variables s wanted) rel attr ent) (λ taken. IsClauseTrue truths (clause_of taken))
      (λ taken three. step_true _ three.lits taken three.step) (axioms.of_list rel attr ent)
      (are.of_list rel attr ent r is).each);
}
  where
    step_true : (l : Label) (lits : List Lit) (taken : Step) → IsAxiomStep s (variables s wanted) l lits taken
        → IsClauseTrue truths (clause_of taken)
    step_true l lits taken is =
        subst (λ (x : Step). IsClauseTrue truths (clause_of x)) (sym is.is_step)
        (adequacy.truths_are_models by_instances answers s wanted facts c consistent truths truth l lits taken is)

pub completions_have_assignments : RulesByInstances → CompletionsHaveAssignments
completions_have_assignments by_instances s wanted facts axioms are c consistent =
    let none : ℕ → Bool = λ tuple. false in
    let there = adequacy.truths_are_there none s.relations c (variables s wanted) in (
      there.0,
      makes_true by_instances (passing none) s wanted facts axioms are c consistent there.0 there.1,
      model_of_one s wanted facts there.0 c
          (record { consistent = consistent; truth = own_answers s wanted c (passing none) there.0 there.1 }),
    )
