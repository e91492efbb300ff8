-- Accepted logs are grounded, and what is grounded is true.
use Rattle.std.proofs.Common.{◌≡◌, inl, true, arith, ℕ, List, [], take, All, Contains}
use Rattle.std.proofs.lemmas.List.Elements.{All-weaker, All-contains}
use Rattle.currency_base.specs.declared.lit.Lit.{Lit}
use Rattle.spec_model.specs.Spec.{Spec}
use Rattle.spec_model.specs.Facts.{IsSpecification}
use Rattle.spec_model.specs.Completion.{Rankings}
use Rattle.spec_model.specs.Consistent.{IsConsistent}
use Rattle.refutation_log.specs.Steps.{clauses_of}
use Rattle.refutation_log.specs.declared.statement.Statement.{Statement}
use Rattle.refutation_log.specs.declared.step.Label.{Label}
use Rattle.refutation_log.specs.declared.step.Step.{Step}
use Rattle.refutation_log.specs.declared.step.Step.TheVariants.{Axiom, OnDemand, Learn}
use Rattle.log_laws.specs.Truths.{IsTrueBy, IsGrounded}
use Rattle.log_laws.proofs.Sound.{IsTruth, grounded_all_true}
use Rattle.log_axioms.specs.Axioms.{is_axiom}
use Rattle.log_axioms.specs.Posed.{AreAnswersOver, AreDecided, Posed, passing, posed_by}
use Rattle.log_axioms.specs.Truth.{ClauseHolds, LitHolds}
use Rattle.axiom_laws.proofs.Sound.{axiom_true}
use Rattle.axiom_laws.proofs.Truths.{decided, negated, tests_decide}
use Rattle.log_checker.specs.Accepted.{AreAccepted, IsAcceptedStep}
use Rattle.answer_laws.proofs.Instances.{some_instance}
use Rattle.checked_logs.specs.Sound.{AcceptedAreTrue, AcceptedAreTrueOver, EmptyMeansNone}

module _ (answers : ℕ → Type 0) (are : AreDecided answers) (s : Spec) (facts : IsSpecification s) (c : Rankings)
    (consistent : IsConsistent s c)
    (posed : Posed) (over : AreAnswersOver s.relations posed c answers) (statements : List Statement) where
  abbrev Holds : Lit → Type 0
  Holds lit = LitHolds s.relations c answers statements lit

  is_truth : IsTruth Holds
  is_truth = record {
    decided = decided answers are s.relations c statements;
    consistent = negated answers
        s.relations c statements;
  }

  axiom_is_true : (l : Label) (lits : List Lit) → is_axiom s posed statements l lits ≡ true → IsTrueBy Holds lits
  axiom_is_true l lits e =
      let holds = axiom_true answers s facts c consistent posed over statements l lits e in (
        holds.lit,
        holds.is_in,
        holds.is_true,
      )

  step_is_grounded : (earlier : List (List Lit)) (step : Step) → IsAcceptedStep s posed statements earlier step
      → IsGrounded Holds earlier step
  step_is_grounded earlier (Axiom l lits) e = axiom_is_true l lits e
  step_is_grounded earlier (OnDemand l lits) e = axiom_is_true l lits e
  step_is_grounded earlier (Learn lits hints counted) from = from

  all_true : (steps : List Step) → AreAccepted s posed statements steps → All (IsTrueBy Holds) (clauses_of steps)
  all_true steps accepted =
      grounded_all_true Holds is_truth steps
      (λ place step at. step_is_grounded (clauses_of (take place steps)) step (accepted place step at))

  clause_holds : (clause : List Lit) → IsTrueBy Holds clause → ClauseHolds s.relations c answers statements clause
  clause_holds clause is = record { lit = is.0; is_in = is.1; is_true = is.2 }

pub accepted_are_true : (answers : ℕ → Type 0) → AreDecided answers → AcceptedAreTrueOver answers
accepted_are_true answers are s facts c consistent query log over accepted =
    All-weaker (IsTrueBy (LitHolds s.relations c answers log.statements)) (ClauseHolds s.relations c answers log.statements)
    (clause_holds answers are s facts c consistent (posed_by query log) over log.statements) (clauses_of log.steps)
    (all_true answers are s facts c consistent (posed_by query log) over log.statements log.steps accepted)

pub accepted_are_true_by_test : AcceptedAreTrue
accepted_are_true_by_test answers = accepted_are_true (passing answers) (tests_decide answers)

-- whatever is an answer, all tuples may be taken for answers
abbrev every : ℕ → Type 0
every place = Unit {0}

pub empty_means_none : EmptyMeansNone
empty_means_none s facts query log accepted empty satisfiable =
    let c = satisfiable.0 in
    let instance = some_instance s.relations facts.relations.each c satisfiable.1.completion in
    let over : AreAnswersOver s.relations (posed_by query log) c every = record {
      instance = instance.0;
      is_current = instance.1;
      complete = λ q place tuple asked there answers. tt;
    } in
    let all = accepted_are_true every (λ place. inl tt) s facts c satisfiable.1 query log over accepted in
    let holds = All-contains (ClauseHolds s.relations c every log.statements) (clauses_of log.steps) [] all empty in
    no_member holds.lit holds.is_in
  where
    no_member : (lit : Lit) → Contains [] lit → ⊥
    no_member lit there = absurd (let below = there.1 in omega arith)
