-- Accepted logs, and what fails first in one that is not.
use Rattle.std.specs.Prelude.{◌≡◌, ◌⊎◌, ℕ, true, false, List, length, take, Option, Some, slice_get}
use Rattle.currency_base.specs.declared.lit.Lit.{Lit}
use Rattle.query_model.specs.declared.query.Query.{Query}
use Rattle.spec_model.specs.Spec.{Spec}
use Rattle.refutation_log.specs.Follows.{FollowsFrom, IsUnknownHint, IsNoUnit, ComesToNoConflict}
use Rattle.refutation_log.specs.Steps.{clauses_of}
use Rattle.refutation_log.specs.declared.log.Log.{Log}
use Rattle.refutation_log.specs.declared.statement.Statement.{Statement}
use Rattle.refutation_log.specs.declared.step.Label.{Label}
use Rattle.refutation_log.specs.declared.step.Step.{Step}
use Rattle.refutation_log.specs.declared.step.Step.TheVariants.{Axiom, OnDemand, Learn}
use Rattle.log_axioms.specs.Axioms.{is_axiom}
use Rattle.log_axioms.specs.Posed.{Posed, posed_by}
use Rattle.log_checker.specs.declared.fault.LogFault.{LogFault}
use Rattle.log_checker.specs.declared.fault.LogFault.TheVariants.{NotAnAxiom, NotDerived, UnknownHint}

-- a step is accepted after earlier clauses: its literals are the clause of its label, or its clause follows from them with its
-- hints
abbrev pub IsAcceptedStep : Spec → Posed → List Statement → List (List Lit) → Step → Type 0
IsAcceptedStep s posed statements earlier (Axiom label lits) = is_axiom s posed statements label lits ≡ true
IsAcceptedStep s posed statements earlier (OnDemand label lits) = is_axiom s posed statements label lits ≡ true
IsAcceptedStep s posed statements earlier (Learn lits hints counted) = FollowsFrom earlier lits hints

-- steps are accepted: each is, after the steps before it
abbrev pub AreAccepted : Spec → Posed → List Statement → List Step → Type 0
AreAccepted s posed statements steps = (place : ℕ) (step : Step) → slice_get steps place ≡ Some step
    → IsAcceptedStep s posed statements (clauses_of (take place steps)) step

-- a log is accepted, where a query is asked or none is: its steps are
abbrev pub IsAccepted : Spec → Option Query → Log → Type 0
IsAccepted s query log = AreAccepted s (posed_by query log) log.statements log.steps

-- ---- what fails

-- the literals are not the clause of the label, or it has none
abbrev pub FailsAsAxiom : Spec → Posed → List Statement → ℕ → Label → List Lit → LogFault → Type 0
FailsAsAxiom s posed statements at label lits (NotAnAxiom step) = (step ≡ at) × (is_axiom s posed statements label lits ≡ false)
FailsAsAxiom s posed statements at label lits fault = ⊥

-- the clause does not follow: a hint before the last, at this place, leaves two literals open; or the last leaves one open or
-- there is none, and the place is the number of hints; or a hint is no earlier step
abbrev pub FailsToFollow : List (List Lit) → ℕ → List Lit → List ℕ → LogFault → Type 0
FailsToFollow earlier at lits hints (NotDerived step place) =
    (step ≡ at) × (IsNoUnit earlier lits hints place ⊎ (ComesToNoConflict earlier lits hints × (place ≡ length hints)))
FailsToFollow earlier at lits hints (UnknownHint step) = (step ≡ at) × ((place : ℕ) × IsUnknownHint earlier lits hints place)
FailsToFollow earlier at lits hints fault = ⊥

-- the step at a place fails after earlier clauses
abbrev pub FailsAt : Spec → Posed → List Statement → List (List Lit) → ℕ → Step → LogFault → Type 0
FailsAt s posed statements earlier at (Axiom label lits) fault = FailsAsAxiom s posed statements at label lits fault
FailsAt s posed statements earlier at (OnDemand label lits) fault = FailsAsAxiom s posed statements at label lits fault
FailsAt s posed statements earlier at (Learn lits hints counted) fault = FailsToFollow earlier at lits hints fault

-- what fails first of steps: those before are accepted, and the one at this place fails
pub record FailsFirst (s : Spec) (posed : Posed) (statements : List Statement) (steps : List Step)
    (fault : LogFault) : Type 0 where
  pub place : ℕ
  pub step : Step
  pub is_step : slice_get steps place ≡ Some step
  pub earlier : AreAccepted s posed statements (take place steps)
  pub fails : FailsAt s posed statements (clauses_of (take place steps)) place step fault

-- what fails first in a log
abbrev pub IsFirstFault : Spec → Option Query → Log → LogFault → Type 0
IsFirstFault s query log fault = FailsFirst s (posed_by query log) log.statements log.steps fault
