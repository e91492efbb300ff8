-- What becomes of a log is determined.
use Rattle.std.proofs.Common.{◌≡◌, ◌⊎◌, inl, inr, ◌∙◌, sym, ap, subst, ◌<◌, ℕ, true, List, length, take, Some, slice_get, Result, Ok, Err, IfErr, arith}
use Rattle.std.proofs.lemmas.Bool.{cases_order, both_ways}
use Rattle.currency_base.specs.declared.lit.Lit.{Lit}
use Rattle.spec_model.specs.Spec.{Spec}
use Rattle.refutation_log.specs.Follows.{FollowsFrom, IsNoUnit, ComesToNoConflict, IsUnknownHint}
use Rattle.refutation_log.specs.Steps.{clauses_of}
use Rattle.refutation_log.specs.declared.statement.Statement.{Statement}
use Rattle.refutation_log.specs.declared.step.Label.{Label}
use Rattle.refutation_log.specs.declared.step.Step.{Step}
use Rattle.refutation_log.specs.declared.step.Step.TheVariants.{Axiom, OnDemand, Learn}
use Rattle.log_replay.specs.Replays.{IsStepRefusal}
use Rattle.log_replay.specs.declared.fault.StepFault.{StepFault}
use Rattle.log_replay.specs.declared.fault.StepFault.TheVariants as cause
use Rattle.log_replay.proofs.OneEnd.{follows_not_refused, one_refusal}
use Rattle.log_axioms.specs.Axioms.{is_axiom}
use Rattle.log_axioms.specs.Posed.{Posed}
use Rattle.log_checker.specs.Accepted.{AreAccepted, IsAcceptedStep, FailsFirst, FailsAt, FailsAsAxiom, FailsToFollow}
use Rattle.log_checker.specs.declared.fault.LogFault.{LogFault}
use Rattle.log_checker.specs.declared.fault.LogFault.TheVariants.{NotAnAxiom, NotDerived, UnknownHint, NoMemory}
use Rattle.log_checker.specs.Shown.{Shown}
use Rattle.log_checker.proofs.Judged.{take_front, within_front}

module _ (s : Spec) (posed : Posed) (statements : List Statement) where
  -- ---- one step

  axiom_fails : (at : ℕ) (l : Label) (lits : List Lit) (fault : LogFault) → is_axiom s posed statements l lits ≡ true
      → FailsAsAxiom s posed statements at l lits fault → ⊥
  axiom_fails at l lits (NotAnAxiom step) passed fails = both_ways (is_axiom s posed statements l lits) fails.1 passed
  axiom_fails at l lits (NotDerived step place) passed fails = fails
  axiom_fails at l lits (UnknownHint step) passed fails = fails
  axiom_fails at l lits NoMemory passed fails = fails

  follow_fails : (earlier : List (List Lit)) (at : ℕ) (lits : List Lit) (hints : List ℕ) (fault : LogFault)
      → FollowsFrom earlier lits hints
      → FailsToFollow earlier at lits hints fault → ⊥
  follow_fails earlier at lits hints (NotAnAxiom step) from fails = fails
  follow_fails earlier at lits hints (NotDerived step place) from fails =
      elim fails.1 [
        | inl unit ↦ follows_not_refused earlier lits hints (cause.NotUnit place) from unit
        | inr none ↦ follows_not_refused earlier lits hints cause.NoConflict from none.0
      ]
  follow_fails earlier at lits hints (UnknownHint step) from fails = follows_not_refused earlier lits hints
      (cause.UnknownHint fails.1.0) from fails.1.1
  follow_fails earlier at lits hints NoMemory from fails = fails

  step_fails : (earlier : List (List Lit)) (at : ℕ) (step : Step) (fault : LogFault) → IsAcceptedStep s posed
      statements earlier step
      → FailsAt s posed statements earlier at step fault → ⊥
  step_fails earlier at (Axiom l lits) fault passed fails = axiom_fails at l lits fault passed fails
  step_fails earlier at (OnDemand l lits) fault passed fails = axiom_fails at l lits fault passed fails
  step_fails earlier at (Learn lits hints counted) fault passed fails = follow_fails earlier at lits hints fault passed fails

  same_axiom_fault : (at : ℕ) (l : Label) (lits : List Lit) (one other : LogFault) → FailsAsAxiom s posed statements at l lits one
      → FailsAsAxiom s posed statements at l lits other → one ≡ other
  same_axiom_fault at l lits (NotAnAxiom m) (NotAnAxiom n) f g = ap NotAnAxiom (f.0 ∙ sym g.0)
  same_axiom_fault at l lits (NotAnAxiom m) (NotDerived n place) f g = absurd g
  same_axiom_fault at l lits (NotAnAxiom m) (UnknownHint n) f g = absurd g
  same_axiom_fault at l lits (NotAnAxiom m) NoMemory f g = absurd g
  same_axiom_fault at l lits (NotDerived m place) other f g = absurd f
  same_axiom_fault at l lits (UnknownHint m) other f g = absurd f
  same_axiom_fault at l lits NoMemory other f g = absurd f

  not_derived : (m n p q : ℕ) → m ≡ n → p ≡ q → NotDerived m p ≡ NotDerived n q
  not_derived m n p q e h = ap (λ k. NotDerived k p) e ∙ ap (NotDerived n) h

  module _ (earlier : List (List Lit)) (lits : List Lit) (hints : List ℕ) where
    same_cause : (one other : StepFault) → IsStepRefusal earlier lits hints one → IsStepRefusal earlier lits hints
        other → one ≡ other
    same_cause one other f g = one_refusal earlier lits hints one other f g

    same_place : (p q : ℕ) → (IsNoUnit earlier lits hints p ⊎ (ComesToNoConflict earlier lits hints × (p ≡ length hints)))
        → (IsNoUnit earlier lits hints q ⊎ (ComesToNoConflict earlier lits hints × (q ≡ length hints))) → p ≡ q
    same_place p q (inl f) (inl g) = let same = same_cause (cause.NotUnit p) (cause.NotUnit q) f g in cc
    same_place p q (inl f) (inr g) = absurd (let same = same_cause (cause.NotUnit p) cause.NoConflict f g.0 in cc)
    same_place p q (inr f) (inl g) = absurd (let same = same_cause cause.NoConflict (cause.NotUnit q) f.0 g in cc)
    same_place p q (inr f) (inr g) = f.1 ∙ sym g.1

    not_unknown : (p q : ℕ) → (IsNoUnit earlier lits hints p ⊎ (ComesToNoConflict earlier lits hints × (p ≡ length hints)))
        → IsUnknownHint earlier lits hints q → ⊥
    not_unknown p q (inl f) g = absurd (let same = same_cause (cause.NotUnit p) (cause.UnknownHint q) f g in cc)
    not_unknown p q (inr f) g = absurd (let same = same_cause cause.NoConflict (cause.UnknownHint q) f.0 g in cc)

    same_follow_fault : (at : ℕ) (one other : LogFault) → FailsToFollow earlier at lits hints one
        → FailsToFollow earlier at lits hints other → one ≡ other
    same_follow_fault at (NotAnAxiom m) other f g = absurd f
    same_follow_fault at (NotDerived m p) (NotAnAxiom n) f g = absurd g
    same_follow_fault at (NotDerived m p) (NotDerived n q) f g = not_derived m n p q (f.0 ∙ sym g.0) (same_place p q f.1 g.1)
    same_follow_fault at (NotDerived m p) (UnknownHint n) f g = absurd (not_unknown p g.1.0 f.1 g.1.1)
    same_follow_fault at (NotDerived m p) NoMemory f g = absurd g
    same_follow_fault at (UnknownHint m) (NotAnAxiom n) f g = absurd g
    same_follow_fault at (UnknownHint m) (NotDerived n q) f g = absurd (not_unknown q f.1.0 g.1 f.1.1)
    same_follow_fault at (UnknownHint m) (UnknownHint n) f g = ap UnknownHint (f.0 ∙ sym g.0)
    same_follow_fault at (UnknownHint m) NoMemory f g = absurd g
    same_follow_fault at NoMemory other f g = absurd f

  same_fault : (earlier : List (List Lit)) (at : ℕ) (step : Step) (one other : LogFault) → FailsAt s posed statements
      earlier at step one
      → FailsAt s posed statements earlier at step other → one ≡ other
  same_fault earlier at (Axiom l lits) one other f g = same_axiom_fault at l lits one other f g
  same_fault earlier at (OnDemand l lits) one other f g = same_axiom_fault at l lits one other f g
  same_fault earlier at (Learn lits hints counted) one other f g = same_follow_fault earlier lits hints at one other f g

  -- ---- a log

  pub accepted_has_no_fault : (steps : List Step) (fault : LogFault) → AreAccepted s posed statements steps
      → FailsFirst s posed statements steps fault → ⊥
  accepted_has_no_fault steps fault accepted first =
      step_fails (clauses_of (take first.place steps)) first.place first.step fault
      (accepted first.place first.step first.is_step) first.fails

  -- where the steps before a later place are accepted, no earlier one fails
  earlier_fails : (steps : List Step) (one other : LogFault) (f : FailsFirst s posed statements steps one)
      (g : FailsFirst s posed statements steps other)
      → f.place < g.place → ⊥
  earlier_fails steps one other f g below =
      let at : slice_get (take g.place steps) f.place ≡ Some f.step = within_front steps g.place f.place f.step below f.is_step in
      let front : take f.place (take g.place steps) ≡ take f.place steps = take_front steps g.place f.place (omega arith) in
      step_fails (clauses_of (take f.place steps)) f.place f.step one
      (subst (λ ys. IsAcceptedStep s posed statements (clauses_of ys) f.step) front (g.earlier f.place f.step at)) f.fails

  at_one_place : (steps : List Step) (one other : LogFault) (f : FailsFirst s posed statements steps one)
      (g : FailsFirst s posed statements steps other)
      → f.place ≡ g.place → one ≡ other
  at_one_place steps one other f g same =
      let step : f.step ≡ g.step = (let both : Some f.step ≡ Some g.step = sym f.is_step ∙ ap (slice_get steps) same
      ∙ g.is_step in cc) in
      let fails : FailsAt s posed statements (clauses_of (take f.place steps)) f.place f.step other =
      subst (λ x. FailsAt s posed statements (clauses_of (take f.place steps)) f.place x other) (sym step)
      (subst (λ n. FailsAt s posed statements (clauses_of (take n steps)) n g.step other) (sym same) g.fails) in
      same_fault (clauses_of (take f.place steps)) f.place f.step one other f.fails fails

  pub one_first_fault : (steps : List Step) (one other : LogFault) → FailsFirst s posed statements steps one
      → FailsFirst s posed statements steps other → one ≡ other
  one_first_fault steps one other f g =
      elim (cases_order f.place g.place) [
        | inl same ↦ at_one_place steps one other f g same
        | inr (inl below) ↦ absurd (earlier_fails steps one other f g below)
        | inr (inr above) ↦ absurd (earlier_fails steps other one g f above)
      ]

  -- of an accepted log no fault but want of memory is told
  pub no_fault_where_accepted : (steps : List Step) (outcome : Result Shown LogFault) → AreAccepted s posed statements steps
      → IfErr outcome (λ (e : LogFault). (e ≡ NoMemory) ⊎ FailsFirst s posed statements steps e) → IfErr outcome
      (λ (e : LogFault). e ≡ NoMemory)
  no_fault_where_accepted steps (Ok shown) accepted refused = refused
  no_fault_where_accepted steps (Err fault) accepted refused =
      elim refused [ inl e ↦ e | inr first ↦ absurd (accepted_has_no_fault steps fault accepted first) ]
