-- True clauses, and logs whose steps make their clauses true.
use Rattle.std.specs.Prelude.{◌≡◌, ℕ, Bool, true, List, take, Contains, Some, slice_get}
use Rattle.currency_base.specs.declared.lit.Lit.{Lit}
use Rattle.refutation_log.specs.Steps.{clauses_of}
use Rattle.refutation_log.specs.Follows.{FollowsFrom}
use Rattle.refutation_log.specs.Counted.{holds}
use Rattle.refutation_log.specs.declared.step.Step.{Step}
use Rattle.refutation_log.specs.declared.step.Step.TheVariants.{Axiom, OnDemand, Learn}

-- a clause is true where a literal of it is
abbrev pub IsTrueBy : (Lit → Type 0) → List Lit → Type 0
IsTrueBy T clause = (lit : Lit) × Contains clause lit × T lit

-- a clause is true, where each variable has a truth
abbrev pub IsTrueUnder : (ℕ → Bool) → List Lit → Type 0
IsTrueUnder truth clause = IsTrueBy (λ lit. holds truth lit ≡ true) clause

-- a step is grounded after earlier clauses: as an axiom its clause is true, and else this follows from them with its hints
abbrev pub IsGrounded : (Lit → Type 0) → List (List Lit) → Step → Type 0
IsGrounded T earlier (Axiom label lits) = IsTrueBy T lits
IsGrounded T earlier (OnDemand label lits) = IsTrueBy T lits
IsGrounded T earlier (Learn lits hints counted) = FollowsFrom earlier lits hints

-- each step is grounded after the steps before it
abbrev pub AreGrounded : (Lit → Type 0) → List Step → Type 0
AreGrounded T steps = (place : ℕ) (step : Step) → slice_get steps place ≡ Some step
    → IsGrounded T (clauses_of (take place steps)) step
