-- Counted, new and open: what a search that is cut off has done.
use Rattle.std.specs.Prelude.{◌≡◌, ◌≢◌, ◌⊎◌, ◌<◌, ℕ, Bool, true, false, List, [], take, All, Contains, Some, slice_get, not, if◌then◌else◌}
use Rattle.std.specs.List.{count_by}
use Rattle.currency_base.specs.Literals.{var_of, is_negative, negation}
use Rattle.currency_base.specs.declared.lit.Lit.{Lit}
use Rattle.refutation_log.specs.Steps.{clause_of, clauses_of, is_counted}
use Rattle.refutation_log.specs.declared.step.Step.{Step}
use Rattle.refutation_log.specs.declared.step.Step.TheVariants.{Axiom, OnDemand, Learn}

-- ---- partial truths: the literals that are true, none beside its negation; a literal is open where neither it nor its
-- negation is true

-- no literal is true together with its negation
abbrev pub IsConsistent : List Lit → Type 0
IsConsistent truths = (lit : Lit) → Contains truths lit → Contains truths (negation lit) → ⊥

-- neither true nor false
pub record IsOpen (truths : List Lit) (lit : Lit) : Type 0 where
  pub not_true : Contains truths lit → ⊥
  pub not_false : Contains truths (negation lit) → ⊥

-- a literal of the clause is true
pub record HasTrue (truths clause : List Lit) : Type 0 where
  pub lit : Lit
  pub is_in : Contains clause lit
  pub is_true : Contains truths lit

-- two different literals of the clause are open
pub record HasTwoFree (truths clause : List Lit) : Type 0 where
  pub first : Lit
  pub second : Lit
  pub differ : first ≢ second
  pub first_in : Contains clause first
  pub second_in : Contains clause second
  pub first_open : IsOpen truths first
  pub second_open : IsOpen truths second

-- unit propagation over the clause is at rest: it has a true literal or two open ones
abbrev pub IsAtRest : List Lit → List Lit → Type 0
IsAtRest truths clause = HasTrue truths clause ⊎ HasTwoFree truths clause

-- one literal of the clause is open, and all others are false
pub record IsUnit (truths clause : List Lit) (lit : Lit) : Type 0 where
  pub is_in : Contains clause lit
  pub is_open : IsOpen truths lit
  pub others : (other : Lit) → Contains clause other → other ≢ lit → Contains truths (negation other)

-- unit propagation over the earlier clauses does not give the clause: it is at rest on each of them under a partial truth
-- that leaves one literal of the clause open and makes all others false
pub record IsUnseen (earlier : List (List Lit)) (clause : List Lit) : Type 0 where
  pub truths : List Lit
  pub consistent : IsConsistent truths
  pub lit : Lit
  pub unit : IsUnit truths clause lit
  pub at_rest : All (IsAtRest truths) earlier

-- ---- truths of all statements

-- a literal is true, where each variable has a truth
abbrev pub holds : (ℕ → Bool) → Lit → Bool
holds truth lit = if is_negative lit then not (truth (var_of lit)) else truth (var_of lit)

-- the earlier clauses do not imply the clause: some truth of all statements makes each of them true and it false
pub record IsUnimplied (earlier : List (List Lit)) (clause : List Lit) : Type 0 where
  pub truth : ℕ → Bool
  pub earlier_true : All (λ c. (lit : Lit) × Contains c lit × (holds truth lit ≡ true)) earlier
  pub clause_false : (lit : Lit) → Contains clause lit → holds truth lit ≡ false

-- ---- new steps

-- the clause has a literal, none beside its negation, and no earlier clause is a subset of it
pub record IsFresh (earlier : List (List Lit)) (clause : List Lit) : Type 0 where
  pub not_empty : clause ≢ []
  pub no_opposites : IsConsistent clause
  pub no_subset : (c : List Lit) → Contains earlier c → ((lit : Lit) → Contains c lit → Contains clause lit) → ⊥

-- a step is new after earlier clauses; an axiom that is not brought in by the search never is
abbrev pub IsNew : List (List Lit) → Step → Type 0
IsNew earlier (Axiom label lits) = ⊥
IsNew earlier (OnDemand label lits) = IsUnimplied earlier lits × IsFresh earlier lits
IsNew earlier (Learn lits hints counted) = IsUnseen earlier lits × IsFresh earlier lits

-- each counted step is new after the steps before it
abbrev pub CountedAreNew : List Step → Type 0
CountedAreNew steps = (place : ℕ) (step : Step) → slice_get steps place ≡ Some step → is_counted step ≡ true
    → IsNew (clauses_of (take place steps)) step

-- how many steps are counted
abbrev pub counted_steps : List Step → ℕ
counted_steps steps = count_by is_counted steps

-- a log is open: under some partial truth, unit propagation is at rest on the clause of each step, so that it does not
-- refute the log
pub record IsOpenLog (steps : List Step) : Type 0 where
  pub truths : List Lit
  pub consistent : IsConsistent truths
  pub at_rest : All (IsAtRest truths) (clauses_of steps)

-- the variables of each step's literals are among so many statements
abbrev pub AreWithin : ℕ → List Step → Type 0
AreWithin statements steps = All (λ step. All (λ lit. var_of lit < statements) (clause_of step)) steps
