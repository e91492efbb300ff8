-- What a decision of the solver shows.
use Rattle.std.specs.Prelude.{◌≡◌, ◌+◌, ◌<◌, ◌≤◌, ℕ, Bool, true, false, if◌then◌else◌, List, ◌∷◌, ◌++◌, [], All, Contains, Option, Some, None, IfSome, length, take, slice_get, slice_index_or}
use Rattle.currency_base.specs.Literals.{negation}
use Rattle.currency_base.specs.declared.lit.Lit.{Lit}
use Rattle.search_trail.specs.Trails.{AreEntries, HasNoFree, Trail, lits_of, values_of, whole_scope}
use Rattle.refutation_log.specs.Steps.{clause_of, clauses_of, is_counted}
use Rattle.refutation_log.specs.Follows.{FollowsFrom}
use Rattle.refutation_log.specs.Counted.{IsAtRest, IsNew, holds}
use Rattle.refutation_log.specs.declared.step.Label.{Label}
use Rattle.refutation_log.specs.declared.step.Step.{Step}
use Rattle.refutation_log.specs.declared.step.Step.TheVariants.{Axiom, OnDemand, Learn}
use Rattle.lean_hints.specs.Lean.{AreLean}
use Rattle.conflict_analysis.specs.Analyses.{lits_below}
use Rattle.search_state.specs.States.{Frame, IsFit}
use Rattle.watch_solver.specs.declared.found.Found.{Found}
use Rattle.watch_solver.specs.declared.found.Found.TheVariants.{Model, Proved, Empty, Spent}

-- the frame and the steps of the log; the trail; and whether a call was refused memory
pub record Solver : Type 0 where
  pub frame : Frame
  pub steps : List Step
  pub trail : Trail
  pub failed : Bool

-- ---- steps that are added

-- a step that is learned after earlier clauses: it follows with its hints, no literal and no hint twice, and each hint but the
-- last adds a literal; and it is new if it is counted
abbrev pub IsLearnedAfter : ℕ → List (List Lit) → Step → Type 0
IsLearnedAfter vars earlier (Axiom label lits) = ⊥
IsLearnedAfter vars earlier (OnDemand label lits) = ⊥
IsLearnedAfter vars earlier (Learn lits hints counted) =
    FollowsFrom earlier lits hints × IsFit vars lits × AreLean earlier lits hints ×
    (counted ≡ true → IsNew earlier (Learn lits hints counted))

-- steps were added; each was learned after those before it, each but the last is counted, and one that is not counted has at
-- most one literal
pub record HasGrown (vars : ℕ) (old new : List Step) : Type 0 where
  pub added : List Step
  pub steps : new ≡ old ++ added
  pub learned : (place : ℕ) (step : Step) → length old ≤ place → slice_get new place ≡ Some step
      → IsLearnedAfter vars (clauses_of (take place new)) step
  pub counted : (place : ℕ) (step : Step) → length old ≤ place → place + 1 < length new → slice_get new place ≡ Some
      step → is_counted step ≡ true
  pub small : (place : ℕ) (step : Step) → length old ≤ place → slice_get new place ≡ Some step → is_counted step ≡ false
      → length (clause_of step) ≤ 1

-- ---- what is found

-- the truth of a variable in a list of them
abbrev pub truth_in : List Bool → ℕ → Bool
truth_in truths var = slice_index_or truths var false

-- the truth of each variable is its value, and false where it has none
pub record AreTruths (values : List (Option Bool)) (truths : List Bool) : Type 0 where
  pub whole : length truths ≡ length values
  pub same : (var : ℕ) (value : Bool) → slice_get values var ≡ Some (Some value) → truth_in truths var ≡ value
  pub free : (var : ℕ) → slice_get values var ≡ Some None → truth_in truths var ≡ false

-- no variable of the scope is free, unit propagation is at rest on each step's clause, and the goal is false
pub record IsModelOn (steps : List Step) (goal : Option Lit) (t : Trail) : Type 0 where
  pub no_free : HasNoFree (values_of t)
  pub at_rest : All (IsAtRest (lits_of t)) (clauses_of steps)
  pub goal_false : IfSome goal (λ g. Contains (lits_of t) (negation g))

-- one truth for each variable, by which each step's clause is true and the goal false
pub record IsModel (vars : ℕ) (steps : List Step) (goal : Option Lit) (truths : List Bool) : Type 0 where
  pub whole : length truths ≡ vars
  pub clauses_true : All (λ clause. (lit : Lit) × Contains clause lit × (holds (truth_in truths) lit ≡ true)) (clauses_of steps)
  pub goal_false : IfSome goal (λ lit. holds (truth_in truths) lit ≡ false)

-- where all variables are of the scope, the truths of a trail that is a model on it are a model
abbrev pub WholeScopeGivesModels : Type 0
WholeScopeGivesModels =
    (steps : List Step) (goal : Option Lit) (t : Trail) (truths : List Bool) → AreEntries t
    → All (λ step. IsFit t.vars (clause_of step)) steps → t.scope ≡ whole_scope t.vars → IsModelOn steps goal t
    → AreTruths (values_of t).given truths → IsModel t.vars steps goal truths

-- a further counted step is due, by a trail: some step's clause is false, above the level of the goal, or above that
-- where nothing is assumed; and below the level at which it became false unit propagation is at rest on each step's
-- clause
pub record IsDue (steps : List Step) (goal : Option Lit) (t : Trail) : Type 0 where
  pub clause : List Lit
  pub is_clause : Contains (clauses_of steps) clause
  pub all_false : (lit : Lit) → Contains clause lit → Contains (lits_of t) (negation lit)
  pub deep : 0 < length t.starts
  pub lit : Lit
  pub is_in : Contains clause lit
  pub not_below : Contains (lits_below t) (negation lit) → ⊥
  pub goal_below : IfSome goal (λ g. Contains (lits_below t) (negation g))
  pub at_rest : All (IsAtRest (lits_below t)) (clauses_of steps)

-- the clause of a step
abbrev pub IsStepOf : List Step → ℕ → List Lit → Type 0
IsStepOf steps place lits = slice_get (clauses_of steps) place ≡ Some lits

-- what was found is shown: by the steps, and by the trail where it is a model or no unit is left
abbrev pub Shows : Solver → Option Lit → ℕ → Found → Type 0
Shows s goal left Model = IsModelOn s.steps goal s.trail
Shows s goal left (Proved place) = (lit : Lit) × (goal ≡ Some lit) × IsStepOf s.steps place (lit ∷ [])
Shows s goal left (Empty place) = IsStepOf s.steps place []
Shows s goal left Spent = (left ≡ 0) × IsDue s.steps goal s.trail

-- the step of an axiom: counted where the search brought it in
abbrev pub axiom_step : Label → List Lit → Bool → Step
axiom_step label lits counted = if counted then OnDemand label lits else Axiom label lits
