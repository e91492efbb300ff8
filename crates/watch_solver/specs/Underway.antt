-- Underway: what a search for a decision keeps, and where it stops.
use Rattle.std.specs.Prelude.{◌≡◌, ◌<◌, ◌≤◌, ℕ, Bool, true, false, List, [], ◌++◌, Contains, Option, Some, IfSome, length, take, slice_get}
use Rattle.currency_base.specs.Literals.{var_of, negation}
use Rattle.currency_base.specs.declared.lit.Lit.{Lit}
use Rattle.search_trail.specs.Trails.{HasNoFree, Trail, IsFree, assumed, lits_of, values_of}
use Rattle.refutation_log.specs.Steps.{clauses_of, is_counted}
use Rattle.refutation_log.specs.declared.step.Step.{Step}
use Rattle.conflict_analysis.specs.Analyses.{IsAssumed, lits_below}
use Rattle.search_state.specs.States.{IsFalse, IsNotBelow, IsQuiet, State, true_lits}
use Rattle.watch_solver.specs.Decided.{IsDue, IsLearnedAfter, Shows, Solver}
use Rattle.watch_solver.specs.declared.found.Found.{Found}
use Rattle.watch_solver.specs.declared.found.Found.TheVariants.{Spent}
use Rattle.watch_solver.specs.declared.search.Next.{Next}
use Rattle.watch_solver.specs.declared.search.Next.TheVariants as next
use Rattle.watch_solver.specs.declared.search.Stop.{Stop}
use Rattle.watch_solver.specs.declared.search.Stop.TheVariants as stop

-- ---- the goal

-- the goal's negation is true where nothing is assumed, or is the first literal that was
pub record IsUnder (t : Trail) (goal : Lit) : Type 0 where
  pub start : ℕ
  pub is_start : slice_get t.starts 0 ≡ Some start
  pub place : ℕ
  pub low : place ≤ start
  pub is_there : slice_get (lits_of t) place ≡ Some (negation goal)

-- where something is assumed, it is so under the goal's negation
abbrev pub IsOfGoal : Trail → Option Lit → Type 0
IsOfGoal t goal = 0 < length t.starts → IfSome goal (IsUnder t)

-- nothing is assumed but the goal's negation
abbrev pub IsFinal : Trail → Option Lit → Type 0
IsFinal t goal = (lit : Lit) → IsAssumed t (negation lit) → goal ≡ Some lit

-- the goal is false below the current level
abbrev pub IsGoalBelow : Trail → Option Lit → Type 0
IsGoalBelow t goal = IfSome goal (λ g. Contains (lits_below t) (negation g))

-- the goal is false
abbrev pub IsGoalFalse : Trail → Option Lit → Type 0
IsGoalFalse t goal = IfSome goal (λ g. Contains (lits_of t) (negation g))

-- the goal is a variable's
abbrev pub IsGoalWithin : ℕ → Option Lit → Type 0
IsGoalWithin vars goal = IfSome goal (λ g. var_of g < vars)

-- ---- where a search stops

-- the goal is true where nothing is assumed
pub record IsGoalTrue (t : Trail) (goal : Option Lit) (lit : Lit) : Type 0 where
  pub is_goal : goal ≡ Some lit
  pub ground : t.starts ≡ []
  pub is_true : Contains (lits_of t) lit

-- each variable of the scope has a value, and the goal is false
pub record IsWhole (t : Trail) (goal : Option Lit) : Type 0 where
  pub no_free : HasNoFree (values_of t)
  pub goal_false : IsGoalFalse t goal

-- a literal to assume: of a free variable, and under the goal's negation
pub record IsNextLit (t : Trail) (goal : Option Lit) (lit : Lit) : Type 0 where
  pub within : var_of lit < t.vars
  pub free : IsFree t (var_of lit)
  pub kept : IsOfGoal (assumed t lit) goal

-- what comes next where unit propagation is at rest
abbrev pub IsNext : Trail → Option Lit → Next → Type 0
IsNext t goal next.Complete = IsWhole t goal
IsNext t goal (next.Holds lit) = IsGoalTrue t goal lit
IsNext t goal (next.Assume lit) = IsNextLit t goal lit

-- a step's clause is false; where something is assumed, not below the current level
pub record IsConflict (s : State) (place : ℕ) : Type 0 where
  pub all_false : IsFalse s place
  pub level : 0 < length s.trail.starts → IsNotBelow s place

-- each variable of the scope has a value, and unit propagation is at rest
pub record IsComplete (s : State) (goal : Option Lit) : Type 0 where
  pub whole : IsWhole s.trail goal
  pub quiet : IsQuiet s (true_lits s)

-- why a search stops
abbrev pub IsStop : State → Option Lit → Stop → Type 0
IsStop s goal stop.Complete = IsComplete s goal
IsStop s goal (stop.Holds lit) = IsGoalTrue s.trail goal lit
IsStop s goal (stop.Conflict place) = IsConflict s place

-- ---- steps that are added

-- counted steps were added; each was learned after those before it
pub record HasCounted (vars : ℕ) (old new : List Step) : Type 0 where
  pub added : List Step
  pub steps : new ≡ old ++ added
  pub learned : (place : ℕ) (step : Step) → length old ≤ place → slice_get new place ≡ Some step
      → IsLearnedAfter vars (clauses_of (take place new)) step
  pub counted : (place : ℕ) (step : Step) → length old ≤ place → slice_get new place ≡ Some step → is_counted step ≡ true

-- ---- answers

-- a solver in that state
abbrev pub solver_of : State → Bool → Solver
solver_of s failed = record { frame = s.frame; steps = s.steps; trail = s.trail; failed = failed }

-- an answer is shown, and is that no unit is left exactly where a further counted step is due
pub record IsAnswer (s : State) (goal : Option Lit) (left : ℕ) (found : Found) : Type 0 where
  pub shown : Shows (solver_of s false) goal left found
  pub exact : left ≡ 0 → IsDue s.steps goal s.trail → found ≡ Spent
