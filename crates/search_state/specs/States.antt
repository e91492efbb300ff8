-- The state of a search: the steps of a log, and the literals that are true. No watch and no arena is seen.
use Rattle.std.specs.Prelude.{◌≡◌, ◌<◌, ◌≤◌, ℕ, Bool, true, false, List, [], ◌∷◌, ◌++◌, All, Contains, Some, length, slice_get}
use Rattle.currency_base.specs.Lists.{OnlyOnce}
use Rattle.currency_base.specs.Literals.{var_of, negation}
use Rattle.currency_base.specs.declared.lit.Lit.{Lit}
use Rattle.search_trail.specs.Trails.{Entry, Trail, lits_of, implied, undone}
use Rattle.refutation_log.specs.Steps.{clause_of, clauses_of}
use Rattle.refutation_log.specs.Follows.{FollowsFrom}
use Rattle.refutation_log.specs.Counted.{IsAtRest, IsNew}
use Rattle.currency_base.specs.declared.value.Value.{Value as Datum}
use Rattle.refutation_log.specs.declared.statement.Statement.{Statement}
use Rattle.refutation_log.specs.declared.step.Step.{Step}
use Rattle.refutation_log.specs.declared.step.Step.TheVariants.{Learn}
use Rattle.lean_hints.specs.Lean.{AreLean}
use Rattle.conflict_analysis.specs.Analyses.{AreOfAssumed, lits_below}

-- what a search leaves as it is: the tuples that a log's statements name, and its statements, which are the variables
pub record Frame : Type 0 where
  pub answers : List (List Datum)
  pub statements : List Statement

-- the frame and the steps of a log; the trail, with its scope; and whether a step's clause was found false while nothing
-- was assumed
pub record State : Type 0 where
  pub frame : Frame
  pub steps : List Step
  pub trail : Trail
  pub refuted : Bool

-- how many variables there are
abbrev pub vars_of : State → ℕ
vars_of s = length s.frame.statements

-- the literals that are true
abbrev pub true_lits : State → List Lit
true_lits s = lits_of s.trail

-- unit propagation is at rest on the clause of each step, where these literals are true
abbrev pub IsQuiet : State → List Lit → Type 0
IsQuiet s truths = All (IsAtRest truths) (clauses_of s.steps)

-- ---- conflicts

-- all literals of a step's clause are false
pub record IsFalse (s : State) (place : ℕ) : Type 0 where
  pub lits : List Lit
  pub is_clause : slice_get (clauses_of s.steps) place ≡ Some lits
  pub all_false : (lit : Lit) → Contains lits lit → Contains (true_lits s) (negation lit)

-- a literal of the step's clause is not false below the current level
pub record IsNotBelow (s : State) (place : ℕ) : Type 0 where
  pub lits : List Lit
  pub is_clause : slice_get (clauses_of s.steps) place ≡ Some lits
  pub lit : Lit
  pub is_in : Contains lits lit
  pub not_below : Contains (lits_below s.trail) (negation lit) → ⊥

-- ---- changes

-- a step may be added: its literals are of the variables, none twice
pub record IsFit (vars : ℕ) (lits : List Lit) : Type 0 where
  pub within : All (λ lit. var_of lit < vars) lits
  pub once : OnlyOnce lits

-- implied literals follow the others at the current level
pub record IsExtended (old new : State) : Type 0 where
  pub frame : new.frame ≡ old.frame
  pub steps : new.steps ≡ old.steps
  pub refuted : new.refuted ≡ old.refuted
  pub starts : new.trail.starts ≡ old.trail.starts
  pub scope : new.trail.scope ≡ old.trail.scope
  pub added : List Entry
  pub entries : new.trail.entries ≡ old.trail.entries ++ added

-- only the trail is another
pub record HasTrail (old new : State) (t : Trail) : Type 0 where
  pub frame : new.frame ≡ old.frame
  pub steps : new.steps ≡ old.steps
  pub refuted : new.refuted ≡ old.refuted
  pub trail : new.trail ≡ t

-- a clause that follows from the steps with its hints: no literal and no hint twice, and each hint but the last adds a literal
pub record IsDerivedFrom (s : State) (lits : List Lit) (hints : List ℕ) : Type 0 where
  pub fit : IsFit (vars_of s) lits
  pub follows : FollowsFrom (clauses_of s.steps) lits hints
  pub lean : AreLean (clauses_of s.steps) lits hints

-- a counted clause was learned: it follows and is new; the search went back to a lower level, where it implies its first literal
pub record HasLearned (old new : State) : Type 0 where
  pub lits : List Lit
  pub hints : List ℕ
  pub frame : new.frame ≡ old.frame
  pub refuted : new.refuted ≡ old.refuted
  pub steps : new.steps ≡ old.steps ++ Learn lits hints true ∷ []
  pub derived : IsDerivedFrom old lits hints
  pub is_new : IsNew (clauses_of old.steps) (Learn lits hints true)
  pub back : ℕ
  pub lower : back < length old.trail.starts
  pub first : Lit
  pub trail : new.trail ≡ implied (undone old.trail back) first (length old.steps)

-- a clause was derived and not counted, and the search went back to where nothing is assumed
pub record HasConcluded (old new : State) (lits : List Lit) : Type 0 where
  pub hints : List ℕ
  pub frame : new.frame ≡ old.frame
  pub steps : new.steps ≡ old.steps ++ Learn lits hints false ∷ []
  pub derived : IsDerivedFrom old lits hints
  pub starts : new.trail.starts ≡ []

-- a derived clause has negations of assumed literals alone
pub record HasRefuted (old new : State) : Type 0 where
  pub lits : List Lit
  pub concluded : HasConcluded old new lits
  pub assumed : AreOfAssumed old.trail lits

-- the search is where nothing is assumed, with these steps
pub record IsGround (s : State) (frame : Frame) (steps : List Step) : Type 0 where
  pub frame_is : s.frame ≡ frame
  pub steps_are : s.steps ≡ steps
  pub starts : s.trail.starts ≡ []

-- ---- at any moment

pub record IsState (s : State) : Type 0 where
  pub few : vars_of s ≤ 2147483648
  pub trail_vars : s.trail.vars ≡ vars_of s
  pub fit : All (λ step. IsFit (vars_of s) (clause_of step)) s.steps
  pub refuted : s.refuted ≡ true → s.trail.starts ≡ []
  pub at_rest_below : s.refuted ≡ false → 0 < length s.trail.starts → IsQuiet s (lits_below s.trail)
