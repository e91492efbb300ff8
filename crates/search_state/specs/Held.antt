-- Kept: what the parts of a search's state keep.
use Rattle.std.specs.Prelude.{◌≡◌, ◌≢◌, ◌==◌, ◌⊎◌, ◌≤◌, ◌*◌, if◌then◌else◌, ℕ, List, [], All, Contains, Option, Some, None, length, take, slice_get}
use Rattle.currency_base.specs.Literals.{negation}
use Rattle.currency_base.specs.declared.lit.Lit.{Lit}
use Rattle.clause_arena.specs.Arenas.{Arena, IsWatched}
use Rattle.search_trail.specs.Trails.{Trail, entries_up_to, lits_of}
use Rattle.refutation_log.specs.Steps.{clause_of, clauses_of}
use Rattle.refutation_log.specs.declared.step.Step.{Step}
use Rattle.refutation_log.specs.Counted.{HasTrue, IsOpen, IsUnit}
use Rattle.watch_propagate.specs.WatchRule.{AreReasons, AreReordered, KeepsWatch}
use Rattle.conflict_analysis.specs.Analyses.{IsFalsified, Learned}
use Rattle.search_state.specs.States.{IsFit}

-- the literals that are true where nothing is assumed
abbrev pub ground_lits : Trail → List Lit
ground_lits t = take (entries_up_to t 0) (lits_of t)

-- a watched clause is a part of these literals
pub record HasWatched (a : Arena) (lits : List Lit) : Type 0 where
  pub clause : ℕ
  pub watched : IsWatched a clause
  pub among : (lit : Lit) → Contains watched.lits lit → Contains lits lit

-- each clause has a part that is watched, itself or another one, or a literal that is true where nothing is assumed
abbrev pub AreCovered : Arena → Trail → Type 0
AreCovered a t = (clause : ℕ) (lits : List Lit) → slice_get a.clauses clause ≡ Some lits → HasWatched a lits ⊎
    HasTrue (ground_lits t) lits

-- unit propagation over the watched clauses finds all that is implied
pub record CanGoOn (a : Arena) (t : Trail) : Type 0 where
  pub rule : KeepsWatch a t
  pub covered : AreCovered a t

-- the clause of that number is false while nothing is assumed
pub record IsRefuted (a : Arena) (t : Trail) (clause : ℕ) : Type 0 where
  pub starts : t.starts ≡ []
  pub falsified : IsFalsified a t clause

-- an arena holds these clauses, each in an order of its own, and no clause was found false while nothing was assumed, or that one
pub record AreHeld (clauses : List (List Lit)) (a : Arena) (t : Trail) (refuted : Option ℕ) : Type 0 where
  pub reordered : AreReordered clauses a.clauses
  pub reasons : AreReasons a t.entries
  pub goes_on : refuted ≡ None → CanGoOn a t
  pub stuck : (clause : ℕ) → refuted ≡ Some clause → IsRefuted a t clause

-- the parts of a state fit each other: so many variables, the steps of the log, the arena and the trail, and the
-- variables of the analysis
pub record IsKept (vars : ℕ) (steps : List Step) (a : Arena) (t : Trail) (refuted : Option ℕ) (analysed : ℕ) : Type 0 where
  pub few : vars ≤ 2147483648
  pub trail_vars : t.vars ≡ vars
  pub arena_vars : length a.watchers ≡ 2 * vars
  pub analysis_vars : analysed ≡ vars
  pub fit : All (λ step. IsFit vars (clause_of step)) steps
  pub held : AreHeld (clauses_of steps) a t refuted

-- ---- a clause that is added where nothing is assumed

-- its first literal is true
pub record BeginsTrue (truths lits : List Lit) : Type 0 where
  pub first : Lit
  pub is_first : slice_get lits 0 ≡ Some first
  pub is_true : Contains truths first

-- its first two are open
pub record BeginsOpen (truths lits : List Lit) : Type 0 where
  pub first : Lit
  pub second : Lit
  pub is_first : slice_get lits 0 ≡ Some first
  pub is_second : slice_get lits 1 ≡ Some second
  pub first_open : IsOpen truths first
  pub second_open : IsOpen truths second

-- its first is open and the others are false
pub record BeginsUnit (truths lits : List Lit) : Type 0 where
  pub first : Lit
  pub is_first : slice_get lits 0 ≡ Some first
  pub unit : IsUnit truths lits first

-- two items of a list have changed places
pub record HaveChanged (old new : List Lit) (from to : ℕ) : Type 0 where
  pub at_from : slice_get new from ≡ slice_get old to
  pub at_to : slice_get new to ≡ slice_get old from
  pub others : (i : ℕ) → i ≢ from → i ≢ to → slice_get new i ≡ slice_get old i
  pub as_many : length new ≡ length old

-- true or false
pub record IsKnown (truths : List Lit) (lit : Lit) : Type 0 where
  pub known : Contains truths lit ⊎ Contains truths (negation lit)

-- all are false
abbrev pub IsAllFalse : List Lit → List Lit → Type 0
IsAllFalse truths lits = (lit : Lit) → Contains lits lit → Contains truths (negation lit)

-- ---- a clause that is learned

-- the level to which it leads back: one of one literal holds where nothing is assumed
abbrev pub lowest_back : Learned → ℕ
lowest_back l = if length l.lits == 1 then 0 else l.back
