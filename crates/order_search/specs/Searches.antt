-- A search over the statements of a specification: what its log always has, and what a decision tells.
use Rattle.std.specs.Prelude.{◌≡◌, ◌<◌, ◌++◌, ℕ, Bool, true, false, List, [], ◌∷◌, All, Contains, Option, Some, IfSome, length, slice_get}
use Rattle.currency_base.specs.declared.ids.AttrId.{AttrId}
use Rattle.currency_base.specs.declared.ids.RelId.{RelId}
use Rattle.currency_base.specs.declared.ids.RowId.{RowId}
use Rattle.currency_base.specs.declared.lit.Lit.{Lit}
use Rattle.currency_base.specs.declared.value.Value.{Value}
use Rattle.log_axioms.specs.Posed.{Posed}
use Rattle.refutation_log.specs.Writable.{IsWritableLabel}
use Rattle.match_clauses.specs.Clauses.{AreMatchLits, SaysAnswer}
use Rattle.match_clauses.specs.Matched.{IsMatchIn, IsOfWanted}
use Rattle.query_model.specs.declared.query.Match.{Match}
use Rattle.query_model.specs.declared.query.Query.{Query}
use Rattle.spec_model.specs.Completion.{IsCompletion, Rankings}
use Rattle.spec_model.specs.Spec.{Spec}
use Rattle.spec_model.specs.declared.relation.Relation.{Relation}
use Rattle.refutation_log.specs.Counted.{CountedAreNew, IsOpenLog, holds}
use Rattle.refutation_log.specs.Steps.{clauses_of}
use Rattle.refutation_log.specs.declared.log.Log.{Log}
use Rattle.refutation_log.specs.declared.step.Label.TheVariants as label
use Rattle.refutation_log.specs.declared.step.Step.{Step}
use Rattle.order_literals.specs.Numbers
use Rattle.order_literals.specs.declared.wanted.Wanted.{Wanted}
use Rattle.order_clauses.specs.Clauses.{AreAxioms}
use Rattle.order_adequacy.specs.Laws.{IsModelOf}
use Rattle.watch_solver.specs.Decided.{axiom_step, truth_in}
use Rattle.search_logs.specs.SearchLogs.{IsSearchLog, IsWithin, variables}
use Rattle.order_search.specs.declared.outcome.Outcome.{Outcome}
use Rattle.order_search.specs.declared.outcome.Outcome.TheVariants.{Model, Proved, Empty, Spent}

-- a specification, a query, if one is posed, and what is numbered beside the pairs of rows
pub record Subject : Type 0 where
  pub spec : Spec
  pub query : Option Query
  pub wanted : Wanted

-- a specification, what is posed of it, what is numbered of it beside the pairs of rows, the log so far, and whether a
-- call was refused memory
pub record Search : Type 0 where
  pub spec : Spec
  pub posed : Posed
  pub wanted : Wanted
  pub log : Log
  pub failed : Bool

-- a row of a relation whose current values are wanted, and one of its attributes
pub record IsWantedRow (s : Spec) (wanted : Wanted) (rel : RelId) (attr : AttrId) (row : RowId) : Type 0 where
  pub relation : Relation
  pub is_relation : slice_get s.relations rel.0 ≡ Some relation
  pub attr_within : attr.0 < length relation.attrs
  pub row_within : row.0 < length relation.rows
  pub is_wanted : Numbers.is_wanted wanted.currents rel.0 ≡ true

-- the log begins with exactly the axioms that are brought in from the start
pub record BeginsWithAxioms (s : Spec) (wanted : Wanted) (steps : List Step) : Type 0 where
  pub axioms : List Step
  pub later : List Step
  pub steps_are : steps ≡ axioms ++ later
  pub are_axioms : AreAxioms s wanted.currents (variables s wanted) axioms

-- what holds at any moment
pub record IsSearch (s : Search) : Type 0 where
  pub within : IsWithin s.spec
  pub log : IsSearchLog s.spec s.posed s.wanted s.log
  pub begins : BeginsWithAxioms s.spec s.wanted s.log.steps
  pub counted_new : CountedAreNew s.log.steps

-- steps were added, and nothing else changed but whether a call was refused memory
pub record HasGone (old new : Search) : Type 0 where
  pub spec : new.spec ≡ old.spec
  pub posed : new.posed ≡ old.posed
  pub wanted : new.wanted ≡ old.wanted
  pub statements : new.log.statements ≡ old.log.statements
  pub added : List Step
  pub steps : new.log.steps ≡ old.log.steps ++ added

-- each step's clause has a literal that holds
abbrev pub AreClausesTrue : List Bool → List Step → Type 0
AreClausesTrue truths steps = All (λ clause. (lit : Lit) × Contains clause lit ×
    (holds (truth_in truths) lit ≡ true)) (clauses_of steps)

-- a consistent completion in which the goal is false and the clause of each step so far is true
pub record IsCounter (s : Search) (goal : Option Lit) (truths : List Bool) (c : Rankings) : Type 0 where
  pub model : IsModelOf s.spec s.wanted truths c
  pub clauses_true : AreClausesTrue truths s.log.steps
  pub goal_false : IfSome goal (λ lit. holds (truth_in truths) lit ≡ false)

-- what a decision tells, with so many units left: a consistent completion in which the goal is false, with the truth of each
-- statement; the step that is the goal alone; the step that is the empty clause; or that no unit is left, and the log is open
abbrev pub Tells : Search → Option Lit → ℕ → Outcome → Type 0
Tells s goal left (Model truths c) = IsCounter s goal truths c
Tells s goal left (Proved place) = (lit : Lit) × (goal ≡ Some lit) × (slice_get (clauses_of s.log.steps) place ≡ Some (lit ∷ []))
Tells s goal left (Empty place) = slice_get (clauses_of s.log.steps) place ≡ Some []
Tells s goal left Spent = (left ≡ 0) × IsOpenLog s.log.steps

-- ---- matches

-- a match of the query that is posed, over the current instance of a completion: it makes the tuple at a place of the
-- posed answers one, the current values of its atoms' relations are wanted, and its label can be written
pub record IsMatchOf (s : Search) (c : Rankings) (m : Match) (answer : ℕ) : Type 0 where
  pub query : Query
  pub is_query : s.posed.query ≡ Some query
  pub tuple : List Value
  pub is_tuple : slice_get s.posed.answers answer ≡ Some tuple
  pub completion : IsCompletion s.spec.relations c
  pub is_match : IsMatchIn s.spec.relations c query tuple m
  pub of_wanted : IsOfWanted s.wanted.currents query m
  pub writable : IsWritableLabel (label.Match m.disjunct m.entities m.values)

-- a consistent completion in which the tuple at a place of the posed answers is said to be none
pub record IsAnswerCounter (s : Search) (answer : ℕ) (truths : List Bool) (c : Rankings) : Type 0 where
  pub goal : Lit
  pub says : SaysAnswer s.log.statements answer goal
  pub counter : IsCounter s (Some goal) truths c

-- the axiom of a match was put after the steps, counted or not
pub record HasTaken (old new : Search) (c : Rankings) (m : Match) (answer : ℕ) (counted : Bool) : Type 0 where
  pub lits : List Lit
  pub are_lits : (query : Query) → old.posed.query ≡ Some query → AreMatchLits old.spec old.wanted query c m answer lits
  pub steps : new.log.steps ≡ old.log.steps ++ axiom_step (label.Match m.disjunct m.entities m.values) lits counted ∷ []
