-- What a search keeps from one decision to the next.
use Rattle.std.specs.Prelude.{◌≡◌, ◌<◌, ◌≤◌, ℕ, zero, suc, Bool, true, false, List, [], ◌∷◌, ◌++◌, All, Contains, Some, length, slice_get, slice_set}
use Rattle.currency_base.specs.Literals.{var_of}
use Rattle.currency_base.specs.declared.ids.AttrId.{AttrId}
use Rattle.currency_base.specs.declared.ids.RelId.{RelId}
use Rattle.currency_base.specs.declared.ids.RowId.{RowId}
use Rattle.currency_base.specs.declared.lit.Lit.{Lit}
use Rattle.currency_base.specs.declared.value.Value.{Value}
use Rattle.entity_lists.specs.Lists.{entities_of, rows_of}
use Rattle.partial_orders.specs.Pairs.{entity_of}
use Rattle.spec_model.specs.declared.relation.Relation.{Relation}
use Rattle.refutation_log.specs.Steps.{clauses_of}
use Rattle.refutation_log.specs.declared.statement.Statement.{Statement}
use Rattle.refutation_log.specs.declared.statement.Statement.TheVariants as says
use Rattle.refutation_log.specs.declared.step.Label.{Label}
use Rattle.refutation_log.specs.declared.step.Label.TheVariants as label
use Rattle.refutation_log.specs.declared.step.Step.{Step}
use Rattle.refutation_log.specs.declared.step.Step.TheVariants as step
use Rattle.log_axioms.specs.Posed.{Posed}
use Rattle.order_literals.specs.Axioms.{IsAxiom}
use Rattle.order_literals.specs.Numbers.{IsPairOf, numbers_of}
use Rattle.order_literals.specs.Said.{IsClauseTrue, Said, Says, before}
use Rattle.order_clauses.specs.Clauses.{IsAxiomStep, StandsAmong}
use Rattle.completion_build.specs.Ranked.{IsCycle}
use Rattle.completion_build.specs.declared.built.Cycle.{Cycle}
use Rattle.match_clauses.specs.Clauses.{AreMatchLits}
use Rattle.match_clauses.specs.Matched.{IsMatchIn, IsOfWanted}
use Rattle.query_model.specs.declared.query.Match.{Match}
use Rattle.query_model.specs.declared.query.Query.{Query}
use Rattle.spec_model.specs.Completion.{IsCompletion, Rankings}
use Rattle.order_links.specs.Lists.{IsListOf}
use Rattle.order_links.specs.declared.list.ListId.{ListId}
use Rattle.search_state.specs.States.{Frame, IsFit}
use Rattle.watch_solver.specs.Decided.{Solver, axiom_step}
use Rattle.search_logs.specs.SearchLogs.{variables}
use Rattle.order_search.specs.Searches.{IsSearch, Search, Subject}

-- the statements of the variables
abbrev pub vars_of : Subject → List Statement
vars_of s = variables s.spec s.wanted

-- ---- steps

-- a step that is an axiom, under some label
pub record IsAxiomOf (s : Subject) (taken : Step) : Type 0 where
  pub label : Label
  pub lits : List Lit
  pub step : IsAxiomStep s.spec (vars_of s) label lits taken

-- an axiom whose literals are of so many variables, none twice
pub record IsFitAxiom (vars : ℕ) (taken : Step) : Type 0 where
  pub label : Label
  pub lits : List Lit
  pub is_step : taken ≡ step.Axiom label lits
  pub fit : IsFit vars lits

-- steps were put after the others of a solver's log
pub record HasAdded (old new : Solver) : Type 0 where
  pub frame : new.frame ≡ old.frame
  pub added : List Step
  pub steps : new.steps ≡ old.steps ++ added

-- axioms were put after the others
pub record HasAxioms (s : Subject) (old new : List Step) : Type 0 where
  pub axioms : List Step
  pub steps : new ≡ old ++ axioms
  pub are_axioms : All (IsAxiomOf s) axioms

-- a step that is an axiom of the specification, or learned: not one that a match of a query brought in
abbrev pub IsPlain : Subject → Step → Type 0
IsPlain s (step.Axiom l lits) = IsAxiomOf s (step.Axiom l lits)
IsPlain s (step.OnDemand l lits) = ⊥
IsPlain s (step.Learn lits hints counted) = Unit {0}

-- no step was brought in by a match
abbrev pub ArePlain : Subject → List Step → Type 0
ArePlain s steps = All (IsPlain s) steps

-- ---- lists that are brought in

-- each clause on three rows of an entity in an attribute stands among the steps
abbrev pub HaveThrees : Subject → List Step → RelId → AttrId → ℕ → Type 0
HaveThrees s steps rel attr ent =
    (r : Relation) → slice_get s.spec.relations rel.0 ≡ Some r → (first second third : RowId)
    → entity_of r.rows first.0 ≡ Some ent
    → (clause : List Said) → IsAxiom s.spec (label.Transitive rel attr first second third) clause → StandsAmong
    (vars_of s) steps clause

-- the clauses on three rows of the list that a variable is of stand among the steps
abbrev pub IsBrought : Subject → List Step → ℕ → Type 0
IsBrought s steps var =
    (rel : RelId) (attr : AttrId) (first second : RowId) → slice_get (vars_of s) var ≡ Some (says.Before rel attr first second)
    → (r : Relation) → slice_get s.spec.relations rel.0 ≡ Some r → (ent : ℕ) → entity_of r.rows first.0 ≡ Some ent
    → HaveThrees s steps rel attr ent

-- the lists of the variables that are marked are brought in
pub record AreBrought (s : Subject) (steps : List Step) (brought : List Bool) : Type 0 where
  pub per_variable : length brought ≡ length (vars_of s)
  pub marked : (var : ℕ) → slice_get brought var ≡ Some true → IsBrought s steps var

-- how many variables are not marked
unfoldable pub unmarked : List Bool → ℕ
unmarked [] = zero
unmarked (true ∷ brought) = unmarked brought
unmarked (false ∷ brought) = suc (unmarked brought)

-- ---- the search

-- what is posed of a subject, with the answers of a log
abbrev pub posed_of : Subject → Frame → Posed
posed_of s frame = record { query = s.query; answers = frame.answers }

-- the search over a subject, where a solver came so far, and whether a call was refused memory
abbrev pub seen_of : Subject → Solver → Bool → Search
seen_of s solver failed = record {
  spec = s.spec;
  posed = posed_of s solver.frame;
  wanted = s.wanted;
  log = record { answers = solver.frame.answers; statements = solver.frame.statements; steps = solver.steps };
  failed = failed;
}

-- the same, where none was
abbrev pub search_of : Subject → Solver → Search
search_of s solver = seen_of s solver false

-- what is kept
pub record IsHeld (s : Subject) (solver : Solver) (brought : List Bool) : Type 0 where
  pub search : IsSearch (search_of s solver)
  pub lists : AreBrought s solver.steps brought

-- ---- rows of lists

-- the rows of a list of the specification, ascending
pub record AreRowsOf (s : Subject) (list : ListId) (rows : List RowId) : Type 0 where
  pub is_list : IsListOf s.spec.relations list
  pub rows_are : (r : Relation) → slice_get s.spec.relations list.rel.0 ≡ Some r → rows ≡ rows_of (entities_of r.rows) list.ent.0

-- ---- cycles

-- an attribute and an entity of a relation, and two rows of the entity, of which one is said to stand before the other
pub record IsOfList (s : Subject) (c : Cycle) : Type 0 where
  pub relation : Relation
  pub is_relation : slice_get s.spec.relations c.rel.0 ≡ Some relation
  pub attr_within : c.attr.0 < length relation.attrs
  pub ent_within : c.ent.0 < length relation.entities
  pub first_of : entity_of relation.rows c.first.0 ≡ Some c.ent.0
  pub second_of : entity_of relation.rows c.second.0 ≡ Some c.ent.0
  pub pair : IsPairOf (numbers_of s.spec.relations s.wanted) c.rel.0 c.attr.0 c.first c.second

-- the variable that says which of the first two rows of a cycle stands before the other was marked
pub record IsMarked (s : Subject) (c : Cycle) (old new : List Bool) : Type 0 where
  pub lit : Lit
  pub lit_says : Says (vars_of s) lit (before c.rel c.attr c.first c.second)
  pub marks : new ≡ slice_set old (var_of lit) true

-- an assignment makes the clause of each step true
abbrev pub AreTrue : List Bool → List Step → Type 0
AreTrue truths steps = All (IsClauseTrue truths) (clauses_of steps)

-- a literal says of two rows of a cycle's list which of them stands before the other
pub record IsOnList (s : Subject) (c : Cycle) (lit : Lit) : Type 0 where
  pub relation : Relation
  pub is_relation : slice_get s.spec.relations c.rel.0 ≡ Some relation
  pub first : RowId
  pub second : RowId
  pub negative : Bool
  pub first_of : entity_of relation.rows first.0 ≡ Some c.ent.0
  pub second_of : entity_of relation.rows second.0 ≡ Some c.ent.0
  pub says : Says (vars_of s) lit (record { statement = says.Before c.rel c.attr first second; negative = negative })

-- an assignment makes those clauses of steps true whose literals are all on a cycle's list
abbrev pub AreTrueOn : Subject → List Bool → List Step → Cycle → Type 0
AreTrueOn s truths steps c = (lits : List Lit) → Contains (clauses_of steps) lits → All (IsOnList s c) lits
    → IsClauseTrue truths lits

-- the list of a cycle was brought in: fewer variables are without a mark, where the cycle is of an assignment that
-- makes the clauses of the steps so far true that are on the list
abbrev pub Brings : Subject → Cycle → List Step → List Bool → List Bool → Type 0
Brings s c steps old new = (truths : List Bool) → AreTrueOn s truths steps c → IsCycle s.spec.relations (vars_of s) truths
    c → unmarked new < unmarked old

-- the first lists of these cycles, so many, were brought in
pub record AreBroughtIn (s : Subject) (cycles : List Cycle) (place : ℕ) (old_steps : List Step) (old : List Bool)
    (new_steps : List Step)
    (new : List Bool) : Type 0 where
  pub later : unmarked new ≤ unmarked old
  pub begun : place ≡ 0 → (new_steps ≡ old_steps) × (new ≡ old)
  pub fewer : 0 < place → (truths : List Bool) → All (AreTrueOn s truths old_steps) cycles
      → All (IsCycle s.spec.relations (vars_of s) truths) cycles
      → unmarked new < unmarked old

-- ---- matches

-- a match of the query, over the current instance of a completion, that makes the tuple at a place of the answers one;
-- the current values of its atoms' relations are wanted
pub record IsMatchFor (s : Subject) (c : Rankings) (m : Match) (answer : ℕ) : Type 0 where
  pub query : Query
  pub is_query : s.query ≡ Some query
  pub completion : IsCompletion s.spec.relations c
  pub answer_within : answer < s.wanted.answers
  pub tuple : List Value
  pub is_match : IsMatchIn s.spec.relations c query tuple m
  pub of_wanted : IsOfWanted s.wanted.currents query m

-- the literals of its axiom
abbrev pub AreLitsFor : Subject → Rankings → Match → ℕ → List Lit → Type 0
AreLitsFor s c m answer lits = (query : Query) → s.query ≡ Some query → AreMatchLits s.spec s.wanted query c m answer lits

-- the axiom of a match was put after the others, counted or not
pub record HasMatched (s : Subject) (c : Rankings) (m : Match) (answer : ℕ) (counted : Bool) (old new : List Step) : Type 0 where
  pub lits : List Lit
  pub are_lits : AreLitsFor s c m answer lits
  pub steps : new ≡ old ++ axiom_step (label.Match m.disjunct m.entities m.values) lits counted ∷ []
