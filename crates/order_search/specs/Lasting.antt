-- That some row of a list is last: what is said of its rows, and what is derived of them.
use Rattle.std.specs.Prelude.{◌≡◌, ◌≢◌, ◌<◌, ◌+◌, ℕ, Bool, false, List, [], All, Some, length, min, slice_get, slice_index_or}
use Rattle.currency_base.specs.Lists.{OnlyOnce}
use Rattle.currency_base.specs.declared.ids.RowId.{RowId}
use Rattle.currency_base.specs.declared.lit.Lit.{Lit}
use Rattle.spec_model.specs.declared.relation.Relation.{Relation}
use Rattle.value_names.specs.Names.{name_of}
use Rattle.refutation_log.specs.Follows.{FollowsFrom}
use Rattle.refutation_log.specs.Steps.{clause_of}
use Rattle.refutation_log.specs.declared.step.Step.{Step}
use Rattle.refutation_log.specs.declared.step.Step.TheVariants.{Learn}
use Rattle.lean_hints.specs.Lean.{AreLean}
use Rattle.search_state.specs.States.{IsFit}
use Rattle.order_literals.specs.Said.{Says, before, last, top}
use Rattle.order_links.specs.Lists.{IsListOf}
use Rattle.order_links.specs.declared.list.ListId.{ListId}
use Rattle.partial_orders.specs.Pairs.{entity_of}
use Rattle.watch_solver.specs.Decided.{Solver}
use Rattle.search_logs.specs.Free.{IsFreeClause}
use Rattle.last_rows.specs.Rows.{AreDerived, AreWithin, EndsCurrent, Literals, no_lit}
use Rattle.last_rows.specs.declared.rows.RowList.{RowList}
use Rattle.order_search.specs.Kept.{IsHeld, vars_of}
use Rattle.order_search.specs.Searches.{Subject}
use Rattle.order_search.specs.Tied.{KeepsTied}

-- the rows of a list of the specification, each once, in any order
pub record AreAllRowsOf (s : Subject) (list : ListId) (rows : List RowId) : Type 0 where
  pub is_list : IsListOf s.spec.relations list
  pub once : OnlyOnce rows
  pub each : (i : ℕ) (row : RowId) → slice_get rows i ≡ Some row → entity_of is_list.relation.rows row.0 ≡ Some list.ent.0
  pub all : (row : RowId) → entity_of is_list.relation.rows row.0 ≡ Some list.ent.0 → (i : ℕ) × (slice_get rows i ≡ Some row)

-- there are so many items, and each is such as its number says
abbrev pub EachIs : {A : Type 0} → A → (ℕ → A → Type 0) → ℕ → List A → Type 0
EachIs {A} d P n xs = (length xs ≡ n) × ((i : ℕ) → i < n → P i (slice_index_or xs i d))

-- the place behind another, as far as places have numbers
abbrev pub next_place : ℕ → ℕ
next_place place = min (place + 1) 4294967295

-- a literal says that the row of that number in a list stands last; before another; or that its value is current
abbrev pub SaysTop : Subject → ListId → List RowId → ℕ → Lit → Type 0
SaysTop s list rows i lit = (row : RowId) → slice_get rows i ≡ Some row → Says (vars_of s) lit (top list.rel list.attr row)

abbrev pub SaysBefore : Subject → ListId → List RowId → ℕ → ℕ → Lit → Type 0
SaysBefore s list rows i j lit = i ≢ j → (row other : RowId) → slice_get rows i ≡ Some row → slice_get rows j ≡ Some other
    → Says (vars_of s) lit (before list.rel list.attr row other)

abbrev pub SaysName : Subject → ListId → List RowId → ℕ → Lit → Type 0
SaysName s list rows i lit = (row : RowId) → slice_get rows i ≡ Some row → (r : Relation)
    → slice_get s.spec.relations list.rel.0 ≡ Some r
    → Says (vars_of s) lit (last list.rel list.attr (name_of r.rows list.attr.0 row))

-- the literals of a list of rows say this of them
pub record AreSaid (s : Subject) (list : ListId) (rows : List RowId) (l : RowList) : Type 0 where
  pub tops : EachIs no_lit (SaysTop s list rows) (length rows) l.tops.items
  pub befores : EachIs [] (λ i lits. EachIs no_lit (SaysBefore s list rows i) (length rows) lits) (length rows) l.befores
  pub names : EachIs no_lit (SaysName s list rows) (length rows) l.names.items

-- steps that derive from these clauses, of rows whose literals are of so many variables, that some row is last and some value
-- current
pub record IsDerivation (vars : ℕ) (clauses : List (List Lit)) (steps : List Step) : Type 0 where
  pub lits : Literals
  pub within : AreWithin vars lits
  pub derived : AreDerived lits clauses steps
  pub current : EndsCurrent lits clauses steps

-- the clause of each of these steps is one that a search of the subject may learn and not count
abbrev pub AreFree : Subject → List Step → Type 0
AreFree s steps = All (λ taken. IsFreeClause s.spec (vars_of s) (clause_of taken)) steps

-- a step that may be put after these clauses: of so many variables, not counted, and derived with its hints, of which none
-- stands twice, and each but the last adds a literal
pub record IsNextStep (vars : ℕ) (clauses : List (List Lit)) (taken : Step) : Type 0 where
  pub lits : List Lit
  pub hints : List ℕ
  pub is_step : taken ≡ Learn lits hints false
  pub fit : IsFit vars lits
  pub follows : FollowsFrom clauses lits hints
  pub lean : AreLean clauses lits hints

-- where a search of the subject is held with one solver, it is so with the other
abbrev pub KeepsHeld : Subject → Solver → Solver → Type 0
KeepsHeld s old new = (brought : List Bool) → IsHeld s old brought → IsHeld s new brought

-- this holds of each subject a search of which may learn these steps and not count them
abbrev pub KeepsHeldBy : List Step → Solver → Solver → Type 0
KeepsHeldBy steps old new = (s : Subject) → AreFree s steps → KeepsHeld s old new

-- where no step of the one solver was brought in by a match, none of the other was
abbrev pub KeepsAllTied : Solver → Solver → Type 0
KeepsAllTied old new = (s : Subject) → KeepsTied s old.steps new.steps
