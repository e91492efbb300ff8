-- Each assignment that makes all axioms true is the truth in one consistent completion, and each consistent completion has such
-- an assignment.
use Rattle.std.specs.Prelude.{◌≡◌, ◌<◌, ℕ, Bool, List, All, Some, length, slice_get}
use Rattle.currency_base.specs.declared.ids.AttrId.{AttrId}
use Rattle.currency_base.specs.declared.ids.RelId.{RelId}
use Rattle.currency_base.specs.declared.ids.RowId.{RowId}
use Rattle.spec_model.specs.Completion.{Rankings, IsRanking}
use Rattle.spec_model.specs.Consistent.{IsConsistent}
use Rattle.spec_model.specs.Facts.{IsSpecification}
use Rattle.spec_model.specs.Spec.{Spec}
use Rattle.spec_model.specs.declared.relation.Relation.{Relation}
use Rattle.refutation_log.specs.Steps.{clauses_of}
use Rattle.refutation_log.specs.declared.step.Step.{Step}
use Rattle.order_literals.specs.Said.{before, IsClauseTrue, IsSaidTrue}
use Rattle.order_literals.specs.declared.wanted.Wanted.{Wanted}
use Rattle.order_clauses.specs.Clauses.{AreAxioms, AreTransitive}
use Rattle.completion_build.specs.Ranked.{IsRankedBy}
use Rattle.order_adequacy.specs.Laws.{IsModelOf, variables}

-- ---- lists

-- a list: the rows of an entity of a relation, in one of its attributes
pub record IsListIn (s : Spec) (rel : RelId) (attr : AttrId) (ent : ℕ) (r : Relation) : Type 0 where
  pub is_relation : slice_get s.relations rel.0 ≡ Some r
  pub attr_within : attr.0 < length r.attrs
  pub ent_within : ent < length r.entities

-- an order of the rows of a list, in which an assignment puts each row before all that stand behind it
pub record IsOrderOf (s : Spec) (wanted : Wanted) (truths : List Bool) (rel : RelId) (attr : AttrId) (ent : ℕ)
    (r : Relation) (list : List RowId) : Type 0 where
  pub ranking : IsRanking r.rows ent list
  pub put : (low high : ℕ) (t u : RowId) → low < high → slice_get list low ≡ Some t → slice_get list high ≡ Some u
      → IsSaidTrue (variables s wanted) truths (before rel attr t u)

-- an assignment that makes the axioms on three rows of a list true puts its rows in an order
abbrev pub ListsAreOrdered : Type 0
ListsAreOrdered = (s : Spec) (wanted : Wanted) → IsSpecification s → (truths : List Bool)
    → length truths ≡ length (variables s wanted)
    → (rel : RelId) (attr : AttrId) (ent : ℕ) (r : Relation) → IsListIn s rel attr ent r
    → (steps : List Step) → AreTransitive s (variables s wanted) rel attr ent steps → All (IsClauseTrue truths) (clauses_of steps)
    → (list : List RowId) × IsOrderOf s wanted truths rel attr ent r list

-- ---- all axioms

-- the axioms of a specification as steps of a log: those that are brought in from the start, and for each list those on three
-- of its rows
pub record AllAxioms : Type 0 where
  pub started : List Step
  pub of_list : RelId → AttrId → ℕ → List Step

-- for each list exactly its axioms on three rows
abbrev pub AreOfLists : Spec → Wanted → (RelId → AttrId → ℕ → List Step) → Type 0
AreOfLists s wanted of_list = (rel : RelId) (attr : AttrId) (ent : ℕ) (r : Relation) → IsListIn s rel attr ent r
    → AreTransitive s (variables s wanted) rel attr ent (of_list rel attr ent)

-- these are true under an assignment
abbrev pub AreTrueOfLists : Spec → List Bool → (RelId → AttrId → ℕ → List Step) → Type 0
AreTrueOfLists s truths of_list = (rel : RelId) (attr : AttrId) (ent : ℕ) (r : Relation) → IsListIn s rel attr ent r
    → All (IsClauseTrue truths) (clauses_of (of_list rel attr ent))

-- exactly the axioms of a specification, where the current values of some relations are wanted
pub record AreAllAxioms (s : Spec) (wanted : Wanted) (axioms : AllAxioms) : Type 0 where
  pub started : AreAxioms s wanted.currents (variables s wanted) axioms.started
  pub of_list : AreOfLists s wanted axioms.of_list

-- an assignment makes them true
pub record MakesTrue (s : Spec) (wanted : Wanted) (axioms : AllAxioms) (truths : List Bool) : Type 0 where
  pub per_variable : length truths ≡ length (variables s wanted)
  pub started : All (IsClauseTrue truths) (clauses_of axioms.started)
  pub of_list : AreTrueOfLists s truths axioms.of_list

-- ---- assignments and completions

-- an assignment that makes the axioms on three rows of every list true puts the rows in the order of a completion: none is
-- ranked by nothing
abbrev pub AssignmentsRank : Type 0
AssignmentsRank = (s : Spec) (wanted : Wanted) → IsSpecification s → (truths : List Bool)
    → length truths ≡ length (variables s wanted)
    → (of_list : RelId → AttrId → ℕ → List Step) → AreOfLists s wanted of_list → AreTrueOfLists s truths of_list
    → (c : Rankings) × IsRankedBy s.relations (variables s wanted) truths c

-- the assignment is the truth in this consistent completion, and in no other
pub record IsModelOfOne (s : Spec) (wanted : Wanted) (truths : List Bool) (c : Rankings) : Type 0 where
  pub model : IsModelOf s wanted truths c
  pub one : (d : Rankings) → IsModelOf s wanted truths d → d ≡ c

-- an assignment that makes all axioms true is the truth in exactly one consistent completion
abbrev pub AssignmentsAreCompletions : Type 0
AssignmentsAreCompletions = (s : Spec) (wanted : Wanted) → IsSpecification s → (axioms : AllAxioms) → AreAllAxioms s wanted axioms
    → (truths : List Bool) → MakesTrue s wanted axioms truths
    → (c : Rankings) × IsModelOfOne s wanted truths c

-- and each consistent completion has an assignment that makes all axioms true and is the truth in it alone
abbrev pub CompletionsHaveAssignments : Type 0
CompletionsHaveAssignments = (s : Spec) (wanted : Wanted) → IsSpecification s → (axioms : AllAxioms)
    → AreAllAxioms s wanted axioms → (c : Rankings) → IsConsistent s c
    → (truths : List Bool) × MakesTrue s wanted axioms truths × IsModelOfOne s wanted truths c
