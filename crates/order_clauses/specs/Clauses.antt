-- The axioms of a specification as steps of a log, in the literals of a numbering.
use Rattle.std.specs.Prelude.{◌≡◌, ℕ, true, List, All, Contains, Some, slice_get}
use Rattle.currency_base.specs.Lists.{OnlyOnce}
use Rattle.currency_base.specs.declared.ids.AttrId.{AttrId}
use Rattle.currency_base.specs.declared.ids.RelId.{RelId}
use Rattle.currency_base.specs.declared.ids.RowId.{RowId}
use Rattle.currency_base.specs.declared.lit.Lit.{Lit}
use Rattle.partial_orders.specs.Pairs.{entity_of}
use Rattle.spec_model.specs.Spec.{Spec}
use Rattle.spec_model.specs.declared.relation.Relation.{Relation}
use Rattle.value_names.specs.Names.{name_of}
use Rattle.refutation_log.specs.declared.statement.Statement.{Statement}
use Rattle.refutation_log.specs.declared.step.Label.{Label}
use Rattle.refutation_log.specs.declared.step.Label.TheVariants as label
use Rattle.refutation_log.specs.declared.step.Step.{Step}
use Rattle.refutation_log.specs.declared.step.Step.TheVariants as step
use Rattle.order_literals.specs.Numbers.{is_wanted}
use Rattle.order_literals.specs.Said.{Said, Says}
use Rattle.order_literals.specs.Axioms.{IsAxiom}

-- a literal says one of these
pub record SaysOneOf (statements : List Statement) (clause : List Said) (lit : Lit) : Type 0 where
  pub said : Said
  pub is_in : Contains clause said
  pub says : Says statements lit said

-- one of these literals says it
pub record IsSaidByOne (statements : List Statement) (lits : List Lit) (said : Said) : Type 0 where
  pub lit : Lit
  pub is_in : Contains lits lit
  pub says : Says statements lit said

-- the literals of a clause, as a set and each once
pub record AreLits (statements : List Statement) (clause : List Said) (lits : List Lit) : Type 0 where
  pub each : All (SaysOneOf statements clause) lits
  pub all : All (IsSaidByOne statements lits) clause
  pub once : OnlyOnce lits

-- a step that is an axiom under a label, with the literals of the label's clause
pub record IsAxiomStep (s : Spec) (statements : List Statement) (l : Label) (lits : List Lit) (taken : Step) : Type 0 where
  pub is_step : taken ≡ step.Axiom l lits
  pub clause : List Said
  pub is_axiom : IsAxiom s l clause
  pub are_lits : AreLits statements clause lits

-- ---- which axioms are brought in from the start

-- the row names its own value
abbrev pub IsName : Spec → RelId → AttrId → RowId → Type 0
IsName s rel attr row = (r : Relation) → slice_get s.relations rel.0 ≡ Some r → name_of r.rows attr.0 row ≡ row

-- a label whose axiom is brought in, where the current values of these relations are wanted: those of given pairs, rules and
-- copy functions; and of the wanted relations all but those on the order of three rows, of which a value has one, under the
-- row that names it
abbrev pub IsAsked : Spec → List RelId → Label → Type 0
IsAsked s currents (label.Given rel attr earlier later) = Unit {0}
IsAsked s currents (label.Transitive rel attr first second third) = ⊥
IsAsked s currents (label.Rule rule rows) = Unit {0}
IsAsked s currents (label.Copy copy place first second) = Unit {0}
IsAsked s currents (label.Above rel attr row other) = is_wanted currents rel.0 ≡ true
IsAsked s currents (label.Top rel attr row) = is_wanted currents rel.0 ≡ true
IsAsked s currents (label.Last rel attr row) = is_wanted currents rel.0 ≡ true
IsAsked s currents (label.Value rel attr row) = (is_wanted currents rel.0 ≡ true) × IsName s rel attr row
IsAsked s currents (label.Match disjunct entities values) = ⊥

-- a step that is an axiom whose label is asked
pub record IsAskedStep (s : Spec) (currents : List RelId) (statements : List Statement) (taken : Step) : Type 0 where
  pub label : Label
  pub lits : List Lit
  pub step : IsAxiomStep s statements label lits taken
  pub asked : IsAsked s currents label

-- a label stands over one of these steps
pub record StandsOverOne (steps : List Step) (l : Label) : Type 0 where
  pub lits : List Lit
  pub is_in : Contains steps (step.Axiom l lits)

-- exactly the axioms whose labels are asked, each once
pub record AreAxioms (s : Spec) (currents : List RelId) (statements : List Statement) (steps : List Step) : Type 0 where
  pub each : All (IsAskedStep s currents statements) steps
  pub all : (l : Label) (clause : List Said) → IsAxiom s l clause → IsAsked s currents l → StandsOverOne steps l
  pub once : (i j : ℕ) (l : Label) (lits other : List Lit) → slice_get steps i ≡ Some (step.Axiom l lits)
      → slice_get steps j ≡ Some (step.Axiom l other) → i ≡ j

-- ---- the order of three rows of one list

-- a step that is an axiom on three rows of an entity in an attribute
pub record IsTransitiveStep (s : Spec) (statements : List Statement) (rel : RelId) (attr : AttrId) (ent : ℕ)
    (taken : Step) : Type 0 where
  pub first : RowId
  pub second : RowId
  pub third : RowId
  pub lits : List Lit
  pub step : IsAxiomStep s statements (label.Transitive rel attr first second third) lits taken
  pub relation : Relation
  pub is_relation : slice_get s.relations rel.0 ≡ Some relation
  pub of_entity : entity_of relation.rows first.0 ≡ Some ent

-- the clause stands among these steps, under one of its labels
pub record StandsAmong (statements : List Statement) (steps : List Step) (clause : List Said) : Type 0 where
  pub label : Label
  pub lits : List Lit
  pub is_in : Contains steps (step.Axiom label lits)
  pub are_lits : AreLits statements clause lits

-- exactly the clauses on three rows of an entity in an attribute, each once whatever its label
pub record AreTransitive (s : Spec) (statements : List Statement) (rel : RelId) (attr : AttrId) (ent : ℕ)
    (steps : List Step) : Type 0 where
  pub each : All (IsTransitiveStep s statements rel attr ent) steps
  pub all : (r : Relation) → slice_get s.relations rel.0 ≡ Some r → (first second third : RowId)
      → entity_of r.rows first.0 ≡ Some ent
      → (clause : List Said) → IsAxiom s (label.Transitive rel attr first second third) clause
      → StandsAmong statements steps clause
  pub once : (i j : ℕ) (l m : Label) (lits other : List Lit) (clause : List Said) → slice_get steps i ≡ Some (step.Axiom l lits)
      → slice_get steps j ≡ Some (step.Axiom m other) → AreLits statements clause lits → AreLits statements clause other → i ≡ j
