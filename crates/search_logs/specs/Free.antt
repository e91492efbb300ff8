-- Clauses that a search may learn and not count: they are free of the budget.
use Rattle.std.specs.Prelude.{◌≡◌, ◌⊎◌, ◌≤◌, List, Some, Contains, length, slice_get}
use Rattle.currency_base.specs.declared.ids.AttrId.{AttrId}
use Rattle.currency_base.specs.declared.ids.EntId.{EntId}
use Rattle.currency_base.specs.declared.ids.RelId.{RelId}
use Rattle.currency_base.specs.declared.ids.RowId.{RowId}
use Rattle.currency_base.specs.declared.lit.Lit.{Lit}
use Rattle.partial_orders.specs.Pairs.{entity_of}
use Rattle.spec_model.specs.Spec.{Spec}
use Rattle.spec_model.specs.declared.relation.Relation.{Relation}
use Rattle.value_names.specs.Names.{name_of}
use Rattle.refutation_log.specs.declared.statement.Statement.{Statement}
use Rattle.order_literals.specs.Said.{Says, before, last, top}

-- each literal says something of a row of an entity, and of each row of it one does
pub record AreOfRows (relation : Relation) (ent : EntId) (says : RowId → Lit → Type 0) (lits : List Lit) : Type 0 where
  pub each : (lit : Lit) → Contains lits lit → (row : RowId) × (entity_of relation.rows row.0 ≡ Some ent.0) × says row lit
  pub all : (row : RowId) → entity_of relation.rows row.0 ≡ Some ent.0 → (lit : Lit) × Contains lits lit × says row lit

-- a literal says of a row that it stands last, or that it stands after another
abbrev pub SaysLastOrAfter : List Statement → RelId → AttrId → RowId → RowId → Lit → Type 0
SaysLastOrAfter statements rel attr own row lit =
    Says statements lit (top rel attr row) ⊎ Says statements lit (before rel attr own row)

-- a clause of the derivation that some row is last: over the rows of an entity in an attribute, of each it says that it
-- stands last, or that it stands after one of them, the same for all
pub record IsLastRowClause (s : Spec) (statements : List Statement) (lits : List Lit) : Type 0 where
  pub rel : RelId
  pub attr : AttrId
  pub relation : Relation
  pub is_relation : slice_get s.relations rel.0 ≡ Some relation
  pub ent : EntId
  pub own : RowId
  pub own_of : entity_of relation.rows own.0 ≡ Some ent.0
  pub told : AreOfRows relation ent (SaysLastOrAfter statements rel attr own) lits

-- a literal says that the value of a row is current
abbrev pub SaysCurrent : List Statement → RelId → AttrId → Relation → RowId → Lit → Type 0
SaysCurrent statements rel attr relation row lit = Says statements lit (last rel attr (name_of relation.rows attr.0 row))

-- the clause that the value of some row of an entity is current in an attribute
pub record IsSomeCurrentClause (s : Spec) (statements : List Statement) (lits : List Lit) : Type 0 where
  pub rel : RelId
  pub attr : AttrId
  pub relation : Relation
  pub is_relation : slice_get s.relations rel.0 ≡ Some relation
  pub ent : EntId
  pub told : AreOfRows relation ent (SaysCurrent statements rel attr relation) lits

-- a clause that a search may learn and not count: the empty one, or one literal alone, as the unit of a goal; or one of the
-- derivation that some row is last and some value of it current
abbrev pub IsFreeClause : Spec → List Statement → List Lit → Type 0
IsFreeClause s statements lits =
    (length lits ≤ 1) ⊎ (IsLastRowClause s statements lits ⊎ IsSomeCurrentClause s statements lits)
