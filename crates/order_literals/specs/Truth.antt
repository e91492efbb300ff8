-- When a statement is true in a completion.
use Rattle.std.specs.Prelude.{◌≡◌, ℕ, Bool, true, false, not, List, Some, slice_get, Contains, length}
use Rattle.currency_base.specs.declared.ids.RowId.{RowId}
use Rattle.currency_base.specs.declared.value.Value.{Value}
use Rattle.denial_rules.specs.Instances.{field_value}
use Rattle.partial_orders.specs.Pairs.{entity_of}
use Rattle.spec_model.specs.Completion.{Rankings, lists_of, ranking_of, Before}
use Rattle.spec_model.specs.Current.{last_row, current_value}
use Rattle.spec_model.specs.declared.relation.Relation.{Relation}
use Rattle.refutation_log.specs.declared.statement.Statement.{Statement}
use Rattle.refutation_log.specs.declared.statement.Statement.TheVariants as says
use Rattle.order_literals.specs.Said.{Said}

-- a row of a relation stands last in the list of its entity
pub record StandsLast (relations : List Relation) (c : Rankings) (rel attr : ℕ) (row : RowId) : Type 0 where
  pub relation : Relation
  pub is_relation : slice_get relations rel ≡ Some relation
  pub ent : ℕ
  pub of_entity : entity_of relation.rows row.0 ≡ Some ent
  pub is_last : last_row (ranking_of c rel attr ent) ≡ Some row

-- the value of a row of a relation is the current value of its entity
pub record IsCurrent (relations : List Relation) (c : Rankings) (rel attr : ℕ) (row : RowId) : Type 0 where
  pub relation : Relation
  pub is_relation : slice_get relations rel ≡ Some relation
  pub ent : ℕ
  pub of_entity : entity_of relation.rows row.0 ≡ Some ent
  pub value : Value
  pub of_row : field_value relation.rows (Some row) attr ≡ Some value
  pub current : current_value c rel relation.rows attr ent ≡ Some value

-- a statement is true in a completion, over whose current instance these tuples are answers
abbrev pub IsTrue : List Relation → Rankings → (ℕ → Type 0) → Statement → Type 0
IsTrue relations c answers (says.Before rel attr earlier later) = Before (lists_of c rel.0 attr.0) earlier later
IsTrue relations c answers (says.Top rel attr row) = StandsLast relations c rel.0 attr.0 row
IsTrue relations c answers (says.Last rel attr row) = IsCurrent relations c rel.0 attr.0 row
IsTrue relations c answers (says.Answer tuple) = answers tuple

-- a statement is true or, negated, false
abbrev pub Holds : List Relation → Rankings → (ℕ → Type 0) → Said → Type 0
Holds relations c answers s = by s.negative
  where
    by : Bool → Type 0
    by false = IsTrue relations c answers s.statement
    by true = IsTrue relations c answers s.statement → ⊥

-- what a clause says is true: one of it holds
pub record OneHolds (relations : List Relation) (c : Rankings) (answers : ℕ → Type 0) (clause : List Said) : Type 0 where
  pub said : Said
  pub is_in : Contains clause said
  pub holds : Holds relations c answers said

-- the truth of the statements in a completion: a variable is true exactly where its statement is
pub record IsTruth (relations : List Relation) (c : Rankings) (answers : ℕ → Type 0) (statements : List Statement)
    (truths : List Bool) : Type 0 where
  pub per_variable : length truths ≡ length statements
  pub each : (var : ℕ) (s : Statement) (truth : Bool) → slice_get statements var ≡ Some s → slice_get truths var ≡ Some truth
      → Holds relations c answers (record { statement = s; negative = not truth })
