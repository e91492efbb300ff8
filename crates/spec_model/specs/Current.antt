-- Current values, and the current instance.
use Rattle.std.specs.Prelude.{◌≡◌, ◌-◌, ◌<◌, ℕ, List, [], ◌∷◌, length, Option, Some, slice_get, slice_index_or}
use Rattle.currency_base.specs.declared.ids.RowId.{RowId}
use Rattle.currency_base.specs.declared.row.Row.{Row}
use Rattle.currency_base.specs.declared.value.Value.{Value}
use Rattle.currency_base.specs.declared.value.Value.TheVariants.{Text}
use Rattle.denial_rules.specs.Instances.{field_value}
use Rattle.spec_model.specs.Completion.{Rankings, ranking_of}
use Rattle.spec_model.specs.declared.relation.Relation.{Relation}

-- the last row of a list, if it has a row
abbrev pub last_row : List RowId → Option RowId
last_row list = slice_get list (length list - 1)

-- the current value of an attribute of an entity of a relation: the value of the last row of the entity's list
abbrev pub current_value : Rankings → ℕ → List Row → ℕ → ℕ → Option Value
current_value c rel rows attr ent = field_value rows (last_row (ranking_of c rel attr ent)) attr

-- the current tuple of an entity of a relation: the entity's name as a text, then its current values, attribute by attribute
pub record IsCurrentTuple (c : Rankings) (rel : ℕ) (r : Relation) (ent : ℕ) (tuple : List Value) : Type 0 where
  pub name : List ℕ
  pub values : List Value
  pub is_name : slice_get r.entities ent ≡ Some name
  pub tuple_is : tuple ≡ Text name ∷ values
  pub per_attr : length values ≡ length r.attrs
  pub current : (attr : ℕ) → attr < length r.attrs → slice_get values attr ≡ current_value c rel r.rows attr ent

-- one tuple for each entity of a relation, in the order of the entities: its current tuple
pub record AreCurrentTuples (c : Rankings) (rel : ℕ) (r : Relation) (tuples : List (List Value)) : Type 0 where
  pub per_entity : length tuples ≡ length r.entities
  pub each : (ent : ℕ) (tuple : List Value) → slice_get tuples ent ≡ Some tuple → IsCurrentTuple c rel r ent tuple

-- the current instance of a completion: for each relation the current tuples of its entities
pub record IsCurrentInstance (relations : List Relation) (c : Rankings) (instance : List (List (List Value))) : Type 0 where
  pub per_relation : length instance ≡ length relations
  pub each : (rel : ℕ) (r : Relation) → slice_get relations rel ≡ Some r
      → AreCurrentTuples c rel r (slice_index_or instance rel [])
