-- The rows of the entities of all relations.
use Rattle.std.specs.Prelude.{◌≡◌, ℕ, List, [], length, Some, slice_get, slice_index_or}
use Rattle.currency_base.specs.declared.ids.RowId.{RowId}
use Rattle.currency_base.specs.declared.row.Row.{Row}
use Rattle.entity_rows.specs.Members.{AreEntityRows, members}
use Rattle.partial_orders.specs.Pairs.{entity_of}
use Rattle.spec_model.specs.declared.relation.Relation.{Relation}

-- the rows of each entity, for each relation
pub record AreIndexed (relations : List Relation) (index : List (List (List RowId))) : Type 0 where
  pub per_relation : length index ≡ length relations
  pub each : (rel : ℕ) (r : Relation) → slice_get relations rel ≡ Some r
      → AreEntityRows r.rows (length r.entities) (slice_index_or index rel [])

-- the rows of the entity of a row
pub record AreOwn (rows : List Row) (row : RowId) (own : List RowId) : Type 0 where
  pub ent : ℕ
  pub of_entity : entity_of rows row.0 ≡ Some ent
  pub are : own ≡ members rows ent
