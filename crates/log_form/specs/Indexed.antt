-- The rows of the entities of all relations, where a log needs them.
use Rattle.std.specs.Prelude.{◌≡◌, ℕ, Bool, true, false, List, [], length, Some, slice_get, slice_index_or}
use Rattle.std.specs.List.{list_any}
use Rattle.currency_base.specs.declared.ids.RowId.{RowId}
use Rattle.entity_rows.specs.Members.{AreEntityRows}
use Rattle.refutation_log.specs.declared.statement.Statement.{Statement}
use Rattle.refutation_log.specs.declared.statement.Statement.TheVariants.{Before, Top, Last, Answer}
use Rattle.spec_model.specs.declared.relation.Relation.{Relation}

-- the rows of each entity, for each relation
pub record AreIndexed (relations : List Relation) (index : List (List (List RowId))) : Type 0 where
  pub per_relation : length index ≡ length relations
  pub each : (rel : ℕ) (r : Relation) → slice_get relations rel ≡ Some r
      → AreEntityRows r.rows (length r.entities) (slice_index_or index rel [])

-- the statement says that a row's value is the current one
abbrev pub is_last : Statement → Bool
is_last (Before rel attr earlier later) = false
is_last (Top rel attr row) = false
is_last (Last rel attr row) = true
is_last (Answer tuple) = false

-- the rows are indexed, if one of the statements says that a row's value is the current one
abbrev pub IsIndexFor : List Statement → List Relation → List (List (List RowId)) → Type 0
IsIndexFor statements relations index = list_any is_last statements ≡ true → AreIndexed relations index
