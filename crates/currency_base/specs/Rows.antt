-- Rows and the entities that they stand for.
use Rattle.std.specs.Prelude.{◌≡◌, ℕ, List, Some, slice_get}
use Rattle.currency_base.specs.declared.row.Row.{Row}

-- one of the rows stands for the entity
pub record HasRowOf (rows : List Row) (ent : ℕ) : Type 0 where
  pub at : ℕ
  pub row : Row
  pub is_row : slice_get rows at ≡ Some row
  pub is_of : row.entity.0 ≡ ent
