-- A table's rows with one more.
use Rattle.std.specs.Prelude.{◌≡◌, ◌⊎◌, ℕ, ◌+◌, Bool, true, false, List, [], ◌∷◌, ◌++◌, length, Some, slice_get}
use Rattle.std.specs.List.{list_any}
use Rattle.std.specs.Str.{bytes_eq}
use Rattle.currency_base.specs.declared.row.Row.{Row}
use Rattle.currency_base.specs.declared.value.Value.{Value}
use Rattle.table_rows.specs.Rows.{row_name, entity_name, attribute_values, first_standing}
use Rattle.table_rows.specs.declared.rows.TableRows.{TableRows}
use Rattle.table_rows.specs.declared.rows.RowFault.{RowFault}
use Rattle.table_rows.specs.declared.rows.RowFault.TheVariants.{Repeated, NoMemory}

-- the name of the row of a table's next tuple
abbrev pub next_name : Bool → TableRows → List Value → List ℕ
next_name named table tuple = row_name named (length table.rows, tuple)

-- the new rows are the old ones and that of a tuple, whose name is new
pub record HasGrown (named : Bool) (old : TableRows) (tuple : List Value) (new : TableRows) : Type 0 where
  pub is_fresh : list_any (bytes_eq (next_name named old tuple)) old.names ≡ false
  pub names : new.names ≡ old.names ++ next_name named old tuple ∷ []
  pub entities : new.entities ≡ first_standing old.entities (entity_name named tuple ∷ [])
  pub row : Row
  pub rows : new.rows ≡ old.rows ++ row ∷ []
  pub name : row.name ≡ next_name named old tuple
  pub entity : slice_get new.entities row.entity.0 ≡ Some (entity_name named tuple)
  pub values : row.values ≡ attribute_values named tuple

-- why the row of a tuple is refused: for want of memory, or since its name is taken
abbrev pub IsRefusal : Bool → TableRows → List Value → RowFault → Type 0
IsRefusal named table tuple fault =
    (fault ≡ NoMemory)
    ⊎ ((list_any (bytes_eq (next_name named table tuple)) table.names ≡ true) × (fault ≡ Repeated (length table.rows + 2)))
