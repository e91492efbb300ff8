-- A row that is mapped anew, beside the rows of its entity that are mapped already.
use Rattle.std.specs.Prelude.{◌≡◌, ◌<◌, ℕ, List, Some, length, slice_get}
use Rattle.copy_functions.specs.Copies.{CopyFunction, source_at}
use Rattle.copy_functions.specs.declared.place.Place.{Place}
use Rattle.currency_base.specs.declared.ids.RowId.{RowId}
use Rattle.partial_orders.specs.Pairs.{entity_of}
use Rattle.spec_model.specs.Completion.{Before, Rankings, lists_of}
use Rattle.spec_model.specs.Facts.{rows_of}
use Rattle.spec_model.specs.declared.relation.Relation.{Relation}
use Rattle.edit_checks.specs.declared.mapped.CopiedRow.{CopiedRow}

-- rows of the two relations of a copy function
pub record AreRowsOf (relations : List Relation) (f : CopyFunction) (row : CopiedRow) : Type 0 where
  pub in_target : row.target.0 < length (rows_of relations f.target)
  pub in_source : row.source.0 < length (rows_of relations f.source)

-- at a place, where the first one's source stands before the second one's, the first stands before the second
abbrev pub KeepsOrder : Rankings → CopyFunction → Place → CopiedRow → CopiedRow → Type 0
KeepsOrder c f place first second = Before (lists_of c f.source.0 place.source.0) first.source second.source
    → Before (lists_of c f.target.0 place.target.0) first.target second.target

-- the same of two rows either way round
pub record KeepsBoth (c : Rankings) (f : CopyFunction) (place : Place) (row other : CopiedRow) : Type 0 where
  pub ahead : KeepsOrder c f place row other
  pub behind : KeepsOrder c f place other row

-- the same of another row, if that is mapped already
abbrev pub KeepsRow : Rankings → CopyFunction → Place → CopiedRow → RowId → Type 0
KeepsRow c f place row other = (source : RowId) → source_at f other ≡ Some source
    → KeepsBoth c f place row (record { target = other; source = source })

-- the same of each row of the target row's entity
abbrev pub KeepsPlace : List Relation → Rankings → CopyFunction → CopiedRow → Place → Type 0
KeepsPlace relations c f row place = (r : Relation) → slice_get relations f.target.0 ≡ Some r → (other : RowId)
    → entity_of r.rows other.0 ≡ entity_of r.rows row.target.0 → KeepsRow c f place row other

-- the same at each place of the copy function
abbrev pub KeepsPlaces : List Relation → Rankings → CopyFunction → CopiedRow → Type 0
KeepsPlaces relations c f row = (at : ℕ) (place : Place) → slice_get f.places at ≡ Some place
    → KeepsPlace relations c f row place
