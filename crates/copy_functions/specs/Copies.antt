-- Copy functions: partial maps from rows of one relation to rows of another that have equal values at each place.
use Rattle.std.specs.Prelude.{◌≡◌, ◌≢◌, ◌<◌, ℕ, zero, suc, List, [], ◌∷◌, Option, Some, None, All, length, slice_get, slice_set}
use Rattle.std.specs.List.{slice_index_or}
use Rattle.currency_base.specs.declared.ids.RelId.{RelId}
use Rattle.currency_base.specs.declared.ids.RowId.{RowId}
use Rattle.currency_base.specs.declared.row.Row.{Row}
use Rattle.currency_base.specs.declared.value.Value.{Value}
use Rattle.copy_functions.specs.declared.place.Place.{Place}

-- ---- the map

-- a copy function: its name, its target and its source relation, its places, and by target row the source row, where there is one
pub record CopyFunction : Type 0 where
  pub name : List ℕ
  pub target : RelId
  pub source : RelId
  pub places : List Place
  pub sources : List (Option RowId)

-- what stands for a row in a list by rows, past whose end nothing stands
abbrev pub source_in : List (Option RowId) → RowId → Option RowId
source_in sources row = slice_index_or sources row.0 None

-- the source row that a target row is mapped to, if there is one
abbrev pub source_at : CopyFunction → RowId → Option RowId
source_at copy target = source_in copy.sources target

-- the list with a source row for the target row; rows between its end and that row get none
abbrev pub put_source : List (Option RowId) → ℕ → RowId → List (Option RowId)
put_source [] zero source = Some source ∷ []
put_source [] (suc target) source = None ∷ put_source [] target source
put_source (x ∷ sources) zero source = Some source ∷ sources
put_source (x ∷ sources) (suc target) source = x ∷ put_source sources target source

-- the copy function that maps one target row more
abbrev pub with_source : CopyFunction → RowId → RowId → CopyFunction
with_source copy target source = record copy { sources = put_source copy.sources target.0 source }

-- the copy function that does not map the target row; its list stays as long as it is
abbrev pub without_source : CopyFunction → RowId → CopyFunction
without_source copy target = record copy { sources = slice_set copy.sources target.0 None }

-- the new list has a source row for the target row, and is the old one for each other row
pub record IsPut (old new : List (Option RowId)) (target source : RowId) : Type 0 where
  pub mapped : source_in new target ≡ Some source
  pub others : (row : RowId) → row ≢ target → source_in new row ≡ source_in old row

-- the new copy function maps the target row to the source row, and is the old one in all else
pub record Maps (old new : CopyFunction) (target source : RowId) : Type 0 where
  pub name : new.name ≡ old.name
  pub target_relation : new.target ≡ old.target
  pub source_relation : new.source ≡ old.source
  pub places : new.places ≡ old.places
  pub mapped : source_at new target ≡ Some source
  pub others : (row : RowId) → row ≢ target → source_at new row ≡ source_at old row

-- ---- equal values

-- the values of a row, if it is there
abbrev pub values_in : Option Row → List Value
values_in None = []
values_in (Some row) = row.values

-- the values of the row of that id; there are none where there is no such row
abbrev pub values_of : List Row → RowId → List Value
values_of rows row = values_in (slice_get rows row.0)

-- the values of two rows at a place are one value
pub record AreEqualAt (target source : List Value) (place : Place) : Type 0 where
  pub value : Value
  pub in_target : slice_get target place.target.0 ≡ Some value
  pub in_source : slice_get source place.source.0 ≡ Some value

-- both rows are there, and have equal values at each place
pub record IsCopyOf (places : List Place) (target_rows source_rows : List Row) (target source : RowId) : Type 0 where
  pub in_target : target.0 < length target_rows
  pub in_source : source.0 < length source_rows
  pub equal : All (AreEqualAt (values_of target_rows target) (values_of source_rows source)) places

-- each row that is mapped has the values of its source row
abbrev pub IsCopied : CopyFunction → List Row → List Row → Type 0
IsCopied copy target_rows source_rows =
    (target source : RowId) → source_at copy target ≡ Some source → IsCopyOf copy.places target_rows source_rows target source
