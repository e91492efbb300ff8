-- When a completion is compatible with a copy function.
use Rattle.std.specs.Prelude.{◌≡◌, ◌⊎◌, ◌<◌, ℕ, List, [], Some, slice_get, slice_index_or}
use Rattle.currency_base.specs.declared.ids.RowId.{RowId}
use Rattle.currency_base.specs.declared.row.Row.{Row}
use Rattle.copy_functions.specs.Copies.{CopyFunction, source_at}
use Rattle.copy_functions.specs.declared.place.Place.{Place}
use Rattle.partial_orders.specs.Pairs.{entity_of}
use Rattle.spec_model.specs.Completion.{Before}
use Rattle.spec_model.specs.Satisfies.{Lists}

-- two mapped rows of one entity, and the rows that they were copied from, which are of one entity too
pub record AreCopiedTogether (copy : CopyFunction) (target_rows source_rows : List Row) (first second : RowId) : Type 0 where
  pub first_source : RowId
  pub second_source : RowId
  pub first_is : source_at copy first ≡ Some first_source
  pub second_is : source_at copy second ≡ Some second_source
  pub ent : ℕ
  pub first_of : entity_of target_rows first.0 ≡ Some ent
  pub second_of : entity_of target_rows second.0 ≡ Some ent
  pub source_ent : ℕ
  pub first_source_of : entity_of source_rows first_source.0 ≡ Some source_ent
  pub second_source_of : entity_of source_rows second_source.0 ≡ Some source_ent

-- a copy function, the rows of its two relations, and their lists: per attribute and entity
pub record Copying : Type 0 where
  pub copy : CopyFunction
  pub target_rows : List Row
  pub source_rows : List Row
  pub target_lists : Lists
  pub source_lists : Lists

-- two mapped rows keep the order of their sources at a place: if the first one's source stands before the second one's in
-- the source attribute, the first stands before the second in the target attribute
abbrev pub KeepsSourceOrder : Copying → Place → RowId → RowId → Type 0
KeepsSourceOrder c place first second = (rows : AreCopiedTogether c.copy c.target_rows c.source_rows first second)
    → Before (slice_index_or c.source_lists place.source.0 []) rows.first_source rows.second_source
    → Before (slice_index_or c.target_lists place.target.0 []) first second

-- compatible: at each place all mapped rows of one entity keep the order of their sources
abbrev pub IsCompatible : Copying → Type 0
IsCompatible c = (at : ℕ) (place : Place) → slice_get c.copy.places at ≡ Some place → (first second : RowId)
    → KeepsSourceOrder c place first second

-- two mapped rows that do not keep the order of their sources at a place
pub record BreaksSourceOrder (c : Copying) (place : Place) (first second : RowId) : Type 0 where
  pub rows : AreCopiedTogether c.copy c.target_rows c.source_rows first second
  pub sources : Before (slice_index_or c.source_lists place.source.0 []) rows.first_source rows.second_source
  pub targets : Before (slice_index_or c.target_lists place.target.0 []) first second → ⊥

-- of two pairs of rows, the first stands before the second: by their first rows, and then by their second
abbrev pub IsRowPairBefore : RowId → RowId → RowId → RowId → Type 0
IsRowPairBefore first second first' second' = (first.0 < first'.0) ⊎ ((first ≡ first') × (second.0 < second'.0))
