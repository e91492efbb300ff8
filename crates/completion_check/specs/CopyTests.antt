-- What the places of rows say of a copy function, for two rows of its target: tests that stand for the definition.
use Rattle.std.specs.Prelude.{ℕ, ◌&&◌, Bool, false, not, nat_lt, nat_eq, List, [], Option, Some, slice_index, slice_index_or}
use Rattle.currency_base.specs.declared.ids.RowId.{RowId}
use Rattle.currency_base.specs.declared.row.Row.{Row}
use Rattle.copy_functions.specs.Copies.{CopyFunction, source_at}
use Rattle.copy_functions.specs.declared.place.Place.{Place}
use Rattle.partial_orders.specs.Pairs.{entity_of}
use Rattle.completion_check.specs.Tests.{Places}

-- a copy function, the rows of its two relations, and their places
pub record CopyTried : Type 0 where
  pub copy : CopyFunction
  pub target_rows : List Row
  pub source_rows : List Row
  pub target_places : Places
  pub source_places : Places

-- two entities that are there, and are one
abbrev pub is_one_entity : Option ℕ → Option ℕ → Bool
is_one_entity (Some a) (Some b) = nat_eq a b
is_one_entity a b = false

-- two rows stand for one entity
abbrev pub are_of_one_entity : List Row → RowId → RowId → Bool
are_of_one_entity rows a b = is_one_entity (entity_of rows a.0) (entity_of rows b.0)

-- the first of two rows has the smaller place in an attribute
abbrev pub is_lower : Places → ℕ → RowId → RowId → Bool
is_lower places attr a b = nat_lt (slice_index (slice_index_or places attr []) a.0)
    (slice_index (slice_index_or places attr []) b.0)

-- two source rows are of one entity, and the first has the smaller place in the source attribute
abbrev pub is_source_lower : CopyTried → Place → RowId → RowId → Bool
is_source_lower t place a b = are_of_one_entity t.source_rows a b && is_lower t.source_places place.source.0 a b

-- two rows with these sources, if they have any, break the place
abbrev pub breaks_with : CopyTried → Place → RowId → RowId → Option RowId → Option RowId → Bool
breaks_with t place first second (Some a) (Some b) = is_source_lower t place a b
    && not (is_lower t.target_places place.target.0 first second)
breaks_with t place first second a b = false

-- two rows break the place: their sources are of one entity, the first one's has the smaller place in the source
-- attribute, and the first itself has not the smaller place in the target attribute
unfoldable pub breaks_copy : CopyTried → Place → RowId → RowId → Bool
breaks_copy t place first second = breaks_with t place first second (source_at t.copy first) (source_at t.copy second)
