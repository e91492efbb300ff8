-- What the buffer of a check of completions holds: for each row, 0 or its place in its entity's list, counted from 1.
use Rattle.std.specs.Prelude.{◌≡◌, ◌+◌, ◌<◌, ℕ, List, [], Some, length, slice_get, slice_index, slice_index_or}
use Rattle.partial_orders.specs.Pairs.{entity_of}
use Rattle.currency_base.specs.declared.ids.RowId.{RowId}
use Rattle.currency_base.specs.declared.row.Row.{Row}

-- each place is 0
abbrev pub IsClear : List ℕ → Type 0
IsClear places = (row : ℕ) → slice_index places row ≡ 0

-- the rows of an entity have no place
abbrev pub IsUnmarked : List Row → ℕ → List ℕ → Type 0
IsUnmarked rows ent places = (row : ℕ) → entity_of rows row ≡ Some ent → slice_index places row ≡ 0

-- the rows of the other entities have the places that they had
abbrev pub SameElsewhere : List Row → ℕ → List ℕ → List ℕ → Type 0
SameElsewhere rows ent old new = (row : ℕ) → (entity_of rows row ≡ Some ent → ⊥) → slice_index new row ≡ slice_index old row

-- a list of rows of an entity: each has its place, counted from 1, and no other row of the entity has one
pub record AreMarksOf (rows : List Row) (ent : ℕ) (list : List RowId) (places : List ℕ) : Type 0 where
  pub listed : (i : ℕ) (row : RowId) → slice_get list i ≡ Some row
      → (entity_of rows row.0 ≡ Some ent) × (slice_index places row.0 ≡ i + 1)
  pub marked : (i : ℕ) (row : RowId) → entity_of rows row.0 ≡ Some ent → slice_index places row.0 ≡ i + 1
      → slice_get list i ≡ Some row

-- the lists of one attribute, one per entity: each row has its place in its entity's list
abbrev pub AreMarked : List Row → List (List RowId) → List ℕ → Type 0
AreMarked rows lists places = (ent : ℕ) → ent < length lists → AreMarksOf rows ent (slice_index_or lists ent []) places
