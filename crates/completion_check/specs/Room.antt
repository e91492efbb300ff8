-- What a check of completions has room for.
use Rattle.std.specs.Prelude.{◌≡◌, ◌<◌, ℕ, List, [], length, Some, slice_get, slice_index_or}
use Rattle.currency_base.specs.declared.ids.RowId.{RowId}
use Rattle.entity_rows.specs.Members.{AreEntityRows}
use Rattle.spec_model.specs.declared.relation.Relation.{Relation}

-- for each relation, and each of its attributes, a place for each row; and the rows of each entity
pub record Room : Type 0 where
  pub places : List (List (List ℕ))
  pub members : List (List (List RowId))

-- a place for each row in each attribute of a relation
pub record HasPlaces (r : Relation) (places : List (List ℕ)) : Type 0 where
  pub per_attr : length places ≡ length r.attrs
  pub per_row : (attr : ℕ) → attr < length r.attrs → length (slice_index_or places attr []) ≡ length r.rows

-- the same for each relation
pub record HasAllPlaces (relations : List Relation) (places : List (List (List ℕ))) : Type 0 where
  pub per_relation : length places ≡ length relations
  pub each : (rel : ℕ) (r : Relation) → slice_get relations rel ≡ Some r → HasPlaces r (slice_index_or places rel [])

-- the rows of each entity, for each relation
pub record HasMembers (relations : List Relation) (members : List (List (List RowId))) : Type 0 where
  pub per_relation : length members ≡ length relations
  pub each : (rel : ℕ) (r : Relation) → slice_get relations rel ≡ Some r
      → AreEntityRows r.rows (length r.entities) (slice_index_or members rel [])

-- room for the completions of these relations
pub record HasRoom (relations : List Relation) (room : Room) : Type 0 where
  pub places : HasAllPlaces relations room.places
  pub members : HasMembers relations room.members
