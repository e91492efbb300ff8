-- Completions: an order of each entity's rows, attribute by attribute.
use Rattle.std.specs.Prelude.{◌≡◌, ◌<◌, ℕ, List, [], length, Some, slice_get, slice_set, slice_index_or, Contains}
use Rattle.partial_orders.specs.Pairs.{entity_of}
use Rattle.currency_base.specs.declared.ids.RowId.{RowId}
use Rattle.currency_base.specs.declared.row.Row.{Row}
use Rattle.spec_model.specs.declared.relation.Relation.{Relation}

-- an order of the rows of each entity, attribute by attribute: per relation, attribute and entity a list of rows, the
-- oldest first
abbrev pub Rankings : Type 0
Rankings = List (List (List (List RowId)))

-- the lists of an attribute of a relation, one per entity
abbrev pub lists_of : Rankings → ℕ → ℕ → List (List RowId)
lists_of c rel attr = slice_index_or (slice_index_or c rel []) attr []

-- the list of an attribute and an entity of a relation
abbrev pub ranking_of : Rankings → ℕ → ℕ → ℕ → List RowId
ranking_of c rel attr ent = slice_index_or (lists_of c rel attr) ent []

-- one list per relation, attribute and entity
pub record HasShape (relations : List Relation) (c : Rankings) : Type 0 where
  pub per_relation : length c ≡ length relations
  pub per_attr : (rel : ℕ) (r : Relation) → slice_get relations rel ≡ Some r
      → length (slice_index_or c rel []) ≡ length r.attrs
  pub per_entity : (rel : ℕ) (r : Relation) → slice_get relations rel ≡ Some r
      → (attr : ℕ) → attr < length r.attrs → length (lists_of c rel attr) ≡ length r.entities

-- the list holds each row of the entity exactly once, and no other row
pub record IsRanking (rows : List Row) (ent : ℕ) (list : List RowId) : Type 0 where
  pub only : (row : RowId) → Contains list row → entity_of rows row.0 ≡ Some ent
  pub once : (i j : ℕ) (row : RowId) → slice_get list i ≡ Some row → slice_get list j ≡ Some row → i ≡ j
  pub all : (row : RowId) → entity_of rows row.0 ≡ Some ent → Contains list row

-- for each relation, attribute and entity a list that holds each row of the entity exactly once
pub record IsCompletion (relations : List Relation) (c : Rankings) : Type 0 where
  pub shape : HasShape relations c
  pub ranked : (rel : ℕ) (r : Relation) → slice_get relations rel ≡ Some r
      → (attr ent : ℕ) → attr < length r.attrs → ent < length r.entities
      → IsRanking r.rows ent (ranking_of c rel attr ent)

-- one row stands before another: both in one of the lists, the first at the smaller place
pub record Before (lists : List (List RowId)) (earlier later : RowId) : Type 0 where
  pub ent : ℕ
  pub low : ℕ
  pub high : ℕ
  pub below : low < high
  pub first : slice_get (slice_index_or lists ent []) low ≡ Some earlier
  pub second : slice_get (slice_index_or lists ent []) high ≡ Some later

-- the rankings with one list replaced
abbrev pub with_ranking : Rankings → ℕ → ℕ → ℕ → List RowId → Rankings
with_ranking c rel attr ent list =
    slice_set c rel (slice_set (slice_index_or c rel []) attr (slice_set (lists_of c rel attr) ent list))

-- each list is empty
abbrev pub IsBlank : Rankings → Type 0
IsBlank c = (rel attr ent : ℕ) → ranking_of c rel attr ent ≡ []
