-- The entities and rows of some parts.
use Rattle.std.specs.Prelude.{◌≡◌, ◌<◌, ◌⊎◌, ◌↔◌, ℕ, List, Contains, Some, length, slice_get}
use Rattle.std.specs.List.Sorted.{IsStrictlyIncreasing}
use Rattle.currency_base.specs.declared.ids.EntId.{EntId}
use Rattle.currency_base.specs.declared.ids.RowId.{RowId}
use Rattle.entity_lists.specs.Lists.{Grouping}
use Rattle.part_laws.specs.Parts.{EntitiesAscend, RowsAscend}
use Rattle.entity_ties.specs.declared.cells.Member.{Member}
use Rattle.entity_ties.specs.Numbers.{member}
use Rattle.entity_ties.specs.Parts.{list_at}

-- entities were added to those of their relations
pub record AddsEntities (members : List Member) (old new : List (List ℕ)) : Type 0 where
  pub many : length new ≡ length old
  pub kept : (rel ent : ℕ) → Contains (list_at old rel) ent → Contains (list_at new rel) ent
  pub added : (m : Member) → Contains members m → Contains (list_at new m.rel.0) m.ent.0
  pub only : (rel ent : ℕ) → Contains (list_at new rel) ent → Contains (list_at old rel) ent ⊎ Contains members (member rel ent)

-- an entity is of one of some parts
pub record IsChosen (parts : List (List Member)) (chosen : List ℕ) (m : Member) : Type 0 where
  pub part : ℕ
  pub is_chosen : Contains chosen part
  pub has : Contains (list_at parts part) m

-- by relation, the entities of some parts
pub record AreChosen (parts : List (List Member)) (chosen : List ℕ) (relations : ℕ) (found : List (List ℕ)) : Type 0 where
  pub many : length found ≡ relations
  pub each : (m : Member) → IsChosen parts chosen m → Contains (list_at found m.rel.0) m.ent.0
  pub only : (rel ent : ℕ) → Contains (list_at found rel) ent → IsChosen parts chosen (member rel ent)

-- the same numbers, ascending and each once
pub record IsAscending (numbers ascending : List ℕ) : Type 0 where
  pub ascend : IsStrictlyIncreasing ascending
  pub same : (number : ℕ) → Contains ascending number ↔ Contains numbers number

-- a row is of one of some entities
pub record IsRowAmong (entities numbers : List ℕ) (row : ℕ) : Type 0 where
  pub ent : ℕ
  pub is_among : Contains numbers ent
  pub is_of : slice_get entities row ≡ Some ent

-- the rows of some entities, by the entity of each row
abbrev pub AreRowsOf : List ℕ → List ℕ → List ℕ → Type 0
AreRowsOf entities numbers rows = (row : ℕ) → Contains rows row ↔ IsRowAmong entities numbers row

-- some entities of a relation and their rows, in order
pub record ArePlacesIn (group : Grouping) (numbers : List ℕ) (rows : List RowId) (entities : List EntId) : Type 0 where
  pub rows_ascend : RowsAscend rows
  pub entities_ascend : EntitiesAscend entities
  pub rows_are : (row : RowId) → Contains rows row ↔ IsRowAmong group.entities numbers row.0
  pub entities_are : (ent : EntId) → Contains entities ent ↔ Contains numbers ent.0

-- the same for the first relations
pub record AreAllPlaces (groups : List Grouping) (found : List (List ℕ)) (count : ℕ) (rows : List (List RowId))
    (entities : List (List EntId)) : Type 0 where
  pub per_rows : length rows ≡ count
  pub per_entities : length entities ≡ count
  pub each : (rel : ℕ) (group : Grouping) → rel < count → slice_get groups rel ≡ Some group
      → ArePlacesIn group (list_at found rel) (list_at rows rel) (list_at entities rel)
