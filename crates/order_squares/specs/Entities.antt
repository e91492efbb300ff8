-- The entities of relations and their rows, by the number of the relation.
use Rattle.std.specs.Prelude.{◌≡◌, ℕ, List, [], map, length, slice_get}
use Rattle.std.specs.Option.{option_map_or}
use Rattle.currency_base.specs.declared.ids.RowId.{RowId}
use Rattle.entity_lists.specs.Lists.{Grouping, entities_of, rows_of}
use Rattle.spec_model.specs.Facts.{AreRelations}
use Rattle.spec_model.specs.declared.relation.Relation.{Relation}

-- how many entities a relation has
abbrev pub count_of : List Relation → ℕ → ℕ
count_of relations rel = option_map_or (λ r. length r.entities) (slice_get relations rel) 0

-- the entity of each of a relation's rows
abbrev pub entities_in : List Relation → ℕ → List ℕ
entities_in relations rel = option_map_or (λ r. entities_of r.rows) (slice_get relations rel) []

-- the rows of an entity of a relation, ascending
abbrev pub members_of : List Relation → ℕ → ℕ → List RowId
members_of relations rel ent = rows_of (entities_in relations rel) ent

-- how many entities a relation has, and the entity of each row
abbrev pub grouping_of : Relation → Grouping
grouping_of r = record { count = length r.entities; entities = entities_of r.rows }

-- for each relation its entities
pub record AreGrouped (relations : List Relation) (lists : List Grouping) : Type 0 where
  pub facts : AreRelations relations
  pub lists_are : lists ≡ map grouping_of relations
