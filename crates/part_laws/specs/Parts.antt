-- Parts of a specification: the rows of some of its entities, closed under copied rows.
use Rattle.std.specs.Prelude.{◌≡◌, ◌<◌, ◌↔◌, ℕ, Bool, true, List, [], length, map, All, Some, slice_get, slice_index_or, Contains}
use Rattle.currency_base.specs.declared.ids.EntId.{EntId}
use Rattle.currency_base.specs.declared.ids.RowId.{RowId}
use Rattle.currency_base.specs.declared.pair.Pair.{Pair}
use Rattle.currency_base.specs.declared.row.Row.{Row}
use Rattle.copy_functions.specs.Copies.{CopyFunction, source_at}
use Rattle.partial_orders.specs.Pairs.{entity_of}
use Rattle.spec_model.specs.Spec.{Spec}
use Rattle.spec_model.specs.Completion.{Rankings, ranking_of}
use Rattle.spec_model.specs.declared.relation.Relation.{Relation}

-- ---- which rows and entities a part has

-- whether a part has an entity of a relation
abbrev pub Scope : Type 0
Scope = ℕ → ℕ → Bool

-- the rows and the entities of a part, per relation, by their numbers in the whole: the number in the part is the place
pub record Places : Type 0 where
  pub rows : List (List RowId)
  pub entities : List (List EntId)

-- those of a relation
abbrev pub rows_in : Places → ℕ → List RowId
rows_in n rel = slice_index_or n.rows rel []

abbrev pub entities_in : Places → ℕ → List EntId
entities_in n rel = slice_index_or n.entities rel []

-- the rows ascend
abbrev pub RowsAscend : List RowId → Type 0
RowsAscend rows = (i j : ℕ) (x y : RowId) → i < j → slice_get rows i ≡ Some x → slice_get rows j ≡ Some y → x.0 < y.0

-- the entities ascend
abbrev pub EntitiesAscend : List EntId → Type 0
EntitiesAscend entities = (i j : ℕ) (x y : EntId) → i < j → slice_get entities i ≡ Some x → slice_get entities j ≡
    Some y → x.0 < y.0

-- a row stands for an entity that the part has
pub record IsRowIn (scope : Scope) (rel : ℕ) (table : List Row) (row : RowId) : Type 0 where
  pub ent : ℕ
  pub is_of : entity_of table row.0 ≡ Some ent
  pub is_in : scope rel ent ≡ true

-- the rows and the entities of a scope, each in order: the entities that are in it, and their rows
pub record ArePlacesOf (relations : List Relation) (scope : Scope) (n : Places) : Type 0 where
  pub rows_per_relation : length n.rows ≡ length relations
  pub entities_per_relation : length n.entities ≡ length relations
  pub rows_ascend : (rel : ℕ) → RowsAscend (rows_in n rel)
  pub entities_ascend : (rel : ℕ) → EntitiesAscend (entities_in n rel)
  pub rows : (rel : ℕ) (r : Relation) → slice_get relations rel ≡ Some r
      → (row : RowId) → Contains (rows_in n rel) row ↔ IsRowIn scope rel r.rows row
  pub entities : (rel : ℕ) (r : Relation) → slice_get relations rel ≡ Some r
      → (ent : EntId) → Contains (entities_in n rel) ent ↔ ((ent.0 < length r.entities) × (scope rel ent.0 ≡ true))

-- a scope is closed: a mapped row and the row that it is copied from are of entities that are both in it, or both not
abbrev pub IsClosed : Spec → Scope → Type 0
IsClosed s scope = (k : ℕ) (copy : CopyFunction) → slice_get s.copies k ≡ Some copy
    → (target source : Relation) → slice_get s.relations copy.target.0 ≡ Some target → slice_get s.relations
    copy.source.0 ≡ Some source
    → (row from : RowId) → source_at copy row ≡ Some from
    → (ent source_ent : ℕ) → entity_of target.rows row.0 ≡ Some ent → entity_of source.rows from.0 ≡ Some source_ent
    → scope copy.target.0 ent ≡ scope copy.source.0 source_ent

-- ---- the part as a specification

-- a row of the part is one of the whole, which stands for the same entity by its number in the part
pub record IsRowPart (table : List Row) (entities : List EntId) (row : RowId) (new : Row) : Type 0 where
  pub old : Row
  pub is_old : slice_get table row.0 ≡ Some old
  pub name : new.name ≡ old.name
  pub values : new.values ≡ old.values
  pub entity : slice_get entities new.entity.0 ≡ Some old.entity

-- a pair of rows of the part, and the pair that it is in the whole
pub record IsPairPart (rows : List RowId) (new old : Pair) : Type 0 where
  pub attr : new.attr ≡ old.attr
  pub earlier : slice_get rows new.earlier.0 ≡ Some old.earlier
  pub later : slice_get rows new.later.0 ≡ Some old.later

-- a relation of the part: these rows, these entities, and the given pairs of these rows
pub record IsRelationPart (r : Relation) (rows : List RowId) (entities : List EntId) (new : Relation) : Type 0 where
  pub name : new.name ≡ r.name
  pub attrs : new.attrs ≡ r.attrs
  pub per_row : length new.rows ≡ length rows
  pub each_row : (k : ℕ) (row : RowId) (one : Row) → slice_get rows k ≡ Some row → slice_get new.rows k ≡ Some one
      → IsRowPart r.rows entities row one
  pub per_entity : length new.entities ≡ length entities
  pub each_entity : (k : ℕ) (ent : EntId) → slice_get entities k ≡ Some ent → slice_get new.entities k ≡ slice_get
      r.entities ent.0
  pub given_are : (p : Pair) → Contains new.given p → (old : Pair) × IsPairPart rows p old × Contains r.given old
  pub given_all : (p old : Pair) → IsPairPart rows p old → Contains r.given old → Contains new.given p

-- a copy function of the part: these rows of its target, mapped as in the whole
pub record IsCopyPart (copy : CopyFunction) (targets sources : List RowId) (new : CopyFunction) : Type 0 where
  pub name : new.name ≡ copy.name
  pub target : new.target ≡ copy.target
  pub source : new.source ≡ copy.source
  pub places : new.places ≡ copy.places
  pub mapped_are : (row from : RowId) → source_at new row ≡ Some from
      → (old old_from : RowId) × (slice_get targets row.0 ≡ Some old) × (slice_get sources from.0 ≡ Some old_from)
      × (source_at copy old ≡ Some old_from)
  pub mapped_all : (row from old old_from : RowId) → slice_get targets row.0 ≡ Some old → slice_get sources from.0 ≡ Some old_from
      → source_at copy old ≡ Some old_from → source_at new row ≡ Some from

-- a part of a specification: the rows of the entities of a closed scope, with all rules and copy functions
pub record IsPartOf (s : Spec) (scope : Scope) (n : Places) (part : Spec) : Type 0 where
  pub places : ArePlacesOf s.relations scope n
  pub closed : IsClosed s scope
  pub per_relation : length part.relations ≡ length s.relations
  pub relations : (rel : ℕ) (r new : Relation) → slice_get s.relations rel ≡ Some r → slice_get part.relations rel ≡ Some new
      → IsRelationPart r (rows_in n rel) (entities_in n rel) new
  pub rules : part.rules ≡ s.rules
  pub per_copy : length part.copies ≡ length s.copies
  pub copies : (k : ℕ) (copy new : CopyFunction) → slice_get s.copies k ≡ Some copy → slice_get part.copies k ≡ Some new
      → IsCopyPart copy (rows_in n copy.target.0) (rows_in n copy.source.0) new

-- ---- completions

-- the row of the whole that a row of the part is
abbrev pub whole_row : List RowId → RowId → RowId
whole_row rows row = slice_index_or rows row.0 row

-- a completion of the part says of its rows what one of the whole says of them
pub record IsNarrowed (relations : List Relation) (n : Places) (c narrow : Rankings) : Type 0 where
  pub within : (rel attr k : ℕ) → All (λ row. row.0 < length (rows_in n rel)) (ranking_of narrow rel attr k)
  pub same : (rel : ℕ) (r : Relation) → slice_get relations rel ≡ Some r → (attr : ℕ) → attr < length r.attrs
      → (k : ℕ) (ent : EntId) → slice_get (entities_in n rel) k ≡ Some ent
      → ranking_of c rel attr ent.0 ≡ map (whole_row (rows_in n rel)) (ranking_of narrow rel attr k)

-- two completions rank the rows of the entities that are not in a scope alike
abbrev pub AreSameBeyond : List Relation → Scope → Rankings → Rankings → Type 0
AreSameBeyond relations scope c other = (rel : ℕ) (r : Relation) → slice_get relations rel ≡ Some r
    → (attr ent : ℕ) → attr < length r.attrs → ent < length r.entities → (scope rel ent ≡ true → ⊥)
    → ranking_of c rel attr ent ≡ ranking_of other rel attr ent
