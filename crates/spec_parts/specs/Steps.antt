-- A part while it is built, step by step.
use Rattle.std.specs.Prelude.{◌≡◌, ◌+◌, ◌<◌, ◌^◌, ℕ, List, length, All, Some, slice_get, Contains}
use Rattle.currency_base.specs.declared.ids.EntId.{EntId}
use Rattle.currency_base.specs.declared.ids.RowId.{RowId}
use Rattle.currency_base.specs.declared.pair.Pair.{Pair}
use Rattle.currency_base.specs.declared.row.Row.{Row}
use Rattle.copy_functions.specs.Copies.{CopyFunction, source_at, values_of, IsCopied}
use Rattle.partial_orders.specs.Pairs.{entity_of}
use Rattle.spec_model.specs.Facts.{IsRelation, AreRelations}
use Rattle.spec_model.specs.Spec.{Spec}
use Rattle.spec_model.specs.declared.relation.Relation.{Relation}
use Rattle.part_laws.specs.Parts.{Places, RowsAscend, EntitiesAscend, rows_in, entities_in, IsRowPart, IsPairPart, IsCopyPart}

-- ---- lists of parts

-- as many items, and the ones at each place go together
pub record ArePaired {A B : Type 0} (R : A → B → Type 0) (xs : List A) (ys : List B) : Type 0 where
  pub many : length ys ≡ length xs
  pub each : (k : ℕ) (x : A) (y : B) → slice_get xs k ≡ Some x → slice_get ys k ≡ Some y → R x y

-- the name of the part's entity is that of the whole's
abbrev pub IsNamePart : List (List ℕ) → EntId → List ℕ → Type 0
IsNamePart names ent name = slice_get names ent.0 ≡ Some name

-- a row of the whole that stands for one of these entities
pub record IsListedRow (table : List Row) (entities : List EntId) (row : RowId) : Type 0 where
  pub old : Row
  pub is_old : slice_get table row.0 ≡ Some old
  pub listed : Contains entities old.entity

-- ---- a relation

-- rows and entities that can be cut out of a relation: these entities, and all of their rows
pub record IsCuttable (r : Relation) (rows : List RowId) (entities : List EntId) : Type 0 where
  pub facts : IsRelation r
  pub rows_ascend : RowsAscend rows
  pub entities_ascend : EntitiesAscend entities
  pub few_rows : length rows + 1 < 2 ^ 32
  pub few_entities : length entities + 1 < 2 ^ 32
  pub listed : All (IsListedRow r.rows entities) rows
  pub named : All (λ ent. ent.0 < length r.entities) entities
  pub complete : (row : RowId) (ent : EntId) → entity_of r.rows row.0 ≡ Some ent.0 → Contains entities ent → Contains rows row

-- a relation of the part, some of whose given pairs may be missing
pub record IsPartSoFar (r : Relation) (ids : List RowId) (ents : List EntId) (new : Relation) : Type 0 where
  pub name : new.name ≡ r.name
  pub attrs : new.attrs ≡ r.attrs
  pub rows : ArePaired (IsRowPart r.rows ents) ids new.rows
  pub entities : ArePaired (IsNamePart r.entities) ents new.entities
  pub given : (p : Pair) → Contains new.given p → (old : Pair) × IsPairPart ids p old × Contains r.given old

-- ---- relations

-- the same of each relation
pub record AreCuttable (relations : List Relation) (n : Places) : Type 0 where
  pub facts : AreRelations relations
  pub rows_per_relation : length n.rows ≡ length relations
  pub entities_per_relation : length n.entities ≡ length relations
  pub each : (rel : ℕ) (r : Relation) → slice_get relations rel ≡ Some r → IsCuttable r (rows_in n rel) (entities_in n rel)

-- so many relations of the part, some of whose given pairs may be missing
pub record ArePartsSoFar (relations : List Relation) (n : Places) (count : ℕ) (part : List Relation) : Type 0 where
  pub many : length part ≡ count
  pub each : (rel : ℕ) (r new : Relation) → slice_get relations rel ≡ Some r → slice_get part rel ≡ Some new
      → IsPartSoFar r (rows_in n rel) (entities_in n rel) new

-- ---- given pairs

-- pairs of a relation whose rows the part has
abbrev pub AreOfPart : List Relation → Places → ℕ → List Pair → Type 0
AreOfPart relations n rel pairs = (r : Relation) → slice_get relations rel ≡ Some r → (p : Pair) → Contains pairs p
    → Contains r.given p × Contains (rows_in n rel) p.earlier × Contains (rows_in n rel) p.later

-- a relation with the given pairs of the old one
pub record IsKept (old : List Relation) (rel : ℕ) (new : Relation) : Type 0 where
  pub was : Relation
  pub is_was : slice_get old rel ≡ Some was
  pub given : (p : Pair) → Contains was.given p → Contains new.given p

-- the part has more given pairs, and is the same in all else
pub record Grows (whole : Spec) (n : Places) (old new : Spec) : Type 0 where
  pub so_far : ArePartsSoFar whole.relations n (length whole.relations) new.relations
  pub kept : (rel : ℕ) (r : Relation) → slice_get new.relations rel ≡ Some r → IsKept old.relations rel r
  pub rules : new.rules ≡ old.rules
  pub copies : new.copies ≡ old.copies

-- the relation of the part has what these pairs are in it
abbrev pub HasPairs : List Relation → ℕ → List RowId → List Pair → Type 0
HasPairs part rel rows pairs = (new : Relation) → slice_get part rel ≡ Some new → (p old : Pair)
    → IsPairPart rows p old → Contains pairs old → Contains new.given p

-- and has what all given pairs of the whole's are
abbrev pub HasGiven : Spec → Places → List Relation → ℕ → Type 0
HasGiven whole n part rel = (r : Relation) → slice_get whole.relations rel ≡ Some r → HasPairs part rel (rows_in n rel) r.given

-- ---- copy functions

-- mapped rows that can be cut out of a copy function
pub record IsCopyCut (copy : CopyFunction) (targets sources : List RowId) (target_rows source_rows : List Row) : Type 0 where
  pub targets_ascend : RowsAscend targets
  pub sources_ascend : RowsAscend sources
  pub few_targets : length targets + 1 < 2 ^ 32
  pub few_sources : length sources + 1 < 2 ^ 32
  pub per_target : length target_rows ≡ length targets
  pub per_source : length source_rows ≡ length sources
  pub closed : (row from : RowId) → Contains targets row → source_at copy row ≡ Some from → Contains sources from
  pub in_target : (row old from : RowId) → slice_get targets row.0 ≡ Some old → source_at copy old ≡ Some from
      → All (λ p. p.target.0 < length (values_of target_rows row)) copy.places
  pub in_source : (row old from : RowId) → slice_get sources row.0 ≡ Some from → source_at copy old ≡ Some from
      → All (λ p. p.source.0 < length (values_of source_rows row)) copy.places

-- the rows below this one are mapped as in the whole, and no others
pub record IsCopySoFar (copy : CopyFunction) (targets sources : List RowId) (count : ℕ) (new : CopyFunction) : Type 0 where
  pub name : new.name ≡ copy.name
  pub target : new.target ≡ copy.target
  pub source : new.source ≡ copy.source
  pub places : new.places ≡ copy.places
  pub mapped_are : (row from : RowId) → source_at new row ≡ Some from
      → (old old_from : RowId) × (slice_get targets row.0 ≡ Some old) × (slice_get sources from.0 ≡ Some old_from)
      × (source_at copy old ≡ Some old_from)
  pub mapped_all : (row from old old_from : RowId) → row.0 < count → slice_get targets row.0 ≡ Some old
      → slice_get sources from.0 ≡ Some old_from
      → source_at copy old ≡ Some old_from → source_at new row ≡ Some from

-- so many copy functions of the part
pub record AreCopiesSoFar (n : Places) (copies : List CopyFunction) (count : ℕ) (new : List CopyFunction) : Type 0 where
  pub many : length new ≡ count
  pub each : (k : ℕ) (copy one : CopyFunction) → slice_get copies k ≡ Some copy → slice_get new k ≡ Some one
      → IsCopyPart copy (rows_in n copy.target.0) (rows_in n copy.source.0) one

-- where a row is of the part and mapped, the row that it is mapped to is of the part
abbrev pub AreClosedCopies : List CopyFunction → Places → Type 0
AreClosedCopies copies n = (k : ℕ) (copy : CopyFunction) → slice_get copies k ≡ Some copy → (row from : RowId)
    → Contains (rows_in n copy.target.0) row → source_at copy row ≡ Some from → Contains (rows_in n copy.source.0) from

-- the relations of the part that a copy function is between, and its mapped rows that can be cut out
pub record IsCopyCutOf (n : Places) (relations : List Relation) (copy : CopyFunction) : Type 0 where
  pub target : Relation
  pub source : Relation
  pub is_target : slice_get relations copy.target.0 ≡ Some target
  pub is_source : slice_get relations copy.source.0 ≡ Some source
  pub target_within : copy.target.0 < length n.rows
  pub source_within : copy.source.0 < length n.rows
  pub cut : IsCopyCut copy (rows_in n copy.target.0) (rows_in n copy.source.0) target.rows source.rows

-- the rows of these relations of the part are copied
abbrev pub IsCopiedIn : List Relation → CopyFunction → Type 0
IsCopiedIn relations copy = (target source : Relation) → slice_get relations copy.target.0 ≡ Some target
    → slice_get relations copy.source.0 ≡ Some source → IsCopied copy target.rows source.rows
