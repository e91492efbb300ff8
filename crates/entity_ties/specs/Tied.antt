-- Entities that copied rows tie together.
use Rattle.std.specs.Prelude.{◌≡◌, ◌<◌, ℕ, length, Some, slice_get}
use Rattle.currency_base.specs.declared.ids.RowId.{RowId}
use Rattle.copy_functions.specs.Copies.{CopyFunction, source_at}
use Rattle.partial_orders.specs.Pairs.{entity_of}
use Rattle.spec_model.specs.Spec.{Spec}
use Rattle.spec_model.specs.declared.relation.Relation.{Relation}

-- an entity of a relation
pub record Cell : Type 0 where
  pub rel : ℕ
  pub ent : ℕ

-- an entity that is there
pub record IsCell (s : Spec) (cell : Cell) : Type 0 where
  pub relation : Relation
  pub is_relation : slice_get s.relations cell.rel ≡ Some relation
  pub within : cell.ent < length relation.entities

-- a row of the one entity is copied from a row of the other
pub record IsCopiedFrom (s : Spec) (target source : Cell) : Type 0 where
  pub k : ℕ
  pub copy : CopyFunction
  pub is_copy : slice_get s.copies k ≡ Some copy
  pub target_relation : Relation
  pub source_relation : Relation
  pub is_target : slice_get s.relations copy.target.0 ≡ Some target_relation
  pub is_source : slice_get s.relations copy.source.0 ≡ Some source_relation
  pub of_target : target.rel ≡ copy.target.0
  pub of_source : source.rel ≡ copy.source.0
  pub row : RowId
  pub from : RowId
  pub mapped : source_at copy row ≡ Some from
  pub row_of : entity_of target_relation.rows row.0 ≡ Some target.ent
  pub from_of : entity_of source_relation.rows from.0 ≡ Some source.ent

-- two entities are tied: they are one, or a chain of copied rows goes from one to the other, either way at each link
pub data AreTied (s : Spec) : Cell → Cell → Type 0 where
  same : (cell : Cell) → AreTied s cell cell
  to_source : (a b c : Cell) → AreTied s a b → IsCopiedFrom s b c → AreTied s a c
  to_target : (a b c : Cell) → AreTied s a b → IsCopiedFrom s c b → AreTied s a c
