-- The links between entities that mapped rows make.
use Rattle.std.specs.Prelude.{◌≡◌, ◌<◌, ◌⊎◌, ◌+◌, ℕ, List, Some, Contains, length, slice_get, slice_index}
use Rattle.currency_base.specs.declared.ids.RowId.{RowId}
use Rattle.currency_base.specs.declared.row.Row.{Row}
use Rattle.copy_functions.specs.Copies.{CopyFunction, source_at}
use Rattle.partial_orders.specs.Pairs.{entity_of}
use Rattle.spec_model.specs.Spec.{Spec}
use Rattle.spec_model.specs.declared.relation.Relation.{Relation}
use Rattle.entity_ties.specs.declared.links.Link.{Link}
use Rattle.entity_ties.specs.Classes.{HasLink}
use Rattle.entity_ties.specs.Tied.{Cell, IsCopiedFrom}

-- the number of an entity, where those of each relation follow its first number
abbrev pub number : List ℕ → Cell → ℕ
number firsts cell = slice_index firsts cell.rel + cell.ent

-- the link of a mapped row, where the first entities of both relations have these numbers
pub record IsLinkOf (copy : CopyFunction) (targets sources : List Row) (first first_source : ℕ) (row : RowId)
    (link : Link) : Type 0 where
  pub from : RowId
  pub ent : ℕ
  pub source_ent : ℕ
  pub mapped : source_at copy row ≡ Some from
  pub row_of : entity_of targets row.0 ≡ Some ent
  pub from_of : entity_of sources from.0 ≡ Some source_ent
  pub is_one : link.one ≡ first + ent
  pub is_other : link.other ≡ first_source + source_ent

-- the link of one of the first rows
pub record IsLinkBelow (copy : CopyFunction) (targets sources : List Row) (first first_source bound : ℕ)
    (link : Link) : Type 0 where
  pub row : RowId
  pub below : row.0 < bound
  pub is_link : IsLinkOf copy targets sources first first_source row link

-- the links of the first rows were added
pub record AddsLinks (copy : CopyFunction) (targets sources : List Row) (first first_source bound : ℕ)
    (old new : List Link) : Type 0 where
  pub kept : (link : Link) → Contains old link → Contains new link
  pub only : (link : Link) → Contains new link → Contains old link ⊎ IsLinkBelow copy targets sources first
      first_source bound link
  pub all : (row : RowId) (link : Link) → row.0 < bound → IsLinkOf copy targets sources first first_source row link
      → Contains new link

-- the links of a copy function's rows were added
pub record AddsLinksOf (relations : List Relation) (firsts : List ℕ) (copy : CopyFunction) (old new : List Link) : Type 0 where
  pub target : Relation
  pub source : Relation
  pub is_target : slice_get relations copy.target.0 ≡ Some target
  pub is_source : slice_get relations copy.source.0 ≡ Some source
  pub adds : AddsLinks copy target.rows source.rows (slice_index firsts copy.target.0)
      (slice_index firsts copy.source.0) (length target.rows) old new

-- a link is that of two entities of which a row of the one is copied from a row of the other
pub record IsLinkBetween (s : Spec) (firsts : List ℕ) (link : Link) : Type 0 where
  pub target : Cell
  pub source : Cell
  pub copied : IsCopiedFrom s target source
  pub is_one : link.one ≡ number firsts target
  pub is_other : link.other ≡ number firsts source

-- the links of the first copy functions
pub record AreLinksBelow (s : Spec) (firsts : List ℕ) (bound : ℕ) (links : List Link) : Type 0 where
  pub only : (link : Link) → Contains links link → IsLinkBetween s firsts link
  pub all : (a b : Cell) (copied : IsCopiedFrom s a b) → copied.k < bound → HasLink links (number firsts a) (number firsts b)

-- the links of all copy functions
pub record AreLinksOf (s : Spec) (firsts : List ℕ) (links : List Link) : Type 0 where
  pub only : (link : Link) → Contains links link → IsLinkBetween s firsts link
  pub all : (a b : Cell) → IsCopiedFrom s a b → HasLink links (number firsts a) (number firsts b)
