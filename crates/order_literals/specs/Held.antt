-- What a table holds.
use Rattle.std.specs.Prelude.{◌≡◌, ◌<◌, ℕ, List, [], All, Option, Some, length, slice_get, slice_index_or, IfSome}
use Rattle.currency_base.specs.declared.ids.RowId.{RowId}
use Rattle.entity_lists.specs.Lists.{Grouping}
use Rattle.order_literals.specs.Numbers.{Numbered}
use Rattle.order_literals.specs.declared.rows.TableRows.{TableRows}
use Rattle.order_literals.specs.declared.rows.TableRows.TheVariants.{Paired, Plain}

-- the rows of each entity
abbrev pub grouping_of : TableRows → Grouping
grouping_of (Paired rows) = rows
grouping_of (Plain rows) = rows

-- the pairs of rows are numbered
abbrev pub IsPaired : TableRows → Type 0
IsPaired (Paired rows) = Unit
IsPaired (Plain rows) = ⊥

-- of each attribute a name for each row
pub record AreNames (attrs rows : ℕ) (names : List (List RowId)) : Type 0 where
  pub per_attr : length names ≡ attrs
  pub per_row : All (λ list. length list ≡ rows) names

-- a relation with attributes has its pairs of rows numbered, and names are of all attributes and rows
pub record IsTable (attrs : ℕ) (rows : TableRows) (names : Option (List (List RowId))) : Type 0 where
  pub paired : 0 < attrs → IsPaired rows
  pub named : IfSome names (AreNames attrs (length (grouping_of rows).entities))

-- a row stands among rows whose ids rise
pub record IsAmong (rows : List RowId) (row : RowId) : Type 0 where
  pub place : ℕ
  pub at : slice_get rows place ≡ Some row
  pub rise : (i j : ℕ) (d : RowId) → i < j → j < length rows → (slice_index_or rows i d).0 < (slice_index_or rows j d).0

-- two different rows of one entity
pub record IsRowPair (entities : List ℕ) (first second : ℕ) : Type 0 where
  pub ent : ℕ
  pub first_of : slice_get entities first ≡ Some ent
  pub second_of : slice_get entities second ≡ Some ent
  pub differ : first ≡ second → ⊥

-- a row names its own value of an attribute
pub record IsOwnName (t : Numbered) (attr : ℕ) (row : RowId) : Type 0 where
  pub names : List (List RowId)
  pub wanted : t.names ≡ Some names
  pub named : slice_get (slice_index_or names attr []) row.0 ≡ Some row
