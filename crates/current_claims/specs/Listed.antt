-- What is told of the entities of asked relations, one after another.
use Rattle.std.specs.Prelude.{◌≡◌, ◌⊎◌, ◌<◌, ◌≤◌, ℕ, List, [], ◌∷◌, ◌++◌, length, All, Contains, Some, slice_get}
use Rattle.currency_base.specs.declared.ids.EntId.{EntId}
use Rattle.currency_base.specs.declared.ids.RelId.{RelId}
use Rattle.currency_base.specs.declared.ids.RowId.{RowId}
use Rattle.currency_base.specs.declared.value.Value.{Value}
use Rattle.partial_orders.specs.Pairs.{entity_of}
use Rattle.spec_model.specs.Completion.{Rankings, ranking_of}
use Rattle.spec_model.specs.Current.{current_value, last_row}
use Rattle.spec_model.specs.declared.relation.Relation.{Relation}
use Rattle.report_model.specs.declared.verdict.Current.{Current}
use Rattle.report_verify.specs.Asked.{IsOfAsked, HasValues, IsItemBefore}
use Rattle.report_verify.specs.Supported.{item_needs}
use Rattle.report_model.specs.Writable.{IsItemOf}
use Rattle.currency_base.specs.Values.{IsValue}
use Rattle.current_claims.specs.Claims.{AreOfRows}
use Rattle.current_claims.specs.declared.claims.Claims.{Claims}
use Rattle.current_claims.specs.declared.claims.CurrentRow.{CurrentRow}

-- ---- an entity

-- the current values of the first attributes of an entity, which can be written
pub record AreValuesOf (r : Relation) (c : Rankings) (rel ent count : ℕ) (values : List Value) : Type 0 where
  pub per_attr : length values ≡ count
  pub current : (attr : ℕ) → attr < count → slice_get values attr ≡ current_value c rel r.rows attr ent
  pub writable : All IsValue values

-- the row that stands last in the list of an attribute and an entity
pub record IsLastAt (r : Relation) (c : Rankings) (rel : RelId) (ent : EntId) (attr : ℕ) (p : CurrentRow) : Type 0 where
  pub row : RowId
  pub is_row : p ≡ record { rel = rel; attr = record { 0 = attr }; ent = ent; row = row }
  pub row_within : row.0 < length r.rows
  pub of_entity : entity_of r.rows row.0 ≡ Some ent.0
  pub is_last : last_row (ranking_of c rel.0 attr ent.0) ≡ Some row

-- the rows that stand last in the lists of the first attributes of an entity
pub record AreLastOf (r : Relation) (c : Rankings) (rel : RelId) (ent : EntId) (count : ℕ) (rows : List CurrentRow) : Type 0 where
  pub per_attr : length rows ≡ count
  pub each : (attr : ℕ) (p : CurrentRow) → slice_get rows attr ≡ Some p → IsLastAt r c rel ent attr p

-- a list with these rows behind the others
pub record AddsLastOf (r : Relation) (c : Rankings) (rel : RelId) (ent : EntId) (count : ℕ)
    (old new : List CurrentRow) : Type 0 where
  pub more : List CurrentRow
  pub are_last : AreLastOf r c rel ent count more
  pub grown : new ≡ old ++ more

-- the item of an entity and its rows behind the others
pub record AddsEntity (relations : List Relation) (c : Rankings) (rel : RelId) (ent : EntId) (old new : Claims) : Type 0 where
  pub relation : Relation
  pub is_relation : slice_get relations rel.0 ≡ Some relation
  pub ent_within : ent.0 < length relation.entities
  pub values : List Value
  pub few : length values ≤ 4294967294
  pub are_values : AreValuesOf relation c rel.0 ent.0 (length relation.attrs) values
  pub more : List CurrentRow
  pub are_last : AreLastOf relation c rel ent (length relation.attrs) more
  pub items_grown : new.items ≡ old.items ++ record { rel = rel; ent = ent; values = values } ∷ []
  pub rows_grown : new.rows ≡ old.rows ++ more

-- ---- one entity after another

-- the place of an entity comes before another place, in the order of relation and entity
abbrev pub IsAhead : ℕ → ℕ → ℕ → ℕ → Type 0
IsAhead r e rel ent = (r < rel) ⊎ ((r ≡ rel) × (e < ent))

-- the item of an entity is among these
pub record HasItem (items : List Current) (rel : RelId) (ent : EntId) : Type 0 where
  pub item : Current
  pub listed : Contains items item
  pub rel_is : item.rel ≡ rel
  pub ent_is : item.ent ≡ ent

-- the items are those of the entities of asked relations that come before a place, and the rows have their values
pub record AreClaimsUpTo (relations : List Relation) (rels : List RelId) (c : Rankings) (rel ent : ℕ)
    (claims : Claims) : Type 0 where
  pub only : All (λ item. IsOfAsked relations rels item.rel item.ent) claims.items
  pub all : (r : RelId) (e : EntId) → IsOfAsked relations rels r e → IsAhead r.0 e.0 rel ent → HasItem claims.items r e
  pub values : All (HasValues relations) claims.items
  pub ordered : (i j : ℕ) (a b : Current) → i < j → slice_get claims.items i ≡ Some a → slice_get claims.items j ≡
      Some b → IsItemBefore a b
  pub below : All (λ item. IsAhead item.rel.0 item.ent.0 rel ent) claims.items
  pub writable : All (IsItemOf relations) claims.items
  pub rows : AreOfRows relations rels c claims.rows (item_needs 0 claims.items)
