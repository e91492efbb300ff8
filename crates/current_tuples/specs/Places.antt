-- Where current values stand.
use Rattle.std.specs.Prelude.{◌≡◌, ◌<◌, ℕ, List, All, Some, length, slice_get}
use Rattle.currency_base.specs.declared.ids.RowId.{RowId}
use Rattle.currency_base.specs.declared.row.Row.{Row}
use Rattle.spec_model.specs.declared.relation.Relation.{Relation}

-- an entity of one of the relations
pub record IsEntityOf (relations : List Relation) (rel ent : ℕ) : Type 0 where
  pub relation : Relation
  pub is_relation : slice_get relations rel ≡ Some relation
  pub ent_within : ent < length relation.entities

-- an attribute and an entity of one of the relations
pub record IsPlaceOf (relations : List Relation) (rel attr ent : ℕ) : Type 0 where
  pub relation : Relation
  pub is_relation : slice_get relations rel ≡ Some relation
  pub attr_within : attr < length relation.attrs
  pub ent_within : ent < length relation.entities

-- a list of some of these rows has a last row, and each row has a value of the attribute
pub record IsReadable (rows : List Row) (list : List RowId) (attr : ℕ) : Type 0 where
  pub some : 0 < length list
  pub listed : All (λ row. row.0 < length rows) list
  pub valued : All (λ row. attr < length row.values) rows
