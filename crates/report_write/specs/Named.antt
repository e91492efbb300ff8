-- What has a name in a specification.
use Rattle.std.specs.Prelude.{◌≡◌, ◌<◌, ℕ, List, length, Some, slice_get}
use Rattle.spec_model.specs.declared.relation.Relation.{Relation}

-- an attribute that is there
pub record IsAttrOf (relations : List Relation) (rel attr : ℕ) : Type 0 where
  pub relation : Relation
  pub is_relation : slice_get relations rel ≡ Some relation
  pub within : attr < length relation.attrs

-- an entity that is there
pub record IsEntityOf (relations : List Relation) (rel ent : ℕ) : Type 0 where
  pub relation : Relation
  pub is_relation : slice_get relations rel ≡ Some relation
  pub within : ent < length relation.entities

-- a row that is there
pub record IsRowOf (relations : List Relation) (rel row : ℕ) : Type 0 where
  pub relation : Relation
  pub is_relation : slice_get relations rel ≡ Some relation
  pub within : row < length relation.rows
