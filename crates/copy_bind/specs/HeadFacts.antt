-- What the head of a copy is among the relations of a specification.
use Rattle.std.specs.Prelude.{◌≡◌, List, All, Some, slice_get}
use Rattle.spec_model.specs.Facts.{IsPlaceBetween}
use Rattle.spec_model.specs.declared.relation.Relation.{Relation}
use Rattle.copy_bind.specs.declared.head.CopyHead.{CopyHead}

-- its sides are two of them, and each place pairs an attribute of the target with one of the source, of one kind
pub record IsHeadAmong (relations : List Relation) (head : CopyHead) : Type 0 where
  pub is_target : slice_get relations head.target.id.0 ≡ Some head.target.relation
  pub is_source : slice_get relations head.source.id.0 ≡ Some head.source.relation
  pub places : All (IsPlaceBetween head.target.relation head.source.relation) head.places
