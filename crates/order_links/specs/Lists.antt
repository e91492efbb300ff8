-- The lists of relations: the rows of an entity in an attribute.
use Rattle.std.specs.Prelude.{◌≡◌, ◌<◌, List, Some, length, slice_get}
use Rattle.currency_base.specs.declared.ids.AttrId.{AttrId}
use Rattle.currency_base.specs.declared.ids.EntId.{EntId}
use Rattle.order_links.specs.declared.list.ListId.{ListId}
use Rattle.spec_model.specs.declared.relation.Relation.{Relation}

-- an entity, in an attribute of a relation
pub record IsListIn (relation : Relation) (attr : AttrId) (ent : EntId) : Type 0 where
  pub attr_within : attr.0 < length relation.attrs
  pub ent_within : ent.0 < length relation.entities

-- an entity, in an attribute of one of the relations
pub record IsListOf (relations : List Relation) (list : ListId) : Type 0 where
  pub relation : Relation
  pub is_relation : slice_get relations list.rel.0 ≡ Some relation
  pub attr_within : list.attr.0 < length relation.attrs
  pub ent_within : list.ent.0 < length relation.entities
