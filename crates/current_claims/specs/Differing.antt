-- Where two completions have different current values in one relation.
use Rattle.std.specs.Prelude.{◌≡◌, ◌≢◌, ◌<◌, ℕ, List, length, Some, slice_get}
use Rattle.currency_base.specs.declared.ids.AttrId.{AttrId}
use Rattle.currency_base.specs.declared.ids.EntId.{EntId}
use Rattle.currency_base.specs.declared.ids.RelId.{RelId}
use Rattle.spec_model.specs.Completion.{Rankings}
use Rattle.spec_model.specs.Current.{current_value}
use Rattle.spec_model.specs.declared.relation.Relation.{Relation}

-- an attribute and an entity of a relation, where two completions have different current values
pub record DiffersAt (r : Relation) (c d : Rankings) (rel attr ent : ℕ) : Type 0 where
  pub attr_within : attr < length r.attrs
  pub ent_within : ent < length r.entities
  pub differ : current_value c rel r.rows attr ent ≢ current_value d rel r.rows attr ent

-- an attribute of an entity at which they differ
abbrev pub IsOfEntity : List Relation → Rankings → Rankings → RelId → EntId → AttrId → Type 0
IsOfEntity relations c d rel ent attr = (r : Relation) → slice_get relations rel.0 ≡ Some r → DiffersAt r c d rel.0 attr.0 ent.0

-- they differ at no attribute of an entity
abbrev pub NoneOfEntity : List Relation → Rankings → Rankings → RelId → EntId → Type 0
NoneOfEntity relations c d rel ent = (r : Relation) → slice_get relations rel.0 ≡ Some r → (attr : ℕ)
    → DiffersAt r c d rel.0 attr ent.0 → ⊥

-- they differ nowhere in a relation
abbrev pub NoneOfRelation : List Relation → Rankings → Rankings → RelId → Type 0
NoneOfRelation relations c d rel = (r : Relation) → slice_get relations rel.0 ≡ Some r → (attr ent : ℕ)
    → DiffersAt r c d rel.0 attr ent → ⊥
