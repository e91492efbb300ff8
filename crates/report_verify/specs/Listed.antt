-- Where completions have the same current value.
use Rattle.std.specs.Prelude.{◌≡◌, List, Contains, Some, slice_get}
use Rattle.currency_base.specs.declared.ids.AttrId.{AttrId}
use Rattle.currency_base.specs.declared.ids.EntId.{EntId}
use Rattle.currency_base.specs.declared.ids.RelId.{RelId}
use Rattle.report_verify.specs.Right.{DifferAt}
use Rattle.spec_model.specs.Completion.{Rankings}
use Rattle.spec_model.specs.Current.{current_value}
use Rattle.spec_model.specs.declared.relation.Relation.{Relation}

-- two completions have the same current value at a place, if its relation is there
abbrev pub AgreesAt : List Relation → RelId → AttrId → EntId → Rankings → Rankings → Type 0
AgreesAt relations rel attr ent c d = (r : Relation) → slice_get relations rel.0 ≡ Some r
    → current_value c rel.0 r.rows attr.0 ent.0 ≡ current_value d rel.0 r.rows attr.0 ent.0

-- one of the completions differs from this one at a place
pub record OneDiffers (relations : List Relation) (rel : RelId) (attr : AttrId) (ent : EntId) (first : Rankings)
    (completions : List Rankings) : Type 0 where
  pub other : Rankings
  pub listed : Contains completions other
  pub differ : DifferAt relations rel attr ent first other
