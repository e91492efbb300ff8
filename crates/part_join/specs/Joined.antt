-- A completion of the whole with the lists of a part from another.
use Rattle.spec_model.specs.Completion.{Rankings, HasShape}
use Rattle.spec_model.specs.declared.relation.Relation.{Relation}
use Rattle.std.specs.Prelude.{List}
use Rattle.part_laws.specs.Parts.{Scope, Places, ArePlacesOf, IsNarrowed, AreSameBeyond}

-- it says of the part's rows what a completion of the part says, and of the others what another one of the whole says
pub record IsJoined (relations : List Relation) (n : Places) (other narrow c : Rankings) : Type 0 where
  pub shape : HasShape relations c
  pub narrowed : IsNarrowed relations n c narrow
  pub beyond : (scope : Scope) → ArePlacesOf relations scope n → AreSameBeyond relations scope c other
