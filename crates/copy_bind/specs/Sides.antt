-- What contracts see of a side of a copy.
use Rattle.std.specs.Prelude.{◌≡◌, ℕ, List, map}
use Rattle.currency_base.specs.declared.ids.AttrId.{AttrId}
use Rattle.currency_base.specs.declared.ids.RelId.{RelId}
use Rattle.spec_model.specs.Facts.{IsRelation}
use Rattle.spec_model.specs.declared.relation.Relation.{Relation}

-- a relation with its id, and the attributes that are named of it
pub record Side : Type 0 where
  pub id : RelId
  pub relation : Relation
  pub attrs : List AttrId

-- a relation as specifications have them, and the names of its rows
pub record IsNamed (relation : Relation) (rows : List (List ℕ)) : Type 0 where
  pub facts : IsRelation relation
  pub names : rows ≡ map (λ row. row.name) relation.rows
