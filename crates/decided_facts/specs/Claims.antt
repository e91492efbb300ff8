-- Claims on current values of one place.
use Rattle.std.specs.Prelude.{◌≡◌, ◌∷◌, [], List, Option, None, Some, slice_get}
use Rattle.currency_base.specs.declared.ids.EntId.{EntId}
use Rattle.currency_base.specs.declared.row.Row.{Row}
use Rattle.match_premises.specs.declared.premise.Premise.{Premise}
use Rattle.posed_facts.specs.declared.fact.Fact.{Fact}
use Rattle.posed_facts.specs.declared.fact.Fact.TheVariants as fact
use Rattle.spec_model.specs.declared.relation.Relation.{Relation}

-- the row of a claim is there, and stands for this entity
pub record IsOfEntity (relations : List Relation) (p : Premise) (ent : EntId) : Type 0 where
  pub relation : Relation
  pub is_relation : slice_get relations p.rel.0 ≡ Some relation
  pub row : Row
  pub is_row : slice_get relation.rows p.row.0 ≡ Some row
  pub entity : row.entity ≡ ent

-- two claims are of one attribute of one entity
pub record AreOfOnePlace (relations : List Relation) (p q : Premise) : Type 0 where
  pub rel : p.rel ≡ q.rel
  pub attr : p.attr ≡ q.attr
  pub ent : EntId
  pub one : IsOfEntity relations p ent
  pub other : IsOfEntity relations q ent

-- a fact denies this one claim
abbrev pub Denies : Fact → Option Premise → Type 0
Denies f (Some p) = f ≡ fact.Lacks (p ∷ [])
Denies f None = Unit {0}
