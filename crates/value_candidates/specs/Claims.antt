-- The values that entities of relations may have, each named by a claim that one of the entity's rows makes.
use Rattle.std.specs.Prelude.{◌≡◌, ◌<◌, ℕ, List, All, Contains, Option, Some, option_map, slice_get}
use Rattle.std.specs.declared.cmp.Ordering.TheVariants.{Less}
use Rattle.currency_base.specs.Values.{value_cmp}
use Rattle.currency_base.specs.declared.ids.RelId.{RelId}
use Rattle.currency_base.specs.declared.value.Value.{Value}
use Rattle.denial_rules.specs.Instances.{value_in}
use Rattle.match_premises.specs.declared.premise.Premise.{Premise}
use Rattle.posed_facts.specs.Facts.{IsPlaced}
use Rattle.posed_facts.specs.Questions.{claim_row}
use Rattle.spec_model.specs.declared.relation.Relation.{Relation}

-- the number of the entity that a claim's row stands for, if there is such a row
abbrev pub entity_at : List Relation → Premise → Option ℕ
entity_at relations p = option_map (λ row. row.entity.0) (claim_row relations p)

-- the row's value of the attribute, if there is one
abbrev pub value_at : List Relation → Premise → Option Value
value_at relations p = value_in (claim_row relations p) p.attr.0

-- a claim stands before another: by relation, then by entity, then by attribute, then by value
pub data ValuePrecedes (relations : List Relation) (p q : Premise) : Type 0 where
  by_rel : p.rel.0 < q.rel.0 → ValuePrecedes relations p q
  by_entity : {ent other : ℕ} → p.rel.0 ≡ q.rel.0 → entity_at relations p ≡ Some ent → entity_at relations q ≡ Some other
      → ent < other → ValuePrecedes relations p q
  by_attr : p.rel.0 ≡ q.rel.0 → entity_at relations p ≡ entity_at relations q → p.attr.0 < q.attr.0
      → ValuePrecedes relations p q
  by_value : {value other : Value} → p.rel.0 ≡ q.rel.0 → entity_at relations p ≡ entity_at relations q → p.attr.0 ≡ q.attr.0
      → value_at relations p ≡ Some value → value_at relations q ≡ Some other → value_cmp value other ≡ Less
      → ValuePrecedes relations p q

-- two claims name the same value of the same attribute of the same entity
pub record AreOfOneValue (relations : List Relation) (p q : Premise) : Type 0 where
  pub rel : p.rel ≡ q.rel
  pub attr : p.attr ≡ q.attr
  pub entity : entity_at relations p ≡ entity_at relations q
  pub value : value_at relations p ≡ value_at relations q

-- the claims that name each value of the entities of these relations once, in order
pub record AreValueClaims (relations : List Relation) (rels : List RelId) (list : List Premise) : Type 0 where
  pub each : All (λ p. IsPlaced relations p × Contains rels p.rel) list
  pub ascend : (i j : ℕ) (p q : Premise) → i < j → slice_get list i ≡ Some p → slice_get list j ≡ Some q
      → ValuePrecedes relations p q
  pub all : (p : Premise) → IsPlaced relations p → Contains rels p.rel
      → (q : Premise) × Contains list q × AreOfOneValue relations p q
