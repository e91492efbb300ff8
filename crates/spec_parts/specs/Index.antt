-- The given pairs of each entity.
use Rattle.std.specs.Prelude.{◌≡◌, ◌↔◌, ℕ, List, [], length, Some, slice_get, slice_index_or, Contains}
use Rattle.currency_base.specs.declared.pair.Pair.{Pair}
use Rattle.partial_orders.specs.Pairs.{entity_of}
use Rattle.spec_model.specs.declared.relation.Relation.{Relation}

-- of each relation and entity the given pairs whose earlier row stands for it
pub record AreIndexed (relations : List Relation) (pairs : List (List (List Pair))) : Type 0 where
  pub per_relation : length pairs ≡ length relations
  pub per_entity : (rel : ℕ) (r : Relation) → slice_get relations rel ≡ Some r
      → length (slice_index_or pairs rel []) ≡ length r.entities
  pub each : (rel : ℕ) (r : Relation) → slice_get relations rel ≡ Some r → (ent : ℕ) (p : Pair)
      → Contains (slice_index_or (slice_index_or pairs rel []) ent []) p ↔
      (Contains r.given p × (entity_of r.rows p.earlier.0 ≡ Some ent))

-- the same of one relation
pub record IsIndexed (r : Relation) (pairs : List (List Pair)) : Type 0 where
  pub per_entity : length pairs ≡ length r.entities
  pub each : (ent : ℕ) (p : Pair)
      → Contains (slice_index_or pairs ent []) p ↔ (Contains r.given p × (entity_of r.rows p.earlier.0 ≡ Some ent))
