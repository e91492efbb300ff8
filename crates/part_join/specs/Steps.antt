-- How far the lists of a part are set in a completion of the whole.
use Rattle.std.specs.Prelude.{◌≡◌, ◌<◌, ◌≤◌, ◌^◌, ℕ, [], All, Some, length, map, slice_get, slice_index_or}
use Rattle.currency_base.specs.declared.ids.EntId.{EntId}
use Rattle.part_laws.specs.Parts.{Places, rows_in, entities_in, whole_row, EntitiesAscend}
use Rattle.spec_model.specs.Completion.{Rankings, lists_of, ranking_of}

-- the lists that are to be set: one per attribute and entity of the part, of rows of the part
pub record AreToPut (n : Places) (narrow : Rankings) : Type 0 where
  pub rows_per_relation : length narrow ≤ length n.rows
  pub entities_per_relation : length narrow ≤ length n.entities
  pub few_attrs : (rel : ℕ) → rel < length narrow → length (slice_index_or narrow rel []) < 2 ^ 32
  pub per_entity : (rel attr : ℕ) → attr < length (slice_index_or narrow rel [])
      → length (lists_of narrow rel attr) ≡ length (entities_in n rel)
  pub within : (rel attr k : ℕ) → All (λ row. row.0 < length (rows_in n rel)) (ranking_of narrow rel attr k)
  pub ascend : (rel : ℕ) → EntitiesAscend (entities_in n rel)

-- a completion of the whole has a list where each of them belongs
pub record HasRoom (n : Places) (narrow c : Rankings) : Type 0 where
  pub per_relation : length narrow ≤ length c
  pub per_attr : (rel : ℕ) → length (slice_index_or narrow rel []) ≤ length (slice_index_or c rel [])
  pub per_entity : (rel attr : ℕ) → attr < length (slice_index_or narrow rel [])
      → (k : ℕ) (ent : EntId) → slice_get (entities_in n rel) k ≡ Some ent → ent.0 < length (lists_of c rel attr)

-- a place of the part comes before another, by relation, then by attribute, then by entity
pub data Precedes (to_rel to_attr to_k : ℕ) : ℕ → ℕ → ℕ → Type 0 where
  by_rel : {rel attr k : ℕ} → rel < to_rel → Precedes to_rel to_attr to_k rel attr k
  by_attr : {rel attr k : ℕ} → rel ≡ to_rel → attr < to_attr → Precedes to_rel to_attr to_k rel attr k
  by_entity : {rel attr k : ℕ} → rel ≡ to_rel → attr ≡ to_attr → k < to_k → Precedes to_rel to_attr to_k rel attr k

-- the lists at the places before one are set
pub record ArePutSoFar (n : Places) (narrow : Rankings) (to_rel to_attr to_k : ℕ) (c : Rankings) : Type 0 where
  pub room : HasRoom n narrow c
  pub put : (rel attr k : ℕ) (ent : EntId) → attr < length (slice_index_or narrow rel [])
      → slice_get (entities_in n rel) k ≡ Some ent
      → Precedes to_rel to_attr to_k rel attr k
      → ranking_of c rel attr ent.0 ≡ map (whole_row (rows_in n rel)) (ranking_of narrow rel attr k)

-- the lists of entities that the part has not stay, and the shape does
pub record KeepsRest (n : Places) (old new : Rankings) : Type 0 where
  pub per_relation : length new ≡ length old
  pub per_attr : (rel : ℕ) → length (slice_index_or new rel []) ≡ length (slice_index_or old rel [])
  pub per_entity : (rel attr : ℕ) → length (lists_of new rel attr) ≡ length (lists_of old rel attr)
  pub lists : (rel attr ent : ℕ) → ((k : ℕ) (e : EntId) → slice_get (entities_in n rel) k ≡ Some e → e.0 ≡ ent → ⊥)
      → ranking_of new rel attr ent ≡ ranking_of old rel attr ent
