-- The entities of all relations, numbered one after another.
use Rattle.std.specs.Prelude.{◌≡◌, ◌<◌, ◌≤◌, ◌+◌, ℕ, List, Some, length, slice_get, slice_index}
use Rattle.spec_model.specs.declared.relation.Relation.{Relation}
use Rattle.entity_ties.specs.declared.cells.Member.{Member}

-- the entity of a relation
abbrev pub member : ℕ → ℕ → Member
member rel ent = record { rel = record { 0 = rel }; ent = record { 0 = ent } }

-- so many entities of a relation come after the others
pub record AddsMembers (rel count : ℕ) (old new : List Member) : Type 0 where
  pub many : length new ≡ length old + count
  pub kept : (number : ℕ) → number < length old → slice_get new number ≡ slice_get old number
  pub added : (ent : ℕ) → ent < count → slice_get new (length old + ent) ≡ Some (member rel ent)

-- an entity that is there has this number
pub record IsNumbered (relations : List Relation) (firsts : List ℕ) (number : ℕ) (m : Member) : Type 0 where
  pub relation : Relation
  pub is_relation : slice_get relations m.rel.0 ≡ Some relation
  pub among : m.rel.0 < length firsts
  pub within : m.ent.0 < length relation.entities
  pub is_number : slice_index firsts m.rel.0 + m.ent.0 ≡ number

-- the entities of so many relations are numbered: those of each relation follow its first number, behind those of the
-- relations before
pub record AreNumbered (relations : List Relation) (count : ℕ) (firsts : List ℕ) (members : List Member) : Type 0 where
  pub per_relation : length firsts ≡ count
  pub there : (rel : ℕ) (r : Relation) → rel < count → slice_get relations rel ≡ Some r → (ent : ℕ) → ent < length r.entities
      → slice_get members (slice_index firsts rel + ent) ≡ Some (member rel ent)
  pub back : (number : ℕ) (m : Member) → slice_get members number ≡ Some m → IsNumbered relations firsts number m
  pub fit : (rel : ℕ) (r : Relation) → rel < count → slice_get relations rel ≡ Some r
      → slice_index firsts rel + length r.entities ≤ length members
  pub apart : (rel other : ℕ) (r : Relation) → rel < other → other < count → slice_get relations rel ≡ Some r
      → slice_index firsts rel + length r.entities ≤ slice_index firsts other
