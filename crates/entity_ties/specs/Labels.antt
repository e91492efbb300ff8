-- The smallest parts of a specification that are closed under copied rows.
use Rattle.std.specs.Prelude.{◌≡◌, ◌<◌, ◌⊎◌, ◌↔◌, ◌==◌, ℕ, Bool, false, List, [], map, Option, None, Some, length, slice_get, slice_index_or}
use Rattle.std.specs.List.{list_any}
use Rattle.entity_lists.specs.Lists.{Grouping, entities_of}
use Rattle.spec_model.specs.Spec.{Spec}
use Rattle.spec_model.specs.declared.relation.Relation.{Relation}
use Rattle.entity_ties.specs.declared.cells.Member.{Member}
use Rattle.entity_ties.specs.Links.{number}
use Rattle.entity_ties.specs.Tied.{Cell, IsCell, AreTied}

-- the entity of a relation
abbrev pub cell : ℕ → ℕ → Cell
cell rel ent = record { rel = rel; ent = ent }

-- ---- by number

-- the labels of all entities, by number: two have one label just where they are tied; labels count in the order in
-- which they come first
pub record AreCellLabels (s : Spec) (firsts : List ℕ) (members : List Member) (labels : List ℕ) (count : ℕ) : Type 0 where
  pub many : length labels ≡ length members
  pub tied : (a b : Cell) → IsCell s a → IsCell s b
      → (slice_get labels (number firsts a) ≡ slice_get labels (number firsts b)) ↔ AreTied s a b
  pub below : (a n : ℕ) → slice_get labels a ≡ Some n → n < count
  pub used : (n : ℕ) → n < count → (a : ℕ) × (slice_get labels a ≡ Some n)
  pub first : (n m b : ℕ) → n < m → slice_get labels b ≡ Some m → (a : ℕ) × (a < b) × (slice_get labels a ≡ Some n)

-- ---- by relation

-- for each relation the label of each of its entities, which is the number of its part; how many parts there are; the
-- rows of each entity
pub record Labelling : Type 0 where
  pub labels : List (List ℕ)
  pub count : ℕ
  pub groups : List Grouping

-- these labels, so many parts, and these rows
abbrev pub labelling : List (List ℕ) → ℕ → List Grouping → Labelling
labelling labels count groups = record { labels = labels; count = count; groups = groups }

-- the labels of a relation's entities
abbrev pub labels_in : Labelling → ℕ → List ℕ
labels_in t rel = slice_index_or t.labels rel []

-- the part of an entity, if it is there
abbrev pub label_of : Labelling → Cell → Option ℕ
label_of t cell = slice_get (labels_in t cell.rel) cell.ent

-- one entity stands before another: in an earlier relation, or in the same one
pub record IsBefore (a b : Cell) : Type 0 where
  pub order : (a.rel < b.rel) ⊎ ((a.rel ≡ b.rel) × (a.ent < b.ent))

-- the rows of each entity of a relation
abbrev pub grouping_of : Relation → Grouping
grouping_of r = record { count = length r.entities; entities = entities_of r.rows }

-- the parts are the smallest: two entities are of one part just where they are tied. They count in the order of their
-- first entities
pub record AreTies (s : Spec) (t : Labelling) : Type 0 where
  pub per_relation : length t.labels ≡ length s.relations
  pub per_entity : (rel : ℕ) (r : Relation) → slice_get s.relations rel ≡ Some r → length (labels_in t rel) ≡ length r.entities
  pub tied : (a b : Cell) → IsCell s a → IsCell s b → (label_of t a ≡ label_of t b) ↔ AreTied s a b
  pub below : (cell : Cell) (n : ℕ) → label_of t cell ≡ Some n → n < t.count
  pub used : (n : ℕ) → n < t.count → (cell : Cell) × (label_of t cell ≡ Some n)
  pub first : (n m : ℕ) (b : Cell) → n < m → label_of t b ≡ Some m → (a : Cell) × IsBefore a b × (label_of t a ≡ Some n)
  pub groups : t.groups ≡ map grouping_of s.relations

-- whether a part is among some of them
abbrev pub in_parts : List ℕ → Option ℕ → Bool
in_parts parts None = false
in_parts parts (Some n) = list_any (λ part. n == part) parts

-- the entities of some of the parts
abbrev pub scope_of : Labelling → List ℕ → ℕ → ℕ → Bool
scope_of t parts rel ent = in_parts parts (label_of t (cell rel ent))
