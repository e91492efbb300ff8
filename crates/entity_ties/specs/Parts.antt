-- Lists of entities by their parts, and of labels by relation.
use Rattle.std.specs.Prelude.{◌≡◌, ◌<◌, ◌≤◌, ◌+◌, ◌⊎◌, ℕ, List, [], Contains, Some, length, slice_get, slice_index, slice_index_or, slice_range}
use Rattle.spec_model.specs.declared.relation.Relation.{Relation}
use Rattle.entity_ties.specs.declared.cells.Member.{Member}

-- the list at a place
abbrev pub list_at : {A : Type 0} → List (List A) → ℕ → List A
list_at lists place = slice_index_or lists place []

-- an item of a list is one of the old list, or that which was put there
pub record Puts {A : Type 0} (place : ℕ) (item : A) (old new : List (List A)) : Type 0 where
  pub many : length new ≡ length old
  pub kept : (at : ℕ) (x : A) → Contains (list_at old at) x → Contains (list_at new at) x
  pub has : Contains (list_at new place) item
  pub only : (at : ℕ) (x : A) → Contains (list_at new at) x → Contains (list_at old at) x ⊎ ((at ≡ place) × (item ≡ x))

-- a number whose label is this is that of the entity
pub record IsPartMember (members : List Member) (labels : List ℕ) (label : ℕ) (m : Member) : Type 0 where
  pub number : ℕ
  pub is_member : slice_get members number ≡ Some m
  pub is_label : slice_get labels number ≡ Some label

-- by label, the entities whose numbers have it
pub record ArePartsOf (members : List Member) (labels : List ℕ) (count : ℕ) (parts : List (List Member)) : Type 0 where
  pub many : length parts ≡ count
  pub each : (label : ℕ) (m : Member) → IsPartMember members labels label m → Contains (list_at parts label) m
  pub only : (label : ℕ) (m : Member) → Contains (list_at parts label) m → IsPartMember members labels label m

-- the entities of each relation have a label each
abbrev pub IsRoom : List Relation → List ℕ → ℕ → Type 0
IsRoom relations firsts count = (rel : ℕ) (r : Relation) → slice_get relations rel ≡ Some r → slice_index firsts rel
    + length r.entities ≤ count

-- the labels of the first relations' entities, by relation
pub record AreCut (relations : List Relation) (count : ℕ) (firsts labels : List ℕ) (lists : List (List ℕ)) : Type 0 where
  pub many : length lists ≡ count
  pub each : (rel : ℕ) (r : Relation) → rel < count → slice_get relations rel ≡ Some r
      → list_at lists rel ≡ slice_range labels (slice_index firsts rel) (slice_index firsts rel + length r.entities)

-- by label, the entities that have it
pub record AreHeld (labels : List (List ℕ)) (parts : List (List Member)) : Type 0 where
  pub each : (label : ℕ) (m : Member) → slice_get (list_at labels m.rel.0) m.ent.0 ≡ Some label → Contains (list_at parts label) m
  pub only : (label : ℕ) (m : Member) → Contains (list_at parts label) m → slice_get (list_at labels m.rel.0) m.ent.0 ≡ Some label
