-- What the lists of one relation are and fail, by the definitions of completions.
use Rattle.std.specs.Prelude.{◌≡◌, ◌<◌, ◌⊎◌, ℕ, List, [], Some, length, slice_get, slice_index, slice_index_or}
use Rattle.currency_base.specs.declared.ids.RowId.{RowId}
use Rattle.currency_base.specs.declared.pair.Pair.{Pair}
use Rattle.spec_model.specs.declared.relation.Relation.{Relation}
use Rattle.spec_model.specs.Completion.{IsRanking, Before}
use Rattle.spec_model.specs.Satisfies.{Lists}
use Rattle.completion_check.specs.Marks.{AreMarked}

-- the list of an attribute and an entity
abbrev pub list_of : Lists → ℕ → ℕ → List RowId
list_of lists attr ent = slice_index_or (slice_index_or lists attr []) ent []

-- one list per attribute and entity of the relation
pub record FitsRelation (r : Relation) (lists : Lists) : Type 0 where
  pub per_attr : length lists ≡ length r.attrs
  pub per_entity : (attr : ℕ) → attr < length r.attrs → length (slice_index_or lists attr []) ≡ length r.entities

-- each list is a ranking
abbrev pub IsRanked : Relation → Lists → Type 0
IsRanked r lists = (attr ent : ℕ) → attr < length r.attrs → ent < length r.entities → IsRanking r.rows ent
    (list_of lists attr ent)

-- each row has its place in its entity's list, in each attribute
abbrev pub AreAllMarked : Relation → Lists → List (List ℕ) → Type 0
AreAllMarked r lists places = (attr : ℕ) → attr < length r.attrs → AreMarked r.rows (slice_index_or lists attr [])
    (slice_index_or places attr [])

-- the first list that is no ranking
pub record IsFirstUnrankedOf (r : Relation) (lists : Lists) (attr ent : ℕ) : Type 0 where
  pub attr_within : attr < length r.attrs
  pub ent_within : ent < length r.entities
  pub broken : IsRanking r.rows ent (list_of lists attr ent) → ⊥
  pub earlier : (attr' ent' : ℕ) → attr' < length r.attrs → ent' < length r.entities
      → (attr' < attr) ⊎ ((attr' ≡ attr) × (ent' < ent)) → IsRanking r.rows ent' (list_of lists attr' ent')

-- the earlier row of a pair has the smaller place in its attribute
abbrev pub IsInOrder : List (List ℕ) → Pair → Type 0
IsInOrder places p = slice_index (slice_index_or places p.attr.0 []) p.earlier.0 < slice_index
    (slice_index_or places p.attr.0 []) p.later.0

-- the same of each of these pairs
abbrev pub AreInOrder : List (List ℕ) → List Pair → Type 0
AreInOrder places pairs = (k : ℕ) (p : Pair) → slice_get pairs k ≡ Some p → IsInOrder places p

-- the first of these pairs of which it does not hold
pub record IsFirstOutOfOrder (places : List (List ℕ)) (pairs : List Pair) (pair : Pair) : Type 0 where
  pub place : ℕ
  pub is_pair : slice_get pairs place ≡ Some pair
  pub broken : IsInOrder places pair → ⊥
  pub earlier : (k : ℕ) (p : Pair) → k < place → slice_get pairs k ≡ Some p → IsInOrder places p

-- a pair of rows is kept: the earlier row stands before the later in its attribute
abbrev pub Keeps : Lists → Pair → Type 0
Keeps lists p = Before (slice_index_or lists p.attr.0 []) p.earlier p.later

-- each of these pairs is kept
abbrev pub KeepsEach : Lists → List Pair → Type 0
KeepsEach lists pairs = (k : ℕ) (p : Pair) → slice_get pairs k ≡ Some p → Keeps lists p

-- the first given pair that is not kept
pub record IsFirstBrokenOf (r : Relation) (lists : Lists) (pair : Pair) : Type 0 where
  pub place : ℕ
  pub is_pair : slice_get r.given place ≡ Some pair
  pub broken : Keeps lists pair → ⊥
  pub earlier : (k : ℕ) (p : Pair) → k < place → slice_get r.given k ≡ Some p → Keeps lists p
