-- The entities of a relation by their values at a place.
use Rattle.std.specs.Prelude.{◌≡◌, ◌⊎◌, ◌<◌, ℕ, Bool, true, false, nat_lt, nat_le, List, All, Contains, length}
use Rattle.std.specs.List.Sorted.{IsPartitionPoint, IsSortedBy}
use Rattle.std.specs.Ordering.{is_lt, ordering_index}
use Rattle.currency_base.specs.Values.{value_cmp}
use Rattle.currency_base.specs.declared.ids.EntId.{EntId}
use Rattle.currency_base.specs.declared.value.Value.{Value}
use Rattle.spec_model.specs.declared.relation.Relation.{Relation}
use Rattle.match_candidates.specs.Places.{has_in}
use Rattle.match_candidates.specs.declared.place_index.Entry.{Entry}

-- a relation, by the values at a place
pub record Indexed : Type 0 where
  pub relation : Relation
  pub place : ℕ

-- an entity is listed, with this value
pub record HasEntry (entries : List Entry) (ent : EntId) (x : Value) : Type 0 where
  pub entry : Entry
  pub is_in : Contains entries entry
  pub of : entry.ent ≡ ent
  pub has : entry.value.now ≡ x

-- entities of a relation, among which all are that have a value at a place, with each of these
pub record AreEntries (r : Relation) (place : ℕ) (entries : List Entry) : Type 0 where
  pub within : All (λ entry. entry.ent.0 < length r.entities) entries
  pub all : (ent : EntId) (x : Value) → ent.0 < length r.entities → has_in r ent place x ≡ true → HasEntry entries ent x

-- the values of an entity are put after the others
pub record AddsEntries (r : Relation) (place : ℕ) (ent : EntId) (old new : List Entry) : Type 0 where
  pub kept : (entry : Entry) → Contains old entry → Contains new entry
  pub each : (entry : Entry) → Contains new entry → Contains old entry ⊎ (entry.ent ≡ ent)
  pub all : (x : Value) → has_in r ent place x ≡ true → HasEntry new ent x

-- the value of the first entity is below that of the second
abbrev pub is_lower : Entry → Entry → Bool
is_lower a b = is_lt (value_cmp a.value.now b.value.now)

-- where an entity's value stands to another: 0 below, 1 equal, 2 above
abbrev pub rank_to : Value → Entry → ℕ
rank_to value entry = ordering_index (value_cmp entry.value.now value)

-- all entities that have a value at a place, by their values there
pub record IsByValue (r : Relation) (place : ℕ) (entries : List Entry) : Type 0 where
  pub sorted : IsSortedBy is_lower entries
  pub are : AreEntries r place entries

-- entities that stand by their values come to this one at the start
abbrev pub StartsAt : Value → List Entry → ℕ → Type 0
StartsAt value entries start =
    IsPartitionPoint (λ y. nat_lt (rank_to value y) 1 ≡ true) (λ y. nat_lt (rank_to value y) 1 ≡ false) entries start

-- and go past it at the end
abbrev pub EndsAt : Value → List Entry → ℕ → Type 0
EndsAt value entries end =
    IsPartitionPoint (λ y. nat_le (rank_to value y) 1 ≡ true) (λ y. nat_le (rank_to value y) 1 ≡ false) entries end

-- entities of a relation, among which all are that have this value at a place
pub record AreAlike (r : Relation) (place : ℕ) (value : Value) (entries : List Entry) : Type 0 where
  pub within : All (λ entry. entry.ent.0 < length r.entities) entries
  pub all : (ent : EntId) → ent.0 < length r.entities → has_in r ent place value ≡ true → HasEntry entries ent value
