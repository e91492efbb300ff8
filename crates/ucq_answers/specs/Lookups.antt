-- Tuples that are found by their values.
use Rattle.std.specs.Prelude.{◌≡◌, ◌<◌, ◌≤◌, ℕ, Bool, true, false, nat_lt, nat_le, List, Option, Some, All, Contains, length, option_and_then, slice_get, slice_index_or}
use Rattle.std.specs.List.Sorted.{IsPartitionPoint, IsSortedBy}
use Rattle.std.specs.Option.{option_cmp}
use Rattle.std.specs.Ordering.{is_lt, ordering_index}
use Rattle.currency_base.specs.Values.{value_cmp, value_test}
use Rattle.currency_base.specs.declared.ids.EntId.{EntId}
use Rattle.currency_base.specs.declared.value.Cmp.{Cmp}
use Rattle.currency_base.specs.declared.value.Cmp.TheVariants.{Eq, Ge, Gt, Le, Lt, Ne}
use Rattle.currency_base.specs.declared.value.Value.{Value}
use Rattle.query_model.specs.declared.query.Term.{Term}
use Rattle.query_model.specs.declared.query.Test.{Test}
use Rattle.ucq_answers.specs.Partly.{fit, may_hold, passes, side_of, value_at}

-- some tuples, by their values at a place
pub record Indexed : Type 0 where
  pub tuples : List (List Value)
  pub place : ℕ

-- a tuple's value at a place, if it has one
abbrev pub key_of : List (List Value) → ℕ → EntId → Option Value
key_of tuples place ent = option_and_then (λ tuple. slice_get tuple place) (slice_get tuples ent.0)

-- the value of the first tuple is below that of the second
abbrev pub is_lower : List (List Value) → ℕ → EntId → EntId → Bool
is_lower tuples place x y = is_lt (option_cmp value_cmp (key_of tuples place x) (key_of tuples place y))

-- where a tuple's value stands to another: 0 below, 1 equal, 2 above
abbrev pub rank_to : List (List Value) → ℕ → Value → EntId → ℕ
rank_to tuples place value ent = ordering_index (option_cmp value_cmp (key_of tuples place ent) (Some value))

-- the place of each tuple is listed
abbrev pub ListsAll : List (List Value) → List EntId → Type 0
ListsAll tuples ents = (place : ℕ) (tuple : List Value) → slice_get tuples place ≡ Some tuple → Contains ents record { 0 = place }

-- all tuples, by their values at the place
pub record IsByValue (tuples : List (List Value)) (place : ℕ) (ents : List EntId) : Type 0 where
  pub sorted : IsSortedBy (is_lower tuples place) ents
  pub all : ListsAll tuples ents

-- a comparison with its sides exchanged
abbrev pub turned : Cmp → Cmp
turned Eq = Eq
turned Ne = Ne
turned Lt = Gt
turned Le = Ge
turned Gt = Lt
turned Ge = Le

-- tuples that stand by their values come to this one at the start
abbrev pub StartsAt : List (List Value) → ℕ → Value → List EntId → ℕ → Type 0
StartsAt tuples place value ents start =
    IsPartitionPoint (λ y. nat_lt (rank_to tuples place value y) 1 ≡ true)
    (λ y. nat_lt (rank_to tuples place value y) 1 ≡ false) ents start

-- and go past it at the end
abbrev pub EndsAt : List (List Value) → ℕ → Value → List EntId → ℕ → Type 0
EndsAt tuples place value ents end =
    IsPartitionPoint (λ y. nat_le (rank_to tuples place value y) 1 ≡ true)
    (λ y. nat_le (rank_to tuples place value y) 1 ≡ false) ents end

-- each tuple that has this value at the place is listed
abbrev pub AreAlike : List (List Value) → ℕ → Value → List EntId → Type 0
AreAlike tuples place value ents = (at : ℕ) (tuple : List Value) → slice_get tuples at ≡ Some tuple
    → slice_get tuple place ≡ Some value
    → Contains ents record { 0 = at }

-- those of some tuples are listed whose values stand so to a value
abbrev pub KeepsAmong : List (List Value) → ℕ → Cmp → Value → List EntId → List EntId → Type 0
KeepsAmong tuples place cmp value ents kept = (ent : EntId) (x : Value) → Contains ents ent
    → key_of tuples place ent ≡ Some x → value_test cmp x value ≡ true → Contains kept ent

-- they stand from a start on, before an end
abbrev pub IsReach : List (List Value) → ℕ → Cmp → Value → List EntId → ℕ → ℕ → Type 0
IsReach tuples place cmp value ents start end = (k : ℕ) (d : EntId) (x : Value) → k < length ents
    → key_of tuples place (slice_index_or ents k d) ≡ Some x → value_test cmp x value ≡ true → (start ≤ k) × (k < end)

-- ---- candidates

-- each tuple that terms can fit with no comparison failing is listed
abbrev pub AreCandidates : List (List Value) → List Test → List Term → List (Option Value) → List EntId → Type 0
AreCandidates tuples tests terms b ents = (at : ℕ) (tuple : List Value) (c : List (Option Value)) → slice_get tuples at ≡
    Some tuple → fit b terms tuple ≡ Some c → passes c tests ≡ true
    → Contains ents record { 0 = at }

-- a variable that has a value keeps it
abbrev pub GoOn : List (Option Value) → List (Option Value) → Type 0
GoOn b c = (v : ℕ) (x : Value) → value_at b v ≡ Some x → value_at c v ≡ Some x

-- wherever a comparison may hold the variable's value stands so to a value
abbrev pub IsBound : Test → ℕ → List (Option Value) → Cmp → Value → Type 0
IsBound t var b cmp y = (c : List (Option Value)) (x : Value) → GoOn b c → value_at c var ≡ Some x
    → may_hold (side_of c t.left) t.cmp (side_of c t.right) ≡ true → value_test cmp x y ≡ true

-- those of some tuples are listed whose values, as those of the variable, let a comparison hold
abbrev pub KeepsBound : List (List Value) → ℕ → Test → ℕ → List (Option Value) → List EntId → List EntId → Type 0
KeepsBound tuples place t var b ents kept = (ent : EntId) (x : Value) (c : List (Option Value)) → Contains ents ent
    → key_of tuples place ent ≡ Some x → GoOn b c → value_at c var ≡ Some x
    → may_hold (side_of c t.left) t.cmp (side_of c t.right) ≡ true → Contains kept ent

-- tuples by their values, all of those among them whose values, as those of the variable, let no comparison fail
pub record IsNarrowed (tuples : List (List Value)) (place : ℕ) (tests : List Test) (var : ℕ) (b : List (Option Value))
    (ents : List EntId) : Type 0 where
  pub sorted : IsSortedBy (is_lower tuples place) ents
  pub all : (ent : EntId) (x : Value) (c : List (Option Value)) → key_of tuples place ent ≡ Some x → GoOn b c
      → value_at c var ≡ Some x → passes c tests ≡ true → Contains ents ent

-- the places of all tuples of a relation, and indexes of these tuples
pub record IsRelationIndex (tuples : List (List Value)) (all : List EntId) (by_place : List Indexed) : Type 0 where
  pub lists : ListsAll tuples all
  pub indexes : All (λ index. index.tuples ≡ tuples) by_place
