-- Rows that are found by the value of an attribute.
use Rattle.std.specs.Prelude.{◌≡◌, ◌⊎◌, ◌<◌, ◌+◌, ◌++◌, ◌∷◌, [], ℕ, Bool, true, false, nat_lt, nat_le, List, Option, Some, slice_get, length}
use Rattle.std.specs.List.{filter}
use Rattle.std.specs.List.Sorted.{IsPartitionPoint, IsSortedBy, IsStableBy}
use Rattle.std.specs.Option.{option_cmp}
use Rattle.std.specs.Ordering.{is_lt, ordering_index}
use Rattle.currency_base.specs.Values.{value_cmp}
use Rattle.currency_base.specs.declared.ids.AttrId.{AttrId}
use Rattle.currency_base.specs.declared.ids.RowId.{RowId}
use Rattle.currency_base.specs.declared.row.Row.{Row}
use Rattle.currency_base.specs.declared.value.Cmp.TheVariants.{Eq}
use Rattle.currency_base.specs.declared.value.Value.{Value}
use Rattle.denial_rules.specs.Instances.{field_value, is_compared}
use Rattle.denial_rules.specs.declared.rule.Operand.{Operand}
use Rattle.denial_rules.specs.declared.rule.Operand.TheVariants.{Field, Constant}
use Rattle.denial_rules.specs.declared.rule.Predicate.{Predicate}
use Rattle.denial_rules.specs.declared.rule.Predicate.TheVariants.{Compare}
use Rattle.denial_rules.specs.declared.rule.Rule.{Rule}
use Rattle.entity_ground.specs.Tests.{passes_at, IsFitting}

-- ---- an index

-- some rows, by their values of an attribute
pub record Indexed : Type 0 where
  pub table : List Row
  pub attr : AttrId
  pub members : List RowId

-- a row's value of an attribute, if it has one
abbrev pub key_of : List Row → AttrId → RowId → Option Value
key_of table attr row = field_value table (Some row) attr.0

-- the value of the first row is below that of the second
abbrev pub is_lower : List Row → AttrId → RowId → RowId → Bool
is_lower table attr x y = is_lt (option_cmp value_cmp (key_of table attr x) (key_of table attr y))

-- where a row's value stands to another: 0 below, 1 equal, 2 above
abbrev pub rank_to : List Row → AttrId → Value → RowId → ℕ
rank_to table attr value row = ordering_index (option_cmp value_cmp (key_of table attr row) (Some value))

-- the row's value of the attribute is equal to this one
abbrev pub is_alike : List Row → AttrId → Option Value → RowId → Bool
is_alike table attr value row = is_compared (key_of table attr row) Eq value

-- the rows by their values of the attribute, and rows of equal values as they stood
pub record IsByValue (table : List Row) (attr : AttrId) (members by_value : List RowId) : Type 0 where
  pub sorted : IsSortedBy (is_lower table attr) by_value
  pub stable : IsStableBy (is_lower table attr) members by_value

-- rows that stand by their values come to this one at the start
abbrev pub StartsAt : List Row → AttrId → Value → List RowId → ℕ → Type 0
StartsAt table attr value rows start = IsPartitionPoint (λ y. nat_lt (rank_to table attr value y) 1 ≡ true)
    (λ y. nat_lt (rank_to table attr value y) 1 ≡ false) rows start

-- and go past it at the end
abbrev pub EndsAt : List Row → AttrId → Value → List RowId → ℕ → Type 0
EndsAt table attr value rows end = IsPartitionPoint (λ y. nat_le (rank_to table attr value y) 1 ≡ true)
    (λ y. nat_le (rank_to table attr value y) 1 ≡ false) rows end

-- ---- what is looked up

-- an operand that has a value where so many variables have a row
abbrev pub IsKnown : ℕ → Operand → Type 0
IsKnown var (Field other attr) = other < var
IsKnown var (Constant value) = Unit {0}

-- the predicate asks that the value of the variable's row be equal to this operand, which is known by then
pub record IsAskedIn (predicate : Predicate) (var : ℕ) (attr : AttrId) (by : Operand) : Type 0 where
  pub asked : (predicate ≡ Compare (Field var attr) Eq by) ⊎ (predicate ≡ Compare by Eq (Field var attr))
  pub known : IsKnown var by

-- one of the rule's predicates does
pub record IsAsked (rule : Rule) (var : ℕ) (attr : AttrId) (by : Operand) : Type 0 where
  pub place : ℕ
  pub predicate : Predicate
  pub is_predicate : slice_get rule.predicates place ≡ Some predicate
  pub asks : IsAskedIn predicate var attr by

-- an index, and the operand by whose value rows are looked up in it
pub record Looked : Type 0 where
  pub table : List Row
  pub attr : AttrId
  pub members : List RowId
  pub by : Operand

-- it finds what a variable's row is asked for
pub record IsLookup (rule : Rule) (table : List Row) (members : List RowId) (var : ℕ) (lookup : Looked) : Type 0 where
  pub asked : IsAsked rule var lookup.attr lookup.by
  pub in_table : lookup.table ≡ table
  pub of_members : lookup.members ≡ members

-- where there is a lookup for a variable, it finds what its row is asked for
abbrev pub AreLookups : Rule → List Row → List RowId → List (Option Looked) → Type 0
AreLookups rule table members lookups = (var : ℕ) (lookup : Looked) → slice_get lookups var ≡ Some (Some lookup)
    → IsLookup rule table members var lookup

-- a rule, the rows of its relation, and some of these
pub record Searched : Type 0 where
  pub rule : Rule
  pub table : List Row
  pub members : List RowId

-- a rule whose variables and predicates fit, and its lookups
pub record IsSearched (rule : Rule) (table : List Row) (members : List RowId) (lookups : List (Option Looked)) : Type 0 where
  pub fits : IsFitting rule
  pub are_lookups : AreLookups rule table members lookups

-- the members, but for some with which a predicate fails
pub record AreCandidates (rule : Rule) (table : List Row) (members front rows : List RowId) : Type 0 where
  pub keeps : RowId → Bool
  pub are : rows ≡ filter keeps members
  pub others : (row : RowId) → keeps row ≡ false → passes_at (length front + 1) rule table (front ++ row ∷ []) ≡ false
