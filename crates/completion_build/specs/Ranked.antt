-- What an assignment of the pairs of rows says of their order.
use Rattle.std.specs.Prelude.{◌≡◌, ◌≢◌, ◌<◌, ◌∷◌, ℕ, Bool, List, [], All, Contains, Some, slice_get, length}
use Rattle.std.specs.Cmp.Lexicographic.{slice_cmp}
use Rattle.std.specs.List.Sorted.{IsStrictlySortedBy}
use Rattle.std.specs.Ordering.{nat_cmp}
use Rattle.std.specs.declared.cmp.Ordering.{Ordering}
use Rattle.currency_base.specs.declared.ids.AttrId.{AttrId}
use Rattle.currency_base.specs.declared.ids.RelId.{RelId}
use Rattle.currency_base.specs.declared.ids.RowId.{RowId}
use Rattle.partial_orders.specs.Pairs.{entity_of}
use Rattle.spec_model.specs.Completion.{Rankings, IsCompletion, Before, lists_of}
use Rattle.spec_model.specs.declared.relation.Relation.{Relation}
use Rattle.refutation_log.specs.declared.statement.Statement.{Statement}
use Rattle.order_literals.specs.Said.{before, IsSaidTrue}
use Rattle.completion_build.specs.declared.built.Built.{Built}
use Rattle.completion_build.specs.declared.built.Built.TheVariants.{Whole, Cyclic}
use Rattle.completion_build.specs.declared.built.Cycle.{Cycle}

-- of two rows of an entity, an assignment says that the first stands before the second
pub record IsPut (statements : List Statement) (truths : List Bool) (rel : RelId) (attr : AttrId) (r : Relation)
    (ent : ℕ) (first second : RowId) : Type 0 where
  pub first_of : entity_of r.rows first.0 ≡ Some ent
  pub second_of : entity_of r.rows second.0 ≡ Some ent
  pub put : IsSaidTrue statements truths (before rel attr first second)

-- one row leads to another: it is put before it, or before one that leads to it
pub data Leads (put : RowId → RowId → Type 0) : RowId → RowId → Type 0 where
  one : {a b : RowId} → put a b → Leads put a b
  more : {a b c : RowId} → put a b → Leads put b c → Leads put a c

-- a list has a cycle: a row of an entity leads to itself
pub record HasCycle (statements : List Statement) (truths : List Bool) (rel : RelId) (attr : AttrId) (r : Relation)
    (ent : ℕ) : Type 0 where
  pub row : RowId
  pub leads : Leads (IsPut statements truths rel attr r ent) row row

-- three rows of a list that form a cycle: each is put before the next, and the third before the first
pub record IsCycle (relations : List Relation) (statements : List Statement) (truths : List Bool) (c : Cycle) : Type 0 where
  pub relation : Relation
  pub is_relation : slice_get relations c.rel.0 ≡ Some relation
  pub attr_within : c.attr.0 < length relation.attrs
  pub ent_within : c.ent.0 < length relation.entities
  pub first_second : IsPut statements truths c.rel c.attr relation c.ent.0 c.first c.second
  pub second_third : IsPut statements truths c.rel c.attr relation c.ent.0 c.second c.third
  pub third_first : IsPut statements truths c.rel c.attr relation c.ent.0 c.third c.first

-- one of these cycles is of the list
pub record IsOfOne (cycles : List Cycle) (rel attr ent : ℕ) : Type 0 where
  pub cycle : Cycle
  pub is_in : Contains cycles cycle
  pub rel_is : cycle.rel.0 ≡ rel
  pub attr_is : cycle.attr.0 ≡ attr
  pub ent_is : cycle.ent.0 ≡ ent

-- the order of lists: by relation, then by attribute, then by entity
abbrev pub cycle_cmp : Cycle → Cycle → Ordering
cycle_cmp a b = slice_cmp nat_cmp (a.rel.0 ∷ a.attr.0 ∷ a.ent.0 ∷ []) (b.rel.0 ∷ b.attr.0 ∷ b.ent.0 ∷ [])

-- a cycle of each list that has one, in the order of the lists
pub record AreCycles (relations : List Relation) (statements : List Statement) (truths : List Bool)
    (cycles : List Cycle) : Type 0 where
  pub each : All (IsCycle relations statements truths) cycles
  pub all : (rel : RelId) (attr : AttrId) (ent : ℕ) (r : Relation) → slice_get relations rel.0 ≡ Some r → attr.0 < length r.attrs
      → ent < length r.entities → HasCycle statements truths rel attr r ent → IsOfOne cycles rel.0 attr.0 ent
  pub ascend : IsStrictlySortedBy cycle_cmp cycles

-- no list has a cycle
abbrev pub HasNoCycle : List Relation → List Statement → List Bool → Type 0
HasNoCycle relations statements truths = (rel : RelId) (attr : AttrId) (ent : ℕ) (r : Relation) → slice_get relations
    rel.0 ≡ Some r
    → attr.0 < length r.attrs → ent < length r.entities → HasCycle statements truths rel attr r ent → ⊥

-- a completion in which a row stands before another exactly where the assignment says so
pub record IsRankedBy (relations : List Relation) (statements : List Statement) (truths : List Bool) (c : Rankings) : Type 0 where
  pub completion : IsCompletion relations c
  pub said : (rel : RelId) (attr : AttrId) (r : Relation) → slice_get relations rel.0 ≡ Some r
      → attr.0 < length r.attrs → (first second : RowId)
      → Before (lists_of c rel.0 attr.0) first second → IsSaidTrue statements truths (before rel attr first second)
  pub stands : (rel : RelId) (attr : AttrId) (r : Relation) → slice_get relations rel.0 ≡ Some r
      → attr.0 < length r.attrs → (first second : RowId)
      → IsSaidTrue statements truths (before rel attr first second) → Before (lists_of c rel.0 attr.0) first second

-- what is built of an assignment: the completion that it says, no list having a cycle; or the lists that have cycles, of which
-- there is one
abbrev pub IsBuilt : List Relation → List Statement → List Bool → Built → Type 0
IsBuilt relations statements truths (Whole c) = IsRankedBy relations statements truths c × HasNoCycle relations statements truths
IsBuilt relations statements truths (Cyclic cycles) = AreCycles relations statements truths cycles × (cycles ≢ [])
