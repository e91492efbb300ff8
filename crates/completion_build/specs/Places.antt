-- What is built so far, list by list.
use Rattle.std.specs.Prelude.{◌≡◌, ◌⊎◌, ◌<◌, ℕ, Bool, List, All, Some, slice_get, length}
use Rattle.std.specs.List.Sorted.{IsStrictlySortedBy}
use Rattle.currency_base.specs.declared.ids.AttrId.{AttrId}
use Rattle.currency_base.specs.declared.ids.RelId.{RelId}
use Rattle.entity_lists.specs.Lists.{entities_of, rows_of}
use Rattle.spec_model.specs.Completion.{Rankings, HasShape, ranking_of}
use Rattle.spec_model.specs.declared.relation.Relation.{Relation}
use Rattle.order_literals.specs.Numbers.{Numbers}
use Rattle.order_literals.specs.Statements.{statements_of}
use Rattle.completion_build.specs.declared.built.Cycle.{Cycle}
use Rattle.completion_build.specs.Ranked.{IsCycle, IsOfOne, cycle_cmp}
use Rattle.completion_build.specs.Contests.{Contest}
use Rattle.completion_build.specs.Judged.{IsOrdered}

-- a place comes before another, by relation, then by attribute, then by entity
pub data Precedes (to_rel to_attr to_ent : ℕ) : ℕ → ℕ → ℕ → Type 0 where
  by_rel : {rel attr ent : ℕ} → rel < to_rel → Precedes to_rel to_attr to_ent rel attr ent
  by_attr : {rel attr ent : ℕ} → rel ≡ to_rel → attr < to_attr → Precedes to_rel to_attr to_ent rel attr ent
  by_ent : {rel attr ent : ℕ} → rel ≡ to_rel → attr ≡ to_attr → ent < to_ent → Precedes to_rel to_attr to_ent rel attr ent

-- the rows of an entity of a relation, under an assignment
abbrev pub contest_of : Numbers → List Bool → RelId → AttrId → Relation → ℕ → Contest
contest_of numbers truths rel attr r ent =
    record { numbers = numbers; truths = truths; rel = rel; attr = attr; rows = rows_of (entities_of r.rows) ent }

-- the lists at the places before one: each is ordered, or one of the cycles, which are of these lists and stand in their
-- order, is of it
pub record AreBuilt (relations : List Relation) (numbers : Numbers) (truths : List Bool) (to_rel to_attr to_ent : ℕ)
    (c : Rankings)
    (cycles : List Cycle) : Type 0 where
  pub shape : HasShape relations c
  pub lists : (rel : RelId) (attr : AttrId) (ent : ℕ) (r : Relation) → slice_get relations rel.0 ≡ Some r
      → attr.0 < length r.attrs
      → ent < length r.entities → Precedes to_rel to_attr to_ent rel.0 attr.0 ent
      → IsOrdered (contest_of numbers truths rel attr r ent) (ranking_of c rel.0 attr.0 ent) ⊎ IsOfOne cycles rel.0 attr.0 ent
  pub each : All (IsCycle relations (statements_of numbers) truths) cycles
  pub before : All (λ cycle. Precedes to_rel to_attr to_ent cycle.rel.0 cycle.attr.0 cycle.ent.0) cycles
  pub ascend : IsStrictlySortedBy cycle_cmp cycles
