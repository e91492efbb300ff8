-- What numbers leave of a bound.
use Rattle.std.specs.Prelude.{◌≡◌, ◌⊎◌, ◌≤◌, ◌-◌, ◌^◌, ℕ, nat_lt, List, [], length, Option, Some, None, slice_get, slice_index_or, if◌then◌else◌}
use Rattle.currency_base.specs.declared.ids.RowId.{RowId}
use Rattle.entity_rows.specs.Members.{AreEntityRows}
use Rattle.spec_model.specs.declared.relation.Relation.{Relation}

-- what a number leaves of a bound, where it is not above it
unfoldable pub left_of : ℕ → ℕ → Option ℕ
left_of bound n = if nat_lt bound n then None else Some (bound - n)

-- the number itself, or one that 32 bits do not hold either
abbrev pub IsCapped : ℕ → ℕ → Type 0
IsCapped n capped = (capped ≡ n) ⊎ ((2 ^ 32 ≤ n) × (2 ^ 32 ≤ capped))

-- for each relation the rows of each of its entities
pub record AreEntityLists (relations : List Relation) (lists : List (List (List RowId))) : Type 0 where
  pub one_each : length lists ≡ length relations
  pub each : (rel : ℕ) (r : Relation) → slice_get relations rel ≡ Some r → AreEntityRows r.rows (length r.entities)
      (slice_index_or lists rel [])
