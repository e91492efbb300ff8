-- The rows of an entity.
use Rattle.std.specs.Prelude.{◌≡◌, ◌==◌, ◌+◌, ◌<◌, ℕ, List, [], ◌∷◌, if◌then◌else◌, length, slice_index_or}
use Rattle.currency_base.specs.declared.ids.RowId.{RowId}
use Rattle.currency_base.specs.declared.row.Row.{Row}

-- the rows of an entity, ascending, among rows of which the first has this number
abbrev pub members_from : ℕ → List Row → ℕ → List RowId
members_from first [] ent = []
members_from first (row ∷ rows) ent =
    if row.entity.0 == ent then record { 0 = first } ∷ members_from (first + 1) rows ent else members_from (first + 1) rows ent

-- the rows of an entity, ascending
abbrev pub members : List Row → ℕ → List RowId
members rows ent = members_from 0 rows ent

-- for each of so many entities the list of its rows
pub record AreEntityRows (rows : List Row) (entities : ℕ) (lists : List (List RowId)) : Type 0 where
  pub per_entity : length lists ≡ entities
  pub each : (ent : ℕ) → ent < entities → slice_index_or lists ent [] ≡ members rows ent
