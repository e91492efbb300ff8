-- The rows of each entity, by the entity of each row.
use Rattle.std.specs.Prelude.{◌==◌, ◌+◌, ℕ, List, [], ◌∷◌, map, if◌then◌else◌}
use Rattle.currency_base.specs.declared.ids.RowId.{RowId}
use Rattle.currency_base.specs.declared.row.Row.{Row}

-- the entity of each row
abbrev pub entities_of : List Row → List ℕ
entities_of rows = map (λ row. row.entity.0) rows

-- the rows of an entity, ascending, where the first of these has this number
abbrev pub rows_from : ℕ → List ℕ → ℕ → List RowId
rows_from first [] ent = []
rows_from first (e ∷ es) ent =
    if e == ent then record { 0 = first } ∷ rows_from (first + 1) es ent else rows_from (first + 1) es ent

-- the rows of an entity, ascending, by the entity of each row
abbrev pub rows_of : List ℕ → ℕ → List RowId
rows_of entities ent = rows_from 0 entities ent

-- how many entities there are, and the entity of each row
pub record Grouping : Type 0 where
  pub count : ℕ
  pub entities : List ℕ
