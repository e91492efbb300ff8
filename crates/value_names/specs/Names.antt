-- Values of an entity by the rows that have them: the first row of an entity that has a value names it.
use Rattle.std.specs.Prelude.{◌==◌, ◌&&◌, ◌+◌, ℕ, Bool, false, List, [], ◌∷◌, Option, Some, map, length, if◌then◌else◌}
use Rattle.std.specs.List.{filter, range_with_len}
use Rattle.currency_base.specs.declared.ids.RowId.{RowId}
use Rattle.currency_base.specs.declared.row.Row.{Row}
use Rattle.currency_base.specs.declared.value.Cmp.TheVariants.{Eq}
use Rattle.denial_rules.specs.Instances.{field_value, is_compared}
use Rattle.partial_orders.specs.Pairs.{entity_of}

-- so many rows, by their ids
abbrev pub row_ids : ℕ → List RowId
row_ids count = map (λ at. record { 0 = at }) (range_with_len 0 count)

-- both are there, and they are one entity
abbrev pub is_one_entity : Option ℕ → Option ℕ → Bool
is_one_entity (Some a) (Some b) = a == b
is_one_entity a b = false

-- two rows of one entity, or one row, with one value of the attribute
abbrev pub are_alike : List Row → ℕ → RowId → RowId → Bool
are_alike rows attr a b = is_one_entity (entity_of rows a.0) (entity_of rows b.0)
    && is_compared (field_value rows (Some a) attr) Eq (field_value rows (Some b) attr)

-- the first of these rows, or another where there is none
abbrev pub first_or : RowId → List RowId → RowId
first_or other [] = other
first_or other (row ∷ rows) = row

-- the first row of a row's entity that has its value of the attribute
abbrev pub name_of : List Row → ℕ → RowId → RowId
name_of rows attr row = first_or row (filter (are_alike rows attr row) (row_ids (length rows)))

-- of each row the row that names its value
abbrev pub names_of : List Row → ℕ → List RowId
names_of rows attr = map (name_of rows attr) (row_ids (length rows))

-- the rows that are their own names, the first of these having this number
abbrev pub firsts_from : ℕ → List RowId → List RowId
firsts_from first [] = []
firsts_from first (name ∷ names) = if name.0 == first then name ∷ firsts_from (first + 1) names else firsts_from (first + 1) names

-- the rows that name values, ascending, by the row that names each row's value
abbrev pub firsts_of : List RowId → List RowId
firsts_of names = firsts_from 0 names
