-- How many instances of a copy function are of one row.
use Rattle.std.specs.Prelude.{◌*◌, ℕ, Bool, ◌&&◌, List, length, Some}
use Rattle.std.specs.List.{count_by, range_with_len}
use Rattle.copy_functions.specs.Copies.{CopyFunction, source_at}
use Rattle.currency_base.specs.declared.ids.RowId.{RowId}
use Rattle.currency_base.specs.declared.row.Row.{Row}
use Rattle.spec_limits.specs.Instances.{are_of_one_entity, are_sources_of_one, rows_at}
use Rattle.spec_model.specs.declared.relation.Relation.{Relation}

-- two different rows of one entity, of which the first is mapped to this source row, and the second to another of its entity
abbrev pub is_partner : CopyFunction → List Row → List Row → RowId → RowId → RowId → Bool
is_partner copy target_rows source_rows first source second =
    are_of_one_entity target_rows first second && are_sources_of_one source_rows (Some source) (source_at copy second)

-- how many rows are the second of such two rows
unfoldable pub partners : CopyFunction → List Row → List Row → RowId → RowId → ℕ
partners copy target_rows source_rows first source =
    count_by (λ second. is_partner copy target_rows source_rows first source (record { 0 = second }))
    (range_with_len 0 (length target_rows))

-- the instances of a copy function that are of a row which is mapped to this source row: with each of its partners, as the
-- first and as the second of the two, at each place
unfoldable pub row_instances : List Relation → CopyFunction → RowId → RowId → ℕ
row_instances relations copy target source =
    length copy.places * (2 * partners copy (rows_at relations copy.target) (rows_at relations copy.source) target source)
