-- How many instances a specification has.
use Rattle.std.specs.Prelude.{◌==◌, ◌+◌, ◌-◌, ◌*◌, ◌/◌, ◌^◌, ℕ, Bool, false, not, ◌&&◌, nat_lt, List, [], length, Option, Some, None, slice_get, if◌then◌else◌}
use Rattle.std.specs.List.{count_by, range_with_len, sum_by}
use Rattle.std.specs.Option.{option_map_or}
use Rattle.currency_base.specs.declared.ids.RelId.{RelId}
use Rattle.currency_base.specs.declared.ids.RowId.{RowId}
use Rattle.currency_base.specs.declared.row.Row.{Row}
use Rattle.copy_functions.specs.Copies.{CopyFunction, source_at}
use Rattle.denial_rules.specs.declared.rule.Rule.{Rule}
use Rattle.spec_model.specs.Pairs.{entity_of}
use Rattle.spec_model.specs.Spec.{Spec}
use Rattle.spec_model.specs.declared.relation.Relation.{Relation}
use Rattle.spec_limits.specs.Limits.{rows_of}

-- the sum of a term over the entities of a relation, by how many rows each of them has
abbrev pub sum_by_entity : (ℕ → ℕ) → Relation → ℕ
sum_by_entity term r = sum_by (λ ent. term (rows_of ent r.rows)) (range_with_len 0 (length r.entities))

-- ---- rules

-- of a rule of v variables: n^v for each entity of its relation that has n rows
unfoldable pub rule_instances : List Relation → Rule → ℕ
rule_instances relations rule = option_map_or (sum_by_entity (λ n. n ^ rule.vars)) (slice_get relations rule.relation.0) 0

-- ---- copy functions

-- both entities are there, and they are one
abbrev pub is_one_entity : Option ℕ → Option ℕ → Bool
is_one_entity (Some a) (Some b) = a == b
is_one_entity a b = false

-- two different rows of one entity
abbrev pub are_of_one_entity : List Row → RowId → RowId → Bool
are_of_one_entity rows first second = not (first.0 == second.0) && is_one_entity (entity_of rows first.0)
    (entity_of rows second.0)

-- both source rows are there, and they are different rows of one entity
abbrev pub are_sources_of_one : List Row → Option RowId → Option RowId → Bool
are_sources_of_one rows (Some first) (Some second) = are_of_one_entity rows first second
are_sources_of_one rows first second = false

-- two different mapped rows of one entity whose sources are different rows of one entity
abbrev pub is_copy_instance : CopyFunction → List Row → List Row → RowId → RowId → Bool
is_copy_instance copy target_rows source_rows first second =
    are_of_one_entity target_rows first second && are_sources_of_one source_rows (source_at copy first) (source_at copy second)

-- how many rows are the second of such two rows, with this row as the first
unfoldable pub copy_partners : CopyFunction → List Row → List Row → ℕ → ℕ
copy_partners copy target_rows source_rows first =
    count_by (λ second. is_copy_instance copy target_rows source_rows (record { 0 = first }) (record { 0 = second }))
    (range_with_len 0 (length target_rows))

-- how many ordered pairs of rows are two such rows
unfoldable pub copy_pairs : CopyFunction → List Row → List Row → ℕ
copy_pairs copy target_rows source_rows = sum_by (copy_partners copy target_rows source_rows)
    (range_with_len 0 (length target_rows))

-- the rows of the relation of that id
abbrev pub rows_at : List Relation → RelId → List Row
rows_at relations rel = option_map_or (λ r. r.rows) (slice_get relations rel.0) []

-- of a copy function: each of these pairs at each of its places
unfoldable pub copy_instances : List Relation → CopyFunction → ℕ
copy_instances relations copy = length copy.places * copy_pairs copy (rows_at relations copy.target)
    (rows_at relations copy.source)

-- ---- orders

-- two for each three of so many rows
unfoldable pub two_for_each_three : ℕ → ℕ
two_for_each_three n = n * (n - 1) * (n - 2) / 3

-- of a relation: for each attribute and entity, two for each three of its rows
unfoldable pub order_instances : Relation → ℕ
order_instances r = length r.attrs * sum_by_entity two_for_each_three r

-- ---- all of them

-- the instances of rules, of copy functions and of orders
unfoldable pub instances : Spec → ℕ
instances s = sum_by (rule_instances s.relations) s.rules + sum_by (copy_instances s.relations) s.copies + sum_by
    order_instances s.relations

-- limit 11, where there are more than 8000000 instances
unfoldable pub too_many_instances : Spec → Option ℕ
too_many_instances s = if nat_lt 8000000 (instances s) then Some 11 else None
