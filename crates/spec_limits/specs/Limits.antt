-- How large a specification may be.
use Rattle.std.specs.Prelude.{◌==◌, ◌+◌, ◌*◌, ℕ, Bool, ◌||◌, nat_lt, List, [], ◌∷◌, length, Option, Some, None, if◌then◌else◌}
use Rattle.std.specs.List.{list_any, count_by, sum_by}
use Rattle.currency_base.specs.declared.row.Row.{Row}
use Rattle.denial_rules.specs.declared.rule.Rule.{Rule}
use Rattle.spec_model.specs.Spec.{Spec}
use Rattle.spec_model.specs.declared.relation.Relation.{Relation}

-- how many of these rows are of the entity of that number
abbrev pub rows_of : ℕ → List Row → ℕ
rows_of ent rows = count_by (λ q. q.entity.0 == ent) rows

-- more than 64 rows are of one entity
abbrev pub is_crowded : List Row → Bool
is_crowded rows = list_any (λ row. nat_lt 64 (rows_of row.entity.0 rows)) rows

-- the rows of all relations
abbrev pub rows_together : List Relation → ℕ
rows_together relations = sum_by (λ r. length r.rows) relations

-- more than 4 variables, or more than 16 predicates
abbrev pub is_long : Rule → Bool
is_long rule = nat_lt 4 rule.vars || nat_lt 16 (length rule.predicates)

-- the least of limits 4 to 9 that is exceeded: 64 relations, 32 attributes of a relation, 100000 rows together, 64 rows of
-- one entity of a relation, 256 rules of 4 variables and 16 predicates, and 64 copy functions
unfoldable pub exceeded : Spec → Option ℕ
exceeded s =
    if nat_lt 64 (length s.relations) then Some 4
    else (if list_any (λ r. nat_lt 32 (length r.attrs)) s.relations then Some 5
    else (if nat_lt 100000 (rows_together s.relations) then Some 6
    else (if list_any (λ r. is_crowded r.rows) s.relations then Some 7
    else (if nat_lt 256 (length s.rules) || list_any is_long s.rules then Some 8
    else (if nat_lt 64 (length s.copies) then Some 9
    else None)))))

-- the pairs of rows of one entity
abbrev pub entity_pairs : List Row → ℕ
entity_pairs [] = 0
entity_pairs (row ∷ rows) = rows_of row.entity.0 rows + entity_pairs rows

-- one variable for each attribute and pair of rows of one entity
unfoldable pub order_variables : List Relation → ℕ
order_variables relations = sum_by (λ r. length r.attrs * entity_pairs r.rows) relations

-- limit 10, where there are more than 4000000 of these variables
unfoldable pub too_many_variables : Spec → Option ℕ
too_many_variables s = if nat_lt 4000000 (order_variables s.relations) then Some 10 else None
