-- What is numbered of a specification.
use Rattle.std.specs.Prelude.{◌≡◌, ◌==◌, ◌+◌, ◌<◌, ◌≢◌, ℕ, Bool, List, [], ◌∷◌, Option, Some, None, map, length, slice_get, if◌then◌else◌}
use Rattle.std.specs.List.{list_any, range_with_len}
use Rattle.currency_base.specs.declared.ids.RelId.{RelId}
use Rattle.currency_base.specs.declared.ids.RowId.{RowId}
use Rattle.entity_lists.specs.Lists.{Grouping, entities_of}
use Rattle.spec_model.specs.declared.relation.Relation.{Relation}
use Rattle.value_names.specs.Names.{names_of}
use Rattle.order_literals.specs.declared.wanted.Wanted.{Wanted}

-- what is numbered of a relation: for each of its attributes the pairs of rows of one entity; and, where its current values
-- are wanted, its rows and its different values, by the row that names the value of each row
pub record Numbered : Type 0 where
  pub attrs : ℕ
  pub rows : Grouping
  pub names : Option (List (List RowId))

-- what is numbered of each relation, and how many answers are
pub record Numbers : Type 0 where
  pub tables : List Numbered
  pub answers : ℕ

-- the current values of a relation are wanted
abbrev pub is_wanted : List RelId → ℕ → Bool
is_wanted currents rel = list_any (λ wanted. wanted.0 == rel) currents

-- the names of a relation's values, attribute by attribute
abbrev pub value_names_of : Relation → List (List RowId)
value_names_of r = map (names_of r.rows) (range_with_len 0 (length r.attrs))

-- what is numbered of a relation
abbrev pub numbered : List RelId → ℕ → Relation → Numbered
numbered currents rel r = record {
  attrs = length r.attrs;
  rows = record { count = length r.entities; entities = entities_of r.rows };
  names = if is_wanted currents rel then Some (value_names_of r) else None;
}

-- what is numbered of these relations, of which the first has this number
abbrev pub tables_from : List RelId → ℕ → List Relation → List Numbered
tables_from currents rel [] = []
tables_from currents rel (r ∷ relations) = numbered currents rel r ∷ tables_from currents (rel + 1) relations

-- what is numbered of a specification with these relations
abbrev pub numbers_of : List Relation → Wanted → Numbers
numbers_of relations wanted = record { tables = tables_from wanted.currents 0 relations; answers = wanted.answers }

-- two different rows of one entity of a relation, and one of its attributes
pub record IsPairOf (n : Numbers) (rel attr : ℕ) (first second : RowId) : Type 0 where
  pub table : Numbered
  pub is_table : slice_get n.tables rel ≡ Some table
  pub attr_within : attr < table.attrs
  pub ent : ℕ
  pub first_of : slice_get table.rows.entities first.0 ≡ Some ent
  pub second_of : slice_get table.rows.entities second.0 ≡ Some ent
  pub differ : first ≢ second

-- a row of a relation whose current values are wanted, and one of its attributes
pub record IsRowOf (n : Numbers) (rel attr : ℕ) (row : RowId) : Type 0 where
  pub table : Numbered
  pub is_table : slice_get n.tables rel ≡ Some table
  pub attr_within : attr < table.attrs
  pub row_within : row.0 < length table.rows.entities
  pub names : List (List RowId)
  pub wanted : table.names ≡ Some names
