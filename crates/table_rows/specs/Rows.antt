-- The rows and entities that a relation's table holds.
use Rattle.std.specs.Prelude.{◌≡◌, ◌<◌, ◌^◌, ℕ, ◌+◌, Bool, true, false, if◌then◌else◌, List, [], ◌∷◌, ◌++◌, length, map, drop, min, All, Option, Some, None, Result, Ok, Err}
use Rattle.std.specs.List.{enumerate_from, list_any, position_or_len, slice_index_or}
use Rattle.std.specs.Str.{bytes_eq}
use Rattle.std.specs.Fmt.{decimal}
use Rattle.currency_base.specs.Lists.{OnlyOnce}
use Rattle.currency_base.specs.Rows.{HasRowOf}
use Rattle.currency_base.specs.declared.row.Row.{Row}
use Rattle.currency_base.specs.declared.value.Value.{Value}
use Rattle.currency_base.specs.declared.value.Value.TheVariants as value
use Rattle.table_rows.specs.declared.rows.TableRows.{TableRows}
use Rattle.table_rows.specs.declared.rows.RowFault.{RowFault}
use Rattle.table_rows.specs.declared.rows.RowFault.TheVariants.{Repeated}

-- the text of a value
abbrev pub text_of : Value → List ℕ
text_of (value.Text text) = text
text_of (value.Int n) = []

-- the text that stands at a place of a tuple
abbrev pub text_at : List Value → ℕ → List ℕ
text_at tuple place = text_of (slice_index_or tuple place (value.Text []))

-- the name of the row of a tuple, which stands first in a table that names its rows, and is otherwise the row's number,
-- counted from 1
abbrev pub row_name : Bool → ℕ × List Value → List ℕ
row_name true (place, tuple) = text_at tuple 0
row_name false (place, tuple) = decimal (place + 1)

-- the name of the entity of a tuple, which stands after the row's name, where there is one
abbrev pub entity_name : Bool → List Value → List ℕ
entity_name true tuple = text_at tuple 1
entity_name false tuple = text_at tuple 0

-- the values of a tuple's attributes, which stand after these names
abbrev pub attribute_values : Bool → List Value → List Value
attribute_values true tuple = drop 2 tuple
attribute_values false tuple = drop 1 tuple

-- the names, without those that stand before
abbrev pub first_standing : List (List ℕ) → List (List ℕ) → List (List ℕ)
first_standing so_far [] = so_far
first_standing so_far (name ∷ names) = first_standing (if list_any (bytes_eq name) so_far then so_far else so_far
    ++ name ∷ []) names

-- the entities of a table, in the order of their first rows
abbrev pub entities_of : Bool → List (List Value) → List (List ℕ)
entities_of named tuples = first_standing [] (map (entity_name named) tuples)

-- the names of a table's rows
abbrev pub row_names_of : Bool → List (List Value) → List (List ℕ)
row_names_of named tuples = map (row_name named) (enumerate_from 0 tuples)

-- the row of a tuple: its name, the place of its entity's name, and its values
abbrev pub row_of : Bool → List (List ℕ) → ℕ × List Value → Row
row_of named entities (place, tuple) = record {
  name = row_name named (place, tuple);
  entity = record { 0 = position_or_len (bytes_eq (entity_name named tuple)) entities };
  values = attribute_values named tuple;
}

-- the rows of a table, in order
abbrev pub rows_of : Bool → List (List Value) → List Row
rows_of named tuples = map (row_of named (entities_of named tuples)) (enumerate_from 0 tuples)

-- the place of the first name that stands before
abbrev pub first_repeat : ℕ → List (List ℕ) → List (List ℕ) → Option ℕ
first_repeat place so_far [] = None
first_repeat place so_far (name ∷ names) =
    if list_any (bytes_eq name) so_far then Some place else first_repeat (place + 1) (so_far ++ name ∷ []) names

-- what a table holds where no row name stands twice; otherwise the number of the first record whose row name does
abbrev pub rows_or_repeat : Bool → List (List Value) → Option ℕ → Result TableRows RowFault
rows_or_repeat named tuples None = Ok record {
  rows = rows_of named tuples;
  names = row_names_of named tuples;
  entities = entities_of named tuples;
}
rows_or_repeat named tuples (Some place) = Err (Repeated (min (place + 2) 4294967295))

-- the rows and entities of a table, or its first record whose row name is taken; the header is record 1
unfoldable pub rows_from : Bool → List (List Value) → Result TableRows RowFault
rows_from named tuples = rows_or_repeat named tuples (first_repeat 0 [] (row_names_of named tuples))

-- rows with a name each, which stand for entities with a name each; each entity has a row
pub record AreRows (r : TableRows) : Type 0 where
  pub few_rows : length r.rows + 1 < 2 ^ 32
  pub few_entities : length r.entities + 1 < 2 ^ 32
  pub names : map (λ row. row.name) r.rows ≡ r.names
  pub row_names : OnlyOnce r.names
  pub entity_names : OnlyOnce r.entities
  pub entities : All (λ row. row.entity.0 < length r.entities) r.rows
  pub inhabited : (ent : ℕ) → ent < length r.entities → HasRowOf r.rows ent
