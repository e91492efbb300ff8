-- What the steps of a read keep between them.
use Rattle.std.specs.Prelude.{ℕ, Bool, List, [], ◌∷◌, map, Option, None, Some, Result, Ok, Err, Vec, option_map}
use Rattle.std.specs.List.{enumerate_from, list_all, slice_index_or}
use Rattle.std.specs.Option.{ok_or}
use Rattle.std.specs.Str.{is_utf8}
use Rattle.csv.specs.Records.{Row, fields_of}
use Rattle.currency_base.specs.declared.value.Value.{Value}
use Rattle.currency_csv.specs.Table.{Record, all_ok, only, place_of, value_of}
use Rattle.currency_csv.specs.Capped.{capped}
use Rattle.currency_csv.specs.declared.table.Column.{Column}
use Rattle.currency_csv.specs.declared.table.TableFault.{TableFault}
use Rattle.currency_csv.specs.declared.table.TableFault.TheVariants.{MissingColumn, BadInt}
use Rattle.currency_csv.specs.declared.columns.Source.{Source}

-- the items of a vector, where there is one
abbrev pub with_items : {A Z E : Type 0} → Result (Vec A Z) E → Result (List A) E
with_items (Ok v) = Ok v.items
with_items (Err fault) = Err fault

-- what is noted of a name that stands at these places: none, or the only place
abbrev pub seen_of : List ℕ → Option (Option ℕ)
seen_of [] = None
seen_of (place ∷ rest) = Some (only (place ∷ rest))

-- where the values of a column come from, or the fault of the column of that number
unfoldable pub source_of : Record → ℕ × Column → Result Source TableFault
source_of header (number, column) =
    ok_or (option_map (λ place. record { place = place; kind = column.kind }) (place_of header column))
    (MissingColumn (capped number))

-- the same of every column, or the first fault
unfoldable pub sources_of : Record → List Column → Result (List Source) TableFault
sources_of header columns = all_ok (map (source_of header) (enumerate_from 0 columns))

-- the value of a source in a record of that number, or the fault of the source of that place
unfoldable pub read_value : ℕ → Record → ℕ × Source → Result Value TableFault
read_value number fields (place, source) = ok_or (value_of source.kind (slice_index_or fields source.place []))
    (BadInt number (capped place))

-- the values of all sources, or the first fault
unfoldable pub read_tuple : List Source → ℕ → Record → Result (List Value) TableFault
read_tuple sources number fields = all_ok (map (read_value number fields) (enumerate_from 0 sources))

-- the same of the record of that number
abbrev pub read_row : List Source → ℕ × Row → Result (List Value) TableFault
read_row sources (number, row) = read_tuple sources (capped number) (fields_of row)

-- the same of every record, counted on from 2
unfoldable pub read_tuples : List Source → List Row → Result (List (List Value)) TableFault
read_tuples sources rows = all_ok (map (read_row sources) (enumerate_from 2 rows))

-- the fields of each record are UTF-8
abbrev pub are_text : List Row → Bool
are_text rows = list_all (λ r. list_all is_utf8 (fields_of r)) rows
