-- How a table is read: which records a text has, and which tuples or which fault they give.
use Rattle.std.specs.Prelude.{ℕ, ◌+◌, ◌==◌, ◌&&◌, not, Bool, List, [], ◌∷◌, length, map, filter, position, Option, None, Some, is_none, option_map, option_and_then, Result, Ok, Err}
use Rattle.std.specs.List.{enumerate_from, list_all, slice_index_or}
use Rattle.std.specs.Option.{ok_or}
use Rattle.std.specs.Str.{bytes_eq, is_utf8}
use Rattle.csv.specs.Reading.{AreRecords, default_config, strip_bom}
use Rattle.csv.specs.declared.parser.State.TheVariants as st
use Rattle.currency_base.specs.Number.{int_of}
use Rattle.currency_base.specs.declared.value.ValueKind.{ValueKind}
use Rattle.currency_base.specs.declared.value.ValueKind.TheVariants as kind
use Rattle.currency_base.specs.declared.value.Value.{Value}
use Rattle.currency_base.specs.declared.value.Value.TheVariants as value
use Rattle.currency_csv.specs.Capped.{capped}
use Rattle.currency_csv.specs.declared.table.Column.{Column}
use Rattle.currency_csv.specs.declared.table.Table.{Table}
use Rattle.currency_csv.specs.declared.table.TableFault.{TableFault}
use Rattle.currency_csv.specs.declared.table.TableFault.TheVariants.{Ragged, MissingColumn, BadInt}

-- a record: the bytes of each of its fields
abbrev pub Record : Type 0
Record = List (List ℕ)

-- the records of a text, the header included, once one byte order mark is dropped
abbrev pub AreRecordsOf : List ℕ → List Record → Type 0
AreRecordsOf bytes records = AreRecords default_config st.StartRecord (strip_bom bytes) records

-- a record has another number of fields than the header, or a field that is not UTF-8
unfoldable pub is_ragged : Record → Record → Bool
is_ragged header fields = not ((length fields == length header) && list_all is_utf8 fields)

-- the places of the header at which the name stands
unfoldable pub places_in : Record → List ℕ → List ℕ
places_in header name = map (λ p. p.0) (filter (λ p. bytes_eq p.1 name) (enumerate_from 0 header))

-- the item of a list that has just one
abbrev pub only : {A : Type 0} → List A → Option A
only [] = None
only (x ∷ []) = Some x
only (x ∷ y ∷ rest) = None

-- the place of a column in the header, where its name stands there exactly once
abbrev pub place_of : Record → Column → Option ℕ
place_of header column = only (places_in header column.name)

-- what a field says as a value of a kind
abbrev pub value_of : ValueKind → List ℕ → Option Value
value_of kind.Text field = Some (value.Text field)
value_of kind.Int field = option_map value.Int (int_of field)

-- the value of a column in a record below the header
unfoldable pub value_in : Record → Record → Column → Option Value
value_in header fields column = option_and_then (λ place. value_of column.kind (slice_index_or fields place []))
    (place_of header column)

-- an item before others, unless there is a fault in place of those
abbrev pub with_first : {A E : Type 0} → A → Result (List A) E → Result (List A) E
with_first item (Ok items) = Ok (item ∷ items)
with_first item (Err fault) = Err fault

-- every item, where each answer has one, and else the first fault
abbrev pub all_ok : {A E : Type 0} → List (Result A E) → Result (List A) E
all_ok [] = Ok []
all_ok (Ok item ∷ rest) = with_first item (all_ok rest)
all_ok (Err fault ∷ rest) = Err fault

-- the values of a record in the order of the columns
unfoldable pub tuple_of : Record → List Column → ℕ × Record → Result (List Value) TableFault
tuple_of header columns (number, fields) =
    all_ok (map (λ (place, column). ok_or (value_in header fields column) (BadInt (capped number) (capped place)))
    (enumerate_from 0 columns))

-- the tuples of the records below the header, the first of which is record 2
unfoldable pub tuples_of : Record → List Column → List Record → Result (List (List Value)) TableFault
tuples_of header columns rows = all_ok (map (tuple_of header columns) (enumerate_from 2 rows))

-- the table of the tuples, unless there is a fault in place of those
abbrev pub table_with : Result (List (List Value)) TableFault → Result Table TableFault
table_with (Ok tuples) = Ok (record { tuples = tuples })
table_with (Err fault) = Err fault

-- the fault of a place that was found, and where none was found what comes next
abbrev pub fault_at : Option ℕ → (ℕ → TableFault) → Result Table TableFault → Result Table TableFault
fault_at (Some place) fault next = Err (fault place)
fault_at None fault next = next

-- the place of the first record that is ragged
abbrev pub first_ragged : Record → List Record → Option ℕ
first_ragged header records = position (is_ragged header) records

-- the place of the first column that the header has not at all or more than once
abbrev pub first_missing : Record → List Column → Option ℕ
first_missing header columns = position (λ column. is_none (place_of header column)) columns

-- the table of the columns in the records of a text, or its first fault: a ragged record, then a column that is
-- not in the header just once, then a field that is no integer
unfoldable pub table_of : List Column → List Record → Result Table TableFault
table_of columns [] = Err (MissingColumn 0)
table_of columns (header ∷ rows) =
    fault_at (first_ragged header (header ∷ rows)) (λ place. Ragged (capped (place + 1)))
    (fault_at (first_missing header columns) (λ place. MissingColumn (capped place))
    (table_with (tuples_of header columns rows)))
