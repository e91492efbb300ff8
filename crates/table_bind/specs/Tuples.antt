-- The tuples that a told document gives as a table, or the first fault of it.
use Rattle.std.specs.Prelude.{◌≡◌, ◌⊎◌, ◌<◌, ◌≤◌, ℕ, List, length, Result, Ok, Err}
use Rattle.currency_base.specs.declared.error_code.ErrorCode.TheVariants as code
use Rattle.currency_base.specs.declared.value.Value.{Value}
use Rattle.currency_edge.specs.Shelf.{document}
use Rattle.currency_csv.specs.Table.{AreRecordsOf, table_of}
use Rattle.currency_csv.specs.declared.table.Column.{Column}
use Rattle.currency_csv.specs.declared.table.Table.{Table}
use Rattle.currency_csv.specs.declared.table.TableFault.{TableFault}
use Rattle.currency_csv.specs.declared.table.TableFault.TheVariants as table
use Rattle.bind_faults.specs.Faults.{refused_in}
use Rattle.bind_faults.specs.declared.fault.BindFault.{BindFault}
use Rattle.bind_faults.specs.declared.fault.BindFault.TheVariants.{Limit, NoMemory}

-- the bytes that a table may have: 64 MiB
abbrev pub table_bound : ℕ
table_bound = 67108864

-- the refusal that a table's fault is
abbrev pub table_refusal : List ℕ → TableFault → BindFault
table_refusal name (table.Ragged number) = refused_in name code.Ragged number
table_refusal name (table.MissingColumn place) = refused_in name code.MissingColumn 1
table_refusal name (table.BadInt number place) = refused_in name code.BadInt number
table_refusal name table.NoMemory = NoMemory

-- the tuples of a table, or the refusal of what is wrong in it
unfoldable pub tuples_read : List ℕ → Result Table TableFault → Result (List (List Value)) BindFault
tuples_read name (Ok t) = Ok t.tuples
tuples_read name (Err fault) = Err (table_refusal name fault)

-- what the document of that name gives as a table of these columns: it is too long, or its records are read
unfoldable pub AreTuples : List (List ℕ × List ℕ) → List ℕ → List Column → Result (List (List Value)) BindFault → Type 0
AreTuples told name columns tuples =
    ((table_bound < length (document told name)) × (tuples ≡ Err (Limit 2)))
    ⊎ ((length (document told name) ≤ table_bound)
    × (records : List (List (List ℕ))) × AreRecordsOf (document told name) records
    × (tuples ≡ tuples_read name (table_of columns records)))
