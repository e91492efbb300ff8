-- What the parts of reading a table leave: the words of private contracts.
use Rattle.std.specs.Prelude.{◌≡◌, ◌⊎◌, ◌<◌, ◌≤◌, ℕ, List, length, Result, Ok, Err}
use Rattle.currency_base.specs.declared.value.Value.{Value}
use Rattle.currency_edge.specs.Shelf.{document}
use Rattle.currency_csv.specs.Table.{AreRecordsOf, table_of}
use Rattle.currency_csv.specs.declared.table.Column.{Column}
use Rattle.bind_faults.specs.declared.fault.BindFault.{BindFault}
use Rattle.bind_faults.specs.declared.fault.BindFault.TheVariants.{Refused, CopyDiffers, Limit, NoMemory}
use Rattle.table_bind.specs.Tuples.{table_bound, tuples_read}

-- the bytes of the document, where it is not too long
abbrev pub Reads : List (List ℕ × List ℕ) → List ℕ → Result (List ℕ) BindFault → Type 0
Reads told name (Ok bytes) = (bytes ≡ document told name) × (length bytes ≤ table_bound)
Reads told name (Err (Limit k)) = (k ≡ 2) × (table_bound < length (document told name))
Reads told name (Err (Refused refusal)) = ⊥
Reads told name (Err (CopyDiffers document line target source)) = ⊥
Reads told name (Err fault) = Unit {0}

-- the tuples in the bytes of a table, or its refusal, or memory ran out
unfoldable pub ReadsTuples : List ℕ → List Column → List ℕ → Result (List (List Value)) BindFault → Type 0
ReadsTuples name columns bytes result = (result ≡ Err NoMemory)
    ⊎ ((records : List (List (List ℕ))) × AreRecordsOf bytes records × (result ≡ tuples_read name (table_of columns records)))
