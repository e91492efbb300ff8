-- Columns of a table.
use Rattle.std.specs.Prelude.{ℕ, List}
use Rattle.currency_base.specs.declared.value.ValueKind.{ValueKind}
use Rattle.currency_base.specs.declared.value.ValueKind.TheVariants.{Text}
use Rattle.currency_csv.specs.declared.table.Column.{Column}

-- the column of a name, with values of a kind
abbrev pub column_of : ValueKind → List ℕ → Column
column_of kind name = record { name = name; kind = kind }

-- the column of texts of a name
abbrev pub text_column : List ℕ → Column
text_column name = column_of Text name
