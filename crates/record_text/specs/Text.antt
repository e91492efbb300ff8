-- The text of records as comma-separated values, as the crate `csv` writes them with its defaults: a field that has a comma,
-- a quote, a CR or an LF stands in quotes, with its quotes doubled, and no other; LF ends each record; and a record of one
-- empty field, or of none, is two quotes.
use Rattle.std.specs.Prelude.{ℕ, List, [], ◌∷◌, ◌++◌}
use Rattle.csv.specs.Writing.{default_writer, row_text}

-- the text of a record, the line feed that ends it included
abbrev pub record_text : List (List ℕ) → List ℕ
record_text fields = row_text default_writer fields

-- the text of records, one after the other
abbrev pub records_text : List (List (List ℕ)) → List ℕ
records_text [] = []
records_text (fields ∷ more) = record_text fields ++ records_text more
