-- What is read of the text of records.
use Rattle.std.specs.Prelude.{◌≡◌, ℕ, List, [], ◌∷◌, ◌++◌, map}
use Rattle.csv.specs.Writing.{read_back}
use Rattle.currency_csv.specs.Table.{AreRecordsOf}
use Rattle.record_text.specs.Text.{records_text}

-- a byte order mark, U+FEFF in UTF-8
abbrev pub byte_order_mark : List ℕ
byte_order_mark = 239 ∷ 187 ∷ 191 ∷ []

-- the first field of the first record does not begin with a byte order mark
abbrev pub BeginsPlain : List (List (List ℕ)) → Type 0
BeginsPlain records = (rest : List ℕ) (fields : List (List ℕ)) (more : List (List (List ℕ)))
    → records ≡ ((byte_order_mark ++ rest) ∷ fields) ∷ more → ⊥

-- the text of records has just these records, where one of no field is read as one empty field
abbrev pub RecordsReadBack : Type 0
RecordsReadBack = (records : List (List (List ℕ))) → BeginsPlain records
    → AreRecordsOf (records_text records) (map read_back records)
