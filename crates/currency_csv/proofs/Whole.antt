-- The steps of a read, put together.
use Rattle.std.proofs.Common.{◌≡◌, ◌+◌, ℕ, arith, length, Bool, true, false, cond, not, List, [], ◌∷◌, map, position, Option, None, Some, Result, Ok, Err, refl, sym, ap, ◌∙◌}
use Rattle.std.specs.Prelude.{◌&&◌, is_none, option_map, option_and_then}
use Rattle.std.specs.List.{enumerate_from, list_all, position_from, slice_index_or}
use Rattle.std.specs.Option.{ok_or}
use Rattle.std.specs.Str.{is_utf8}
use Rattle.std.proofs.lemmas.Iterator.Adapters.{position_from-zero}
use Rattle.csv.specs.Records.{Row, fields_of}
use Rattle.currency_base.specs.declared.value.Value.{Value}
use Rattle.currency_csv.specs.Sources.{are_text, read_row, read_tuple, read_tuples, read_value, source_of, sources_of}
use Rattle.currency_csv.specs.Table.{Record, all_ok, first_ragged, is_ragged, place_of, table_of, table_with, tuple_of, tuples_of, value_in, value_of, with_first}
use Rattle.currency_csv.proofs.Fields.{both}
use Rattle.currency_csv.specs.Capped.{capped}
use Rattle.currency_csv.specs.declared.columns.Source.{Source}
use Rattle.currency_csv.specs.declared.table.Column.{Column}
use Rattle.currency_csv.specs.declared.table.TableFault.{TableFault}
use Rattle.currency_csv.specs.declared.table.TableFault.TheVariants.{Ragged, MissingColumn, BadInt}

-- a place found in a list that each item was changed for
position_from-map : {A B : Type 0} (f : A → B) (test : B → Bool) (n : ℕ) (xs : List A) → position_from test n
    (map f xs) ≡ position_from (λ x. test (f x)) n xs
position_from-map f test n [] = refl
position_from-map f test n (x ∷ xs) = ap (cond (test (f x)) (Some n)) (position_from-map f test (n + 1) xs)

position-map : {A B : Type 0} (f : A → B) (test : B → Bool) (xs : List A) → position test (map f xs) ≡ position
    (λ x. test (f x)) xs
position-map f test xs =
    position_from-zero test (map f xs) ∙ position_from-map f test 0 xs ∙ sym (position_from-zero (λ x. test (f x)) xs)

-- where no record is ragged, each is of text
none_ragged : (header : Record) (n : ℕ) (rows : List Row) → position_from (λ r. is_ragged header (fields_of r)) n
    rows ≡ None → are_text rows ≡ true
unfolding is_ragged
none_ragged header n [] h = refl
none_ragged header n (r ∷ rs) h = by _ (list_all is_utf8 (fields_of r)) h (none_ragged header (n + 1) rs)
  where
    by : (wide text : Bool) → cond (not (wide && text)) (Some n) (position_from (λ r. is_ragged header (fields_of r))
        (n + 1) rs) ≡ None
        → (position_from (λ r. is_ragged header (fields_of r)) (n + 1) rs ≡ None → are_text rs ≡ true) →
        (text && are_text rs) ≡ true
    by true true h rest = rest h
    by true false h rest = cc h
    by false text h rest = cc h

all_text : (header : Record) (rows : List Row) → position (λ r. is_ragged header (fields_of r)) rows ≡ None → are_text rows ≡ true
all_text header rows h = none_ragged header 0 rows (sym (position_from-zero (λ r. is_ragged header (fields_of r)) rows) ∙ h)

-- what a first answer and the others give, taken apart
first_ok : {A E : Type 0} (item : A) (rest : Result (List A) E) (items : List A) → with_first item rest ≡ Ok items
    → (others : List A) × (rest ≡ Ok others) × (items ≡ item ∷ others)
first_ok item (Ok others) items e = (others, refl, cc e)
first_ok item (Err fault) items e = cc e

first_err : {A E : Type 0} (item : A) (rest : Result (List A) E) (fault : E) → with_first item rest ≡ Err fault → rest ≡ Err fault
first_err item (Ok others) fault e = cc e
first_err item (Err g) fault e = cc e

-- where each column has its source, none is missing
sources_found : (header : Record) (n : ℕ) (columns : List Column) (sources : List Source)
    → all_ok (map (source_of header) (enumerate_from n columns)) ≡ Ok sources
    → position_from (λ column. is_none (place_of header column)) n columns ≡ None
unfolding source_of
sources_found header n [] sources e = refl
sources_found header n (column ∷ columns) sources e = by (place_of header column) e (sources_found header (n + 1) columns)
  where
    by : (o : Option ℕ) → all_ok (ok_or (option_map (λ place. record { place = place; kind = column.kind }) o)
        (MissingColumn (capped n)) ∷ map (source_of header) (enumerate_from (n + 1) columns)) ≡ Ok sources
        → ((others : List Source) → all_ok (map (source_of header) (enumerate_from (n + 1) columns)) ≡ Ok others
        → position_from (λ column. is_none (place_of header column)) (n + 1) columns ≡ None)
        → cond (is_none o) (Some n) (position_from (λ column. is_none (place_of header column)) (n + 1) columns) ≡ None
    by None e rest = cc e
    by (Some place) e rest = let k = first_ok _ _ sources e in rest k.0 k.1

-- and where one has none, it is the first that is missing
source_lacking : (header : Record) (n : ℕ) (columns : List Column) (fault : TableFault)
    → all_ok (map (source_of header) (enumerate_from n columns)) ≡ Err fault
    → (place : ℕ) × (position_from (λ column. is_none (place_of header column)) n columns ≡ Some place) ×
    (fault ≡ MissingColumn (capped place))
unfolding source_of
source_lacking header n [] fault e = cc e
source_lacking header n (column ∷ columns) fault e = by (place_of header column) e (source_lacking header (n + 1) columns fault)
  where
    by : (o : Option ℕ) → all_ok (ok_or (option_map (λ place. record { place = place; kind = column.kind }) o)
        (MissingColumn (capped n)) ∷ map (source_of header) (enumerate_from (n + 1) columns)) ≡ Err fault
        → (all_ok (map (source_of header) (enumerate_from (n + 1) columns)) ≡ Err fault
        → (place : ℕ) × (position_from (λ column. is_none (place_of header column)) (n + 1) columns ≡ Some place) ×
        (fault ≡ MissingColumn (capped place)))
        → (place : ℕ) × (cond (is_none o) (Some n) (position_from (λ column. is_none (place_of header column))
        (n + 1) columns) ≡ Some place) × (fault ≡ MissingColumn (capped place))
    by None e rest = (n, refl, cc e)
    by (Some place) e rest = rest (first_err _ _ fault e)

-- equal answers first, and what is alike after them
same_all : {A E : Type 0} (a b : Result A E) (r s : List (Result A E)) → a ≡ b → all_ok r ≡ all_ok s
    → all_ok (a ∷ r) ≡ all_ok (b ∷ s)
same_all {A} {E} a b r s e f = ap (λ c. all_ok (c ∷ r)) e ∙ by b
  where
    by : (c : Result A E) → all_ok (c ∷ r) ≡ all_ok (c ∷ s)
    by (Ok item) = ap (with_first item) f
    by (Err fault) = refl

-- what a record's columns give is what their sources give
same_values : (header : Record) (number : ℕ) (fields : Record) (n : ℕ) (columns : List Column) (sources : List Source)
    → all_ok (map (source_of header) (enumerate_from n columns)) ≡ Ok sources
    → all_ok (map (λ (place, column). ok_or (value_in header fields column) (BadInt number (capped place)))
    (enumerate_from n columns))
    ≡ all_ok (map (read_value number fields) (enumerate_from n sources))
unfolding source_of value_in read_value
same_values header number fields n [] [] e = refl
same_values header number fields n [] (s ∷ ss) e = cc e
same_values header number fields n (column ∷ columns) sources e = by (place_of header column) _ e
    (same_values header number fields (n + 1) columns)
  where
    by : (o : Option ℕ) (values : List (Result Value TableFault))
        → all_ok (ok_or (option_map (λ place. record { place = place; kind = column.kind }) o)
        (MissingColumn (capped n)) ∷ map (source_of header) (enumerate_from (n + 1) columns)) ≡ Ok sources
        → ((others : List Source) → all_ok (map (source_of header) (enumerate_from (n + 1) columns)) ≡ Ok others
        → all_ok values ≡ all_ok (map (read_value number fields) (enumerate_from (n + 1) others)))
        → all_ok (ok_or (option_and_then (λ place. value_of column.kind (slice_index_or fields place [])) o)
        (BadInt number (capped n)) ∷ values)
        ≡ all_ok (map (read_value number fields) (enumerate_from n sources))
    by None values e rest = cc e
    by (Some place) values e rest =
        let k = first_ok _ _ sources e in
        rw k.2 (same_all _ _ values _ refl (rest k.0 k.1))

same_tuple : (header : Record) (columns : List Column) (sources : List Source) → sources_of header columns ≡ Ok sources
    → (number : ℕ) (fields : Record) → tuple_of header columns (number, fields) ≡ read_tuple sources (capped number) fields
unfolding sources_of tuple_of read_tuple
same_tuple header columns sources e number fields = same_values header (capped number) fields 0 columns sources e

same_tuples : (header : Record) (columns : List Column) (sources : List Source) → sources_of header columns ≡ Ok sources
    → (n : ℕ) (rows : List Row) → all_ok (map (tuple_of header columns) (enumerate_from n (map fields_of rows))) ≡
    all_ok (map (read_row sources) (enumerate_from n rows))
same_tuples header columns sources e n [] = refl
same_tuples header columns sources e n (r ∷ rs) = same_all _ _ _ _
    (same_tuple header columns sources e n (fields_of r)) (same_tuples header columns sources e (n + 1) rs)

-- the records of a text that has a header
module _ (columns : List Column) (records : List Row) (header : Row) (rows : List Row) (split : records ≡ header ∷ rows) where
  abbrev ragged : Option ℕ
  ragged = position (λ r. is_ragged (fields_of header) (fields_of r)) records

  -- the fault of a ragged record
  pub table_ragged : (place : ℕ) → ragged ≡ Some place → table_of columns (map fields_of records) ≡ Err
      (Ragged (capped (place + 1)))
  unfolding table_of
  table_ragged place h =
      let wide = ap (λ (l : List Record). first_ragged (fields_of header) l) (ap (map fields_of) (sym split))
      ∙ position-map fields_of (is_ragged (fields_of header)) records ∙ h in
      rw (split, wide) refl

  module _ (fits : ragged ≡ None) where
    none_found : first_ragged (fields_of header) (map fields_of (header ∷ rows)) ≡ None
    none_found = ap (λ (l : List Record). first_ragged (fields_of header) l) (ap (map fields_of) (sym split))
        ∙ position-map fields_of (is_ragged (fields_of header)) records ∙ fits

    -- the header is of text, and so are the records below it
    pub text_below : (list_all is_utf8 (fields_of header) ≡ true) × (are_text rows ≡ true)
    text_below = both (list_all is_utf8 (fields_of header)) (are_text rows)
        (rw split at (all_text (fields_of header) records fits))

    -- the table where each column has its source
    pub table_read : (sources : List Source) → Ok sources ≡ sources_of (fields_of header) columns → table_of columns
        (map fields_of records) ≡ table_with (read_tuples sources rows)
    unfolding table_of sources_of tuples_of read_tuples
    table_read sources found =
        let there = position_from-zero (λ column. is_none (place_of (fields_of header) column)) columns
        ∙ sources_found (fields_of header) 0 columns sources (sym found) in
        rw (split, none_found, there) (ap table_with (same_tuples (fields_of header) columns sources (sym found) 2 rows))

    -- the fault of a column that has no source
    pub table_missing : (fault : TableFault) → Err fault ≡ sources_of (fields_of header) columns → table_of columns
        (map fields_of records) ≡ Err fault
    unfolding table_of sources_of
    table_missing fault lacking =
        let lack = source_lacking (fields_of header) 0 columns fault (sym lacking) in
        let there = position_from-zero (λ column. is_none (place_of (fields_of header) column)) columns ∙ lack.1 in
        rw (split, none_found, there) (ap Err (sym lack.2))

-- the fault where there is no header
pub table_empty : (columns : List Column) (rows : List Row) → length rows ≡ 0 → table_of columns
    (map fields_of rows) ≡ Err (MissingColumn 0)
unfolding table_of
table_empty columns [] e = refl
table_empty columns (r ∷ rs) e = absurd (omega arith)

-- two faults of one answer
pub same_fault : {A E : Type 0} (r : Result A E) (a b : E) → r ≡ Err a → r ≡ Err b → a ≡ b
same_fault {A} {E} r a b e f = let both : ◌≡◌ {A = Result A E} (Err a) (Err b) = sym e ∙ f in cc both
