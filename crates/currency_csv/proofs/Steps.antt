-- The answer at one column and at one cell.
use Rattle.std.proofs.Common.{◌≡◌, ◌-◌, ◌^◌, min, arith, ℕ, [], Option, None, Some, Ok, Err, refl, ap, ◌∙◌, get_or}
use Rattle.std.specs.Option.{option_flatten}
use Rattle.currency_base.specs.declared.value.Value.{Value}
use Rattle.currency_csv.specs.Sources.{read_value, seen_of, source_of}
use Rattle.currency_csv.specs.Table.{Record, place_of, places_in, value_of}
use Rattle.currency_csv.specs.Capped.{capped}
use Rattle.currency_csv.specs.declared.columns.Source.{Source}
use Rattle.currency_csv.specs.declared.table.Column.{Column}
use Rattle.currency_csv.specs.declared.table.TableFault.TheVariants.{MissingColumn, BadInt}
use Rattle.currency_csv.proofs.Places.{only_seen}

-- the place of a column, as it was looked up
pub looked_up : (header : Record) (column : Column) (o : Option (Option ℕ)) → o ≡ seen_of
    (places_in header column.name) → option_flatten o ≡ place_of header column
looked_up header column o e = ap option_flatten e ∙ only_seen (places_in header column.name)

pub source_found : (header : Record) (number place : ℕ) (column : Column) → Some place ≡ place_of header column
    → source_of header (number, column) ≡ Ok (record { place = place; kind = column.kind })
unfolding source_of
source_found header number place column e = rw (← e) refl

pub source_missing : (header : Record) (number : ℕ) (column : Column) → None ≡ place_of header column
    → source_of header (number, column) ≡ Err (MissingColumn (capped number))
unfolding source_of
source_missing header number column e = rw (← e) refl

-- the value of a cell, or the fault where it has none
pub value_found : (number place : ℕ) (fields : Record) (source : Source) (value : Value) → Some value ≡ value_of
    source.kind (get_or fields source.place [])
    → read_value number fields (place, source) ≡ Ok value
unfolding read_value
value_found number place fields source value e = rw (← e) refl

pub value_missing : (number place : ℕ) (fields : Record) (source : Source) → None ≡ value_of source.kind
    (get_or fields source.place [])
    → read_value number fields (place, source) ≡ Err (BadInt number (capped place))
unfolding read_value
value_missing number place fields source e = rw (← e) refl

-- no item, where each is excluded
pub no_item : {A : Type 0} (o : Option A) → ((x : A) → o ≡ Some x → ⊥) → o ≡ None
no_item None h = refl
no_item (Some x) h = absurd (h x refl)

-- a number told, also where it was kept below 2^64 before
pub capped_number : (number kept answer : ℕ) → kept ≡ min number (2 ^ 64 - 1) → answer ≡ capped kept → answer ≡ capped number
capped_number number kept answer e f = omega arith
