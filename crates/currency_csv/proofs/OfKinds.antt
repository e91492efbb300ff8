-- Each tuple of a table has a value of each column's kind.
use Rattle.std.proofs.Common.{◌≡◌, ◌⊎◌, inl, inr, ◌+◌, ℕ, List, [], ◌∷◌, map, Option, None, Some, Result, Ok, Err, All, IfOk, refl, sym, ap, ◌∙◌}
use Rattle.std.specs.Prelude.{option_map, option_and_then}
use Rattle.std.specs.List.{enumerate_from, slice_index_or}
use Rattle.std.specs.Option.{ok_or}
use Rattle.std.proofs.Math.IntN.{ℤ}
use Rattle.std.proofs.lemmas.List.Elements.{All-nil, All-cons, All-same}
use Rattle.currency_base.specs.Values.{kind_of}
use Rattle.currency_base.specs.Number.{int_of}
use Rattle.currency_base.specs.declared.value.ValueKind.{ValueKind}
use Rattle.currency_base.specs.declared.value.ValueKind.TheVariants as kind
use Rattle.currency_base.specs.declared.value.Value.{Value}
use Rattle.currency_base.specs.declared.value.Value.TheVariants as value
use Rattle.currency_csv.specs.Table.{Record, all_ok, fault_at, first_missing, first_ragged, place_of, table_of, table_with, tuple_of, tuples_of, value_in, value_of, with_first}
use Rattle.currency_csv.specs.Capped.{capped}
use Rattle.currency_csv.specs.declared.table.Column.{Column}
use Rattle.currency_csv.specs.declared.table.Table.{Table}
use Rattle.currency_csv.specs.declared.table.TableFault.{TableFault}
use Rattle.currency_csv.specs.declared.table.TableFault.TheVariants.{BadInt, NoMemory}

-- ---- answers of which each is an item

with_first-ok : {A E : Type 0} (y : A) (r : Result (List A) E) (items : List A) → with_first y r ≡ Ok items
    → (ys : List A) × (r ≡ Ok ys) × (items ≡ y ∷ ys)
with_first-ok y (Ok ys) items is = (ys, refl, cc)
with_first-ok y (Err fault) items is = cc

all_ok-parts : {A E : Type 0} (x : Result A E) (rest : List (Result A E)) (items : List A) → all_ok (x ∷ rest) ≡ Ok items
    → (y : A) × (ys : List A) × (x ≡ Ok y) × (all_ok rest ≡ Ok ys) × (items ≡ y ∷ ys)
all_ok-parts (Ok y) rest items is =
    let p = with_first-ok y (all_ok rest) items is in
    (y, p.0, refl, p.1, p.2)
all_ok-parts (Err fault) rest items is = cc

-- a fact of each item
each_ok : {X A E : Type 0} (P : A → Type 0) (f : X → Result A E) → ((x : X) (y : A) → f x ≡ Ok y → P y)
    → (xs : List X) (items : List A) → all_ok (map f xs) ≡ Ok items → All P items
each_ok P f each [] items is = let none : items ≡ [] = cc in All-same P items [] none (All-nil P)
each_ok P f each (x ∷ xs) items is =
    let p = all_ok-parts (f x) (map f xs) items is in
    All-same P items (p.0 ∷ p.1) p.4 (All-cons P p.0 p.1 (each x p.0 p.2) (each_ok P f each xs p.1 p.3))

-- ---- one value

value_kind : (k : ValueKind) (field : List ℕ) (v : Value) → value_of k field ≡ Some v → kind_of v ≡ k
value_kind kind.Text field v is = let same : value.Text field ≡ v = cc in sym (ap kind_of same)
value_kind kind.Int field v is = by (int_of field) is
  where
    by : (n : Option ℤ) → option_map value.Int n ≡ Some v → kind_of v ≡ kind.Int
    by None e = cc
    by (Some n) e = let same : value.Int n ≡ v = cc in sym (ap kind_of same)

kind_at : (place : Option ℕ) (k : ValueKind) (fields : Record) (v : Value)
    → option_and_then (λ place. value_of k (slice_index_or fields place [])) place ≡ Some v → kind_of v ≡ k
kind_at None k fields v is = cc
kind_at (Some place) k fields v is = value_kind k (slice_index_or fields place []) v is

ok_or-some : {A E : Type 0} (o : Option A) (fault : E) (x : A) → ok_or o fault ≡ Ok x → o ≡ Some x
ok_or-some None fault x is = cc
ok_or-some (Some y) fault x is = cc

kind_in : (header fields : Record) (column : Column) (fault : TableFault) (v : Value)
    → ok_or (value_in header fields column) fault ≡ Ok v
    → kind_of v ≡ column.kind
unfolding value_in
kind_in header fields column fault v is =
    kind_at (place_of header column) column.kind fields v
    (ok_or-some (option_and_then (λ place. value_of column.kind (slice_index_or fields place []))
    (place_of header column)) fault v is)

-- ---- the values of a record

kinds_in : (header fields : Record) (number n : ℕ) (columns : List Column) (values : List Value)
    → all_ok (map (λ (place, column). ok_or (value_in header fields column) (BadInt (capped number) (capped place)))
    (enumerate_from n columns)) ≡ Ok values
    → map kind_of values ≡ map (λ c. c.kind) columns
kinds_in header fields number n [] values is = let none : values ≡ [] = cc in ap (map kind_of) none
kinds_in header fields number n (c ∷ columns) values is =
    let p = all_ok-parts (ok_or (value_in header fields c) (BadInt (capped number) (capped n)))
    (map (λ (place, column). ok_or (value_in header fields column) (BadInt (capped number) (capped place)))
    (enumerate_from (n + 1) columns)) values is in
    let first : kind_of p.0 ≡ c.kind = kind_in header fields c (BadInt (capped number) (capped n)) p.0 p.2 in
    let rest : map kind_of p.1 ≡ map (λ c. c.kind) columns = kinds_in header fields number (n + 1) columns p.1 p.3 in
    ap (map kind_of) p.4 ∙ ap (λ k. k ∷ map kind_of p.1) first ∙ ap (λ ks. c.kind ∷ ks) rest

tuple_kinds : (header : Record) (columns : List Column) (row : ℕ × Record) (values : List Value)
    → tuple_of header columns row ≡ Ok values
    → map kind_of values ≡ map (λ c. c.kind) columns
unfolding tuple_of
tuple_kinds header columns (number, fields) values is = kinds_in header fields number 0 columns values is

tuples_kinds : (header : Record) (columns : List Column) (rows : List Record) (tuples : List (List Value))
    → tuples_of header columns rows ≡ Ok tuples
    → All (λ tuple. map kind_of tuple ≡ map (λ c. c.kind) columns) tuples
unfolding tuples_of
tuples_kinds header columns rows tuples is =
    each_ok (λ tuple. map kind_of tuple ≡ map (λ c. c.kind) columns) (tuple_of header columns)
    (tuple_kinds header columns) (enumerate_from 2 rows) tuples is

-- a table that is read holds the tuples
tuples_read : (a b : Option ℕ) (f g : ℕ → TableFault) (r : Result (List (List Value)) TableFault) (t : Table)
    → fault_at a f (fault_at b g (table_with r)) ≡ Ok t → r ≡ Ok t.tuples
tuples_read (Some place) b f g r t is = cc
tuples_read None (Some place) f g r t is = cc
tuples_read None None f g (Err fault) t is = cc
tuples_read None None f g (Ok tuples) t is = let same : record { tuples = tuples } ≡ t = cc in ap (λ s. Ok s.tuples) same

table_of_kinds : (columns : List Column) (records : List Record) (t : Table) → table_of columns records ≡ Ok t
    → All (λ tuple. map kind_of tuple ≡ map (λ c. c.kind) columns) t.tuples
unfolding table_of
table_of_kinds columns [] t is = cc
table_of_kinds columns (header ∷ rows) t is =
    tuples_kinds header columns rows t.tuples
    (tuples_read (first_ragged header (header ∷ rows)) (first_missing header columns) _ _ (tuples_of header columns rows) t is)

-- so do those of what is read
pub table_kinds : (columns : List Column) (records : List Record) (result : Result Table TableFault)
    → (result ≡ Err NoMemory) ⊎ (result ≡ table_of columns records)
    → IfOk result (λ t. All (λ tuple. map kind_of tuple ≡ map (λ c. c.kind) columns) t.tuples)
table_kinds columns records (Err fault) is = tt
table_kinds columns records (Ok t) (inl memory) = cc
table_kinds columns records (Ok t) (inr is) = table_of_kinds columns records t (sym is)
