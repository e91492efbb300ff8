-- What an `orders` statement adds to the relations declared so far, from its table.
use Rattle.std.specs.Prelude.{◌≡◌, ℕ, ◌+◌, not, List, [], ◌∷◌, map, codes, Option, Some, None, is_some, true, Result, Ok, Err, MatchOption, position, slice_get, slice_set}
use Rattle.std.specs.List.{enumerate_from}
use Rattle.currency_base.specs.declared.error_code.ErrorCode.{ErrorCode}
use Rattle.currency_base.specs.declared.error_code.ErrorCode.TheVariants.{UnknownName, UnknownRow, NotOneEntity}
use Rattle.currency_base.specs.declared.pair.Pair.{Pair}
use Rattle.currency_base.specs.declared.row.Row.{Row}
use Rattle.currency_base.specs.declared.value.Value.{Value}
use Rattle.currency_csv.specs.Capped.{capped}
use Rattle.currency_csv.specs.declared.table.Column.{Column}
use Rattle.text_grammar.specs.declared.named.Named.{Named}
use Rattle.table_bind.specs.Columns.{text_column}
use Rattle.table_bind.specs.Tuples.{AreTuples}
use Rattle.table_rows.specs.Rows.{text_at}
use Rattle.spec_model.specs.declared.relation.Relation.{Relation}
use Rattle.spec_names.specs.Names.{place_of}
use Rattle.order_bind.specs.Orders.{giving_pairs, is_of_one_entity, pair_of, with_all_given}
use Rattle.order_bind.specs.declared.tables.records.PairRecord.{PairRecord}
use Rattle.bind_faults.specs.Faults.{all_of, and_then, found_or, refused_at, refused_in}
use Rattle.bind_faults.specs.declared.fault.BindFault.{BindFault}

-- the columns of a table of given pairs
unfoldable pub order_columns : List Column
order_columns = text_column (codes "attribute") ∷ text_column (codes "earlier") ∷ text_column (codes "later") ∷ []

-- the line of the record of the tuple at a place: its number, the header being 1
abbrev pub line_at : ℕ → ℕ
line_at place = capped (place + 2)

-- the place of a name, or the refusal of the record in which it stands
abbrev pub place_in : List ℕ → ErrorCode → ℕ → List (List ℕ) → List ℕ → Result ℕ BindFault
place_in table code line names name = found_or (place_of names name) (refused_in table code line) Ok

-- what the tuple at a place says: an attribute, and the names of two rows; or the refusal of an unknown attribute
abbrev pub record_in : List ℕ → List (List ℕ) → ℕ × List Value → Result PairRecord BindFault
record_in table attrs (place, tuple) =
    and_then (place_in table UnknownName (line_at place) attrs (text_at tuple 0))
    (λ attr. Ok record { line = line_at place; attr = record { 0 = attr }; earlier = text_at tuple 1; later = text_at tuple 2 })

-- the pair that a record says, or the refusal of an unknown row
abbrev pub pair_in : List ℕ → List (List ℕ) → PairRecord → Result Pair BindFault
pair_in table rows r =
    pair_of r.attr.0 (place_in table UnknownRow r.line rows r.earlier) (place_in table UnknownRow r.line rows r.later)

-- the pairs, where none of them is wrong
abbrev pub unless_wrong : List ℕ → List Pair → Option ℕ → Result (List Pair) BindFault
unless_wrong table pairs None = Ok pairs
unless_wrong table pairs (Some wrong) = Err (refused_in table NotOneEntity (line_at wrong))

-- the pairs, where each is of two different rows of one entity; otherwise the first that is not is refused
abbrev pub checked : List ℕ → List Row → List Pair → Result (List Pair) BindFault
checked table rows pairs = unless_wrong table pairs (position (λ p. not (is_of_one_entity rows p)) pairs)

-- the pairs that tuples say of a relation: the first unknown attribute is refused, then the first unknown row, and then
-- the first pair that is not of one entity
unfoldable pub pairs_of_tuples : Relation → List ℕ → List (List Value) → Result (List Pair) BindFault
pairs_of_tuples r table tuples =
    and_then (all_of (record_in table (map (λ a. a.name) r.attrs)) (enumerate_from 0 tuples)) (λ records.
    and_then (all_of (pair_in table (map (λ row. row.name) r.rows)) records) (checked table r.rows))

-- the relations with the pairs of a table at one of them, unless those are refused
abbrev pub giving_tuples : List Relation → ℕ → List ℕ → List (List Value) → Option Relation → Result (List Relation) BindFault
giving_tuples done rel table tuples None = Ok done
giving_tuples done rel table tuples (Some r) = giving_pairs done rel r (pairs_of_tuples r table tuples)

-- the relations after the tuples of a table of given pairs, at the relation of that place
abbrev pub orders_at : List Relation → ℕ → List ℕ → List (List Value) → Result (List Relation) BindFault
orders_at done rel table tuples = giving_tuples done rel table tuples (slice_get done rel)

-- the place of the relation of a name
abbrev pub relation_at : List Relation → Named → Option ℕ
relation_at done relation = place_of (map (λ r. r.name) done) relation.name

-- what the table of given pairs makes of the relations, at the relation of that place
abbrev pub IsTableGiven : List (List ℕ × List ℕ) → List Relation → Named → Result (List Relation) BindFault → ℕ → Type 0
IsTableGiven told done document made rel =
    (tuples : Result (List (List Value)) BindFault) × AreTuples told document.name order_columns tuples
    × (made ≡ and_then tuples (orders_at done rel document.name))

-- what the statement makes of the relations so far: an unknown relation is refused first, and then its table decides
unfoldable pub IsOrdersMade : List (List ℕ × List ℕ) → List Relation → Named → Named → Result (List Relation) BindFault → Type 0
IsOrdersMade told done relation document made = MatchOption (relation_at done relation)
    (made ≡ Err (refused_at UnknownName relation)) (IsTableGiven told done document made)

-- the relation is known, and the table is the document of this name
abbrev pub IsOrdersTable : List Relation → Named → Named → List ℕ → Type 0
IsOrdersTable done relation document table = (is_some (relation_at done relation) ≡ true) × (document.name ≡ table)

-- new is old with more given pairs at one of its relations
pub record IsGivenMore (old new : List Relation) : Type 0 where
  pub rel : ℕ
  pub r : Relation
  pub pairs : List Pair
  pub there : slice_get old rel ≡ Some r
  pub is : new ≡ slice_set old rel (with_all_given r pairs)
