-- What statements with their signs say of pairs, of current values and of answers, and when it is noted.
use Rattle.std.specs.Prelude.{◌≡◌, ◌⊎◌, Bool, true, false, List, [], Contains, Option, Some, None, option_map, slice_get, unwrap_or}
use Rattle.std.specs.Map.{lookup}
use Rattle.std.specs.Ordering.{nat_cmp, on, then_cmp, is_eq}
use Rattle.std.specs.declared.cmp.Ordering.{Ordering}
use Rattle.currency_base.specs.declared.ids.AttrId.{AttrId}
use Rattle.currency_base.specs.declared.ids.RelId.{RelId}
use Rattle.currency_base.specs.declared.ids.RowId.{RowId}
use Rattle.currency_base.specs.declared.value.Value.{Value}
use Rattle.log_axioms.specs.Truth.{rows_in}
use Rattle.log_axioms.specs.declared.signed.Signed.{Signed}
use Rattle.partial_orders.specs.Pairs.{entity_of}
use Rattle.refutation_log.specs.declared.statement.Statement.{Statement}
use Rattle.refutation_log.specs.declared.statement.Statement.TheVariants as says
use Rattle.spec_model.specs.declared.relation.Relation.{Relation}
use Rattle.log_units.specs.declared.said.Place.{Place}
use Rattle.log_units.specs.declared.said.SaidPair.{SaidPair}
use Rattle.log_units.specs.declared.said.SaidRow.{SaidRow}

-- ---- what is said

-- the pair that is said, if one is: that a row does not stand before another says that it stands after it
abbrev pub pair_of : Signed → Option SaidPair
pair_of s = by s.statement s.negative
  where
    by : Statement → Bool → Option SaidPair
    by (says.Before rel attr a b) false = Some record { rel = rel; attr = attr; earlier = a; later = b }
    by (says.Before rel attr a b) true = Some record { rel = rel; attr = attr; earlier = b; later = a }
    by t n = None

-- a row, if it is there, at the place of its value
abbrev pub row_at : List Relation → RelId → AttrId → RowId → Option SaidRow
row_at relations rel attr row =
    option_map (λ ent. record { place = record { rel = rel; attr = attr; ent = record { 0 = ent } }; row = row })
    (entity_of (rows_in (slice_get relations rel.0)) row.0)

-- the row whose value is said to be the current one, if it is there
abbrev pub row_of : List Relation → Signed → Option SaidRow
row_of relations s = by s.statement s.negative
  where
    by : Statement → Bool → Option SaidRow
    by (says.Last rel attr row) false = row_at relations rel attr row
    by t n = None

-- a tuple is a list of values
abbrev pub TupleValues : Type 0
TupleValues = List Value

abbrev pub Tuples : Type 0
Tuples = List TupleValues

-- the tuple that is said to be an answer, if it is there
abbrev pub tuple_of : Tuples → Signed → Option TupleValues
tuple_of answers s = by s.statement s.negative
  where
    by : Statement → Bool → Option TupleValues
    by (says.Answer place) false = slice_get answers place
    by t n = None

-- ---- rows by their places

-- the order of places
abbrev pub place_cmp : Place → Place → Ordering
place_cmp = then_cmp (on (λ p. p.rel.0) nat_cmp) (then_cmp (on (λ p. p.attr.0) nat_cmp) (on (λ p. p.ent.0) nat_cmp))

-- the rows of a place
abbrev pub rows_at : List (Place × List RowId) → Place → List RowId
rows_at entries place = unwrap_or (lookup (λ p. is_eq (place_cmp place p)) entries) []

-- the row is among those of its place
abbrev pub has_row : List (Place × List RowId) → SaidRow → Type 0
has_row entries said = Contains (rows_at entries said.place) said.row

-- ---- one more

-- what is noted is what was, and this, if it is something
pub record Adds {K : Type 0} (old new : K → Type 0) (said : Option K) : Type 0 where
  pub kept : (k : K) → old k → new k
  pub there : (k : K) → said ≡ Some k → new k
  pub only : (k : K) → new k → old k ⊎ (said ≡ Some k)
