-- The pairs that a table says of a relation may be given to it.
use Rattle.std.proofs.Common.{◌≡◌, ◌∙◌, ◌<◌, ℕ, List, length, map, not, Option, Some, None, Result, Ok, Err, All, IfOk, refl, sym, ap, subst, arith, get_or}
use Rattle.std.specs.List.{enumerate_from, position}
use Rattle.std.proofs.lemmas.Bool.{not-false}
use Rattle.std.proofs.lemmas.List.{length-map}
use Rattle.currency_base.specs.declared.error_code.ErrorCode.{ErrorCode}
use Rattle.currency_base.specs.declared.error_code.ErrorCode.TheVariants.{UnknownName, UnknownRow}
use Rattle.currency_base.specs.declared.pair.Pair.{Pair}
use Rattle.currency_base.specs.declared.row.Row.{Row}
use Rattle.currency_base.specs.declared.value.Value.{Value}
use Rattle.spec_model.specs.Facts.{IsGivenPair}
use Rattle.spec_model.specs.declared.relation.Attr.{Attr}
use Rattle.spec_model.specs.declared.relation.Relation.{Relation}
use Rattle.spec_names.specs.Names.{names_of, place_of}
use Rattle.spec_names.specs.declared.names.RelationNames.{RelationNames}
use Rattle.table_rows.specs.Rows.{text_at}
use Rattle.bind_faults.specs.Faults.{all_of, and_then, refused_in, IsDue}
use Rattle.bind_faults.specs.declared.fault.BindFault.{BindFault}
use Rattle.bind_faults.proofs.Outcomes.{due_through}
use Rattle.order_bind.specs.Orders.{is_of_one_entity, pair_of}
use Rattle.order_bind.proofs.OrderPairs.{found_place, one_entity, place_within, position_none}
use Rattle.order_bind.specs.TableOrders.{checked, line_at, pair_in, pairs_of_tuples, place_in, record_in, unless_wrong}
use Rattle.order_bind.specs.declared.tables.records.PairRecord.{PairRecord}
use Rattle.order_bind.proofs.Answered.{each_answer}

-- ---- what stands within the relation

-- a name that is found stands at a place of the names
found_within : (table : List ℕ) (code : ErrorCode) (line : ℕ) (names : List (List ℕ)) (name : List ℕ) (place : ℕ)
    → place_in table code line names name ≡ Ok place → place < length names
found_within table code line names name place is =
    place_within names name place (found_place (place_of names name) (refused_in table code line) place is)

pub record_within : (table : List ℕ) (attrs : List (List ℕ)) (n : ℕ × List Value) (r : PairRecord)
    → record_in table attrs n ≡ Ok r
    → r.attr.0 < length attrs
record_within table attrs (place, tuple) r is = by (place_in table UnknownName (line_at place) attrs (text_at tuple 0)) refl is
  where
    by : (found : Result ℕ BindFault) → place_in table UnknownName (line_at place) attrs (text_at tuple 0) ≡ found
        → and_then found (λ attr. Ok record {
          line = line_at place;
          attr = record { 0 = attr };
          earlier =
              text_at tuple 1;
          later = text_at tuple 2;
        }) ≡ Ok r
        → r.attr.0 < length attrs
    by (Err e) at now = absurd (cc)
    by (Ok attr) at now =
        let within : attr < length attrs = found_within table UnknownName (line_at place) attrs (text_at tuple 0) attr at in
        let same : ◌≡◌ {A = PairRecord}
        (record {
          line = line_at place;
          attr = record { 0 = attr };
          earlier = text_at tuple 1;
          later =
              text_at tuple 2;
        }) r = cc in
        let is_attr : attr ≡ r.attr.0 = ap (λ (s : PairRecord). s.attr.0) same in
        omega (arith, within, is_attr)

-- a pair of one of so many attributes, and of two of so many rows
pub record IsWithin (attrs rows : ℕ) (p : Pair) : Type 0 where
  pub attr : p.attr.0 < attrs
  pub earlier : p.earlier.0 < rows
  pub later : p.later.0 < rows

pub pair_within : (table : List ℕ) (rows : List (List ℕ)) (attrs : ℕ) (r : PairRecord) (p : Pair) → r.attr.0 < attrs
    → pair_in table rows r ≡ Ok p
    → IsWithin attrs (length rows) p
pair_within table rows attrs r p attr is =
    by (place_in table UnknownRow r.line rows r.earlier) (place_in table UnknownRow r.line rows r.later) refl refl is
  where
    by : (a b : Result ℕ BindFault) → place_in table UnknownRow r.line rows r.earlier ≡ a → place_in table UnknownRow
        r.line rows r.later ≡ b
        → pair_of r.attr.0 a b ≡ Ok p → IsWithin attrs (length rows) p
    by (Err e) b at_a at_b now = absurd (cc)
    by (Ok a) (Err e) at_a at_b now = absurd (cc)
    by (Ok a) (Ok b) at_a at_b now =
        let made : Pair = record { attr = record { 0 = r.attr.0 }; earlier = record { 0 = a }; later = record { 0 = b } } in
        let same : made ≡ p = cc in
        let low : a < length rows = found_within table UnknownRow r.line rows r.earlier a at_a in
        let high : b < length rows = found_within table UnknownRow r.line rows r.later b at_b in
        subst (IsWithin attrs (length rows)) same (record { attr = attr; earlier = low; later = high })

-- the pairs of a table stand within the relation of these names
pub pairs_within : (names : RelationNames) (r : Relation) (table : List ℕ) (tuples : List (List Value))
    (records : List PairRecord) (pairs : List Pair)
    → names ≡ names_of r → all_of (record_in table names.attrs) (enumerate_from 0 tuples) ≡ Ok records
    → all_of (pair_in table names.rows) records ≡ Ok pairs
    → All (IsWithin (length names.attrs) (length names.rows)) pairs
pairs_within names r table tuples records pairs same read paired =
    each_answer (λ n. n.attr.0 < length names.attrs) (IsWithin (length names.attrs) (length names.rows))
    (pair_in table names.rows)
    (λ n p. pair_within table names.rows (length names.attrs) n p) records pairs
    (each_answer (λ (n : ℕ × List Value). Unit {0}) (λ (n : PairRecord). n.attr.0 < length names.attrs)
    (record_in table names.attrs)
    (λ n s any. record_within table names.attrs n s) (enumerate_from 0 tuples) records (λ k d below. tt) read)
    paired

-- ---- the check

given_unless : (names : RelationNames) (r : Relation) (table : List ℕ) (pairs given : List Pair) (wrong : Option ℕ)
    → names ≡ names_of r
    → All (IsWithin (length names.attrs) (length names.rows)) pairs → position (λ p. not (is_of_one_entity r.rows p))
    pairs ≡ wrong
    → unless_wrong table pairs wrong ≡ Ok given → All (IsGivenPair r) given
given_unless names r table pairs given (Some wrong) same within at is = absurd (cc)
given_unless names r table pairs given None same within at is =
    let all : pairs ≡ given = cc in
    subst (All (IsGivenPair r)) all (each names r pairs same within at)
  where
    each : (names : RelationNames) (r : Relation) (pairs : List Pair) → names ≡ names_of r
        → All (IsWithin (length names.attrs) (length names.rows)) pairs
        → position (λ p. not (is_of_one_entity r.rows p)) pairs ≡ None → All (IsGivenPair r) pairs
    each names r pairs same within none k d below =
        let it : IsWithin (length names.attrs) (length names.rows) (get_or pairs k d) = within k d below in
        let attrs : length names.attrs ≡ length r.attrs = ap (λ (n : RelationNames). length n.attrs) same
        ∙ length-map r.attrs (λ (a : Attr). a.name) in
        let rows : length names.rows ≡ length r.rows = ap (λ (n : RelationNames). length n.rows) same
        ∙ length-map r.rows (λ (row : Row). row.name) in
        let right = one_entity r.rows (get_or pairs k d) (not-false _ (position_none _ pairs none k d below)) in
        record {
          attr = omega (arith, attrs, it.attr);
          earlier = omega (arith, rows, it.earlier);
          later =
              omega (arith, rows, it.later);
          one_entity = right;
        }

-- the pairs that pass the check may be given
pub checked_given : (names : RelationNames) (r : Relation) (table : List ℕ) (pairs : List Pair)
    (result : Result (List Pair) BindFault) → names ≡ names_of r
    → All (IsWithin (length names.attrs) (length names.rows)) pairs → IsDue (checked table r.rows pairs) result
    → IfOk result (All (IsGivenPair r))
checked_given names r table pairs (Err fault) same within due = tt
checked_given names r table pairs (Ok given) same within due =
    given_unless names r table pairs given (position (λ p. not (is_of_one_entity r.rows p)) pairs) same within refl due

-- ---- what is due

-- what comes once the records are read
then_pairs : Relation → List ℕ → List PairRecord → Result (List Pair) BindFault
then_pairs r table records = and_then (all_of (pair_in table (map (λ row. row.name) r.rows)) records) (checked table r.rows)

told_as : (names : RelationNames) (r : Relation) (table : List ℕ) (tuples : List (List Value)) → names ≡ names_of r
    → pairs_of_tuples r table tuples ≡ and_then (all_of (record_in table names.attrs) (enumerate_from 0 tuples)) (then_pairs r table)
unfolding pairs_of_tuples then_pairs
told_as names r table tuples same =
    ap (λ (n : RelationNames). and_then (all_of (record_in table n.attrs) (enumerate_from 0 tuples))
    (then_pairs r table)) (sym same)

pairs_as : (names : RelationNames) (r : Relation) (table : List ℕ) (records : List PairRecord) → names ≡ names_of r
    → then_pairs r table records ≡ and_then (all_of (pair_in table names.rows) records) (checked table r.rows)
unfolding then_pairs
pairs_as names r table records same =
    ap (λ (n : RelationNames). and_then (all_of (pair_in table n.rows) records) (checked table r.rows)) (sym same)

-- once the records are read
told_read : (names : RelationNames) (r : Relation) (table : List ℕ) (tuples : List (List Value))
    (records : List PairRecord) → names ≡ names_of r
    → all_of (record_in table names.attrs) (enumerate_from 0 tuples) ≡ Ok records
    → pairs_of_tuples r table tuples ≡ and_then (all_of (pair_in table names.rows) records) (checked table r.rows)
told_read names r table tuples records same read =
    told_as names r table tuples same ∙ ap (λ a. and_then a (then_pairs r table)) read ∙ pairs_as names r table records same

-- an unknown attribute, or want of memory
pub record_fault : (names : RelationNames) (r : Relation) (table : List ℕ) (tuples : List (List Value))
    (e : BindFault) → names ≡ names_of r
    → IsDue (all_of (record_in table names.attrs) (enumerate_from 0 tuples)) (Err e)
    → IsDue (pairs_of_tuples r table tuples) (Err e)
record_fault names r table tuples e same due =
    due_through (all_of (record_in table names.attrs) (enumerate_from 0 tuples)) (pairs_of_tuples r table tuples) e due
    (λ is. told_as names r table tuples same ∙ ap (λ a. and_then a (then_pairs r table)) is)

-- an unknown row, or want of memory
pub row_fault : (names : RelationNames) (r : Relation) (table : List ℕ) (tuples : List (List Value))
    (records given : List PairRecord) (e : BindFault) → names ≡ names_of r
    → all_of (record_in table names.attrs) (enumerate_from 0 tuples) ≡ Ok records → given ≡ records
    → IsDue (all_of (pair_in table names.rows) given) (Err e) → IsDue (pairs_of_tuples r table tuples) (Err e)
row_fault names r table tuples records given e same read are due =
    due_through (all_of (pair_in table names.rows) given) (pairs_of_tuples r table tuples) e due
    (λ is. told_read names r table tuples records same read
    ∙ ap (λ rs. and_then (all_of (pair_in table names.rows) rs) (checked table r.rows)) (sym are)
    ∙ ap (λ a. and_then a (checked table r.rows)) is)

-- the pairs that are read of a table are those that are due, and may be given
pub record IsRead (r : Relation) (table : List ℕ) (tuples : List (List Value))
    (result : Result (List Pair) BindFault) : Type 0 where
  pub due : IsDue (pairs_of_tuples r table tuples) result
  pub given : IfOk result (All (IsGivenPair r))

pub pairs_read : (names : RelationNames) (r : Relation) (table : List ℕ) (tuples : List (List Value))
    (records given : List PairRecord) (pairs : List Pair) (rows : List Row)
    (result : Result (List Pair) BindFault) → names ≡ names_of r → all_of (record_in table names.attrs)
    (enumerate_from 0 tuples) ≡ Ok records → given ≡ records
    → all_of (pair_in table names.rows) given ≡ Ok pairs → rows ≡ r.rows → IsDue (checked table rows pairs) result
    → IsRead r table tuples result
pairs_read names r table tuples records given pairs rows result same read are paired is_rows due =
    let paired' : all_of (pair_in table names.rows) records ≡ Ok pairs = ap (all_of (pair_in table names.rows))
    (sym are) ∙ paired in
    let due' : IsDue (checked table r.rows pairs) result = subst (λ (rs : List Row). IsDue (checked table rs pairs)
    result) is_rows due in
    let told : pairs_of_tuples r table tuples ≡ checked table r.rows pairs =
    told_read names r table tuples records same read ∙ ap (λ a. and_then a (checked table r.rows)) paired' in
    record {
      due = subst (λ (d : Result (List Pair) BindFault). IsDue d result) (sym told) due';
      given = checked_given names r table pairs result same (pairs_within names r table tuples records pairs same
          read paired') due';
    }
