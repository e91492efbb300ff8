-- What crates above know of what is numbered of a specification.
use Rattle.std.proofs.Common.{◌≡◌, ◌<◌, ◌+◌, ℕ, zero, suc, true, List, [], ◌∷◌, Some, length, slice_get, slice_index_or, refl, subst, ap, arith}
use Rattle.std.proofs.lemmas.List.FromFn.{get_or-map-range_with_len}
use Rattle.std.proofs.lemmas.List.{length-map}
use Rattle.currency_base.specs.declared.ids.RelId.{RelId}
use Rattle.currency_base.specs.declared.ids.RowId.{RowId}
use Rattle.currency_base.specs.declared.row.Row.{Row}
use Rattle.entity_lists.specs.Lists.{entities_of}
use Rattle.partial_orders.specs.Pairs.{entity_of}
use Rattle.spec_model.specs.Facts.{IsRelation}
use Rattle.spec_model.specs.declared.relation.Relation.{Relation}
use Rattle.value_names.proofs.NameFacts
use Rattle.value_names.proofs.NameFacts.{name_at}
use Rattle.value_names.specs.Names.{name_of, names_of}
use Rattle.order_literals.specs.Axioms.{AreTwo}
use Rattle.order_literals.specs.Numbers.{Numbered, is_wanted, value_names_of, numbered, tables_from, numbers_of, IsPairOf, IsRowOf}
use Rattle.order_literals.specs.declared.wanted.Wanted.{Wanted}

table_from : (currents : List RelId) (first : ℕ) (relations : List Relation) (place : ℕ) (r : Relation)
    → slice_get relations place ≡ Some r
    → slice_get (tables_from currents first relations) place ≡ Some (numbered currents (first + place) r)
table_from currents first [] place r at = cc
table_from currents first (r' ∷ relations) zero r at =
    let same : first + 0 ≡ first = omega arith in
    let is : r' ≡ r = cc in
    rw (same, is) refl
table_from currents first (r' ∷ relations) (suc place) r at =
    let same : first + suc place ≡ first + 1 + place = omega arith in
    rw same (table_from currents (first + 1) relations place r at)

-- what is numbered of a relation of the specification
pub table_at : (currents : List RelId) (relations : List Relation) (rel : ℕ) (r : Relation) → slice_get relations rel ≡ Some r
    → slice_get (tables_from currents 0 relations) rel ≡ Some (numbered currents rel r)
table_at currents relations rel r at =
    let same : 0 + rel ≡ rel = omega arith in
    rw same at (table_from currents 0 relations rel r at)

-- the entity of a row is read in the list of the rows' entities
pub entity_read : (rows : List Row) (row ent : ℕ) → entity_of rows row ≡ Some ent → slice_get (entities_of rows) row ≡ Some ent
entity_read [] row ent e = cc
entity_read (r ∷ rows) zero ent e = e
entity_read (r ∷ rows) (suc row) ent e = entity_read rows row ent e

-- two different rows of one entity of a relation of the specification
pub pair_of : (relations : List Relation) (wanted : Wanted) (rel attr : ℕ) (first second : RowId) (r : Relation)
    → slice_get relations rel ≡ Some r
    → attr < length r.attrs → AreTwo r.rows first second → IsPairOf (numbers_of relations wanted) rel attr first second
pair_of relations wanted rel attr first second r at within two = record {
  table = numbered wanted.currents rel r;
  is_table = table_at wanted.currents relations rel r at;
  attr_within = within;
  ent = two.ent;
  first_of = entity_read r.rows first.0 two.ent two.a_of;
  second_of = entity_read r.rows second.0 two.ent two.b_of;
  differ = two.differ;
}

-- what is numbered of a wanted relation holds the names of its values
wanted_names : (currents : List RelId) (rel : ℕ) (r : Relation) → is_wanted currents rel ≡ true →
    (numbered currents rel r).names ≡ Some (value_names_of r)
wanted_names currents rel r wants = rw wants refl

-- a row of a wanted relation of the specification
pub row_of : (relations : List Relation) (wanted : Wanted) (rel attr : ℕ) (row : RowId) (r : Relation)
    → slice_get relations rel ≡ Some r
    → attr < length r.attrs → row.0 < length r.rows → is_wanted wanted.currents rel ≡ true
    → IsRowOf (numbers_of relations wanted) rel attr row
row_of relations wanted rel attr row r at within row_within wants =
    let many : length (entities_of r.rows) ≡ length r.rows = length-map r.rows (λ row. row.entity.0) in
    record {
      table = numbered wanted.currents rel r;
      is_table = table_at wanted.currents relations rel r at;
      attr_within = within;
      row_within = omega arith;
      names = value_names_of r;
      wanted = wanted_names wanted.currents rel r wants;
    }

-- the names of the rows' values in an attribute
names_at : (r : Relation) (attr : ℕ) → attr < length r.attrs → slice_index_or (value_names_of r) attr [] ≡ names_of r.rows attr
names_at r attr within = get_or-map-range_with_len (names_of r.rows) 0 (length r.attrs) attr attr [] within (omega arith)

-- what stands as the name of a row of a wanted relation of the specification is its name
pub named : (relations : List Relation) (wanted : Wanted) (rel attr : ℕ) (row : RowId) (r : Relation)
    → slice_get relations rel ≡ Some r
    → attr < length r.attrs → row.0 < length r.rows → is_wanted wanted.currents rel ≡ true → (table : Numbered)
    (names : List (List RowId))
    → slice_get (numbers_of relations wanted).tables rel ≡ Some table → table.names ≡ Some names
    → slice_get (slice_index_or names attr []) row.0 ≡ Some (name_of r.rows attr row)
named relations wanted rel attr row r at within row_within wants table names is_table is_wanted =
    let here = table_at wanted.currents relations rel r at in
    let same : table ≡ numbered wanted.currents rel r = cc in
    let these : names ≡ value_names_of r = cc (ap (λ (t : Numbered). t.names) same, wanted_names wanted.currents rel r wants) in
    rw (these, names_at r attr within) (name_at r.rows attr row row_within)

-- a row that stands as the name of a row of a wanted relation of the specification is its name
pub name_is : (relations : List Relation) (wanted : Wanted) (rel attr : ℕ) (row : RowId) (r : Relation)
    → slice_get relations rel ≡ Some r
    → attr < length r.attrs → row.0 < length r.rows → is_wanted wanted.currents rel ≡ true → (name : RowId)
    → ((table : Numbered) (names : List (List RowId)) → slice_get (numbers_of relations wanted).tables rel ≡ Some
    table → table.names ≡ Some names
    → slice_get (slice_index_or names attr []) row.0 ≡ Some name) → name ≡ name_of r.rows attr row
name_is relations wanted rel attr row r at within row_within wants name gives =
    let here = table_at wanted.currents relations rel r at in
    let these = wanted_names wanted.currents rel r wants in
    let given = gives (numbered wanted.currents rel r) (value_names_of r) here these in
    let stands = named relations wanted rel attr row r at within row_within wants (numbered wanted.currents rel r)
    (value_names_of r) here these in
    cc

-- the row that names a row's value is its own name
pub own_name : (relations : List Relation) (wanted : Wanted) (rel attr : ℕ) (row : RowId) (r : Relation)
    → IsRelation r → slice_get relations rel ≡ Some r
    → attr < length r.attrs → row.0 < length r.rows → is_wanted wanted.currents rel ≡ true → (table : Numbered)
    (names : List (List RowId))
    → slice_get (numbers_of relations wanted).tables rel ≡ Some table → table.names ≡ Some names
    → slice_get (slice_index_or names attr []) (name_of r.rows attr row).0 ≡ Some (name_of r.rows attr row)
own_name relations wanted rel attr row r facts at within row_within wants table names is_table is_wanted =
    let name = name_of r.rows attr row in
    let is = NameFacts.named r attr facts within row row_within in
    let inside : name.0 < length r.rows = omega (arith, is.least) in
    subst (λ (other : RowId). slice_get (slice_index_or names attr []) name.0 ≡ Some other) is.itself
    (named relations wanted rel attr name r at within inside wants table names is_table is_wanted)
