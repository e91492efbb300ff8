-- What is numbered of the relations that a guess is made from.
use Rattle.std.proofs.Common.{◌≡◌, ◌∙◌, ◌<◌, ℕ, zero, suc, Bool, true, false, List, [], ◌∷◌, Some, None, is_some, if◌then◌else◌, length, slice_get, slice_index_or, refl, sym, ap, subst, arith}
use Rattle.std.proofs.lemmas.Option.{slice_get_within}
use Rattle.currency_base.specs.declared.ids.AttrId.{AttrId}
use Rattle.currency_base.specs.declared.ids.RelId.{RelId}
use Rattle.currency_base.specs.declared.ids.RowId.{RowId}
use Rattle.entity_lists.specs.Lists.{Grouping, entities_of, rows_of}
use Rattle.spec_model.specs.Facts.{IsRelation}
use Rattle.spec_model.specs.declared.relation.Relation.{Relation}
use Rattle.value_names.proofs.NameFacts
use Rattle.value_names.specs.Names.{name_of}
use Rattle.order_literals.specs.Numbers.{Numbers, Numbered, IsRowOf, is_wanted, numbered, value_names_of}
use Rattle.order_literals.proofs.Callers.{table_at, row_of, name_is, own_name}
use Rattle.order_literals.specs.Statements.{statements_of}
use Rattle.order_start.specs.Lists.{Subject, IsSubject, IsListed}

-- some item stands at a place within a list
pub item_at : {A : Type 0} (xs : List A) (i : ℕ) → i < length xs → (x : A) × (slice_get xs i ≡ Some x)
item_at [] i within = absurd (omega arith)
item_at (x ∷ xs) zero within = (x, refl)
item_at (x ∷ xs) (suc i) within = item_at xs i (omega arith)

table_of : (s : Subject) (rel : ℕ) (r : Relation) → IsSubject s → slice_get s.relations rel ≡ Some r
    → slice_get s.numbers.tables rel ≡ Some (numbered s.wanted.currents rel r)
table_of s rel r is at = ap (λ (n : Numbers). slice_get n.tables rel) is.numbers_are ∙ table_at s.wanted.currents
    s.relations rel r at

pub rel_within : (s : Subject) (rel : ℕ) → IsSubject s → rel < length s.relations → rel < length s.numbers.tables
rel_within s rel is within =
    let here = item_at s.relations rel within in
    slice_get_within s.numbers.tables rel (numbered s.wanted.currents rel here.0) (table_of s rel here.0 is here.1)

is_some_cond : (b : Bool) (names : List (List RowId)) → is_some (if b then Some names else None) ≡ b
is_some_cond true names = refl
is_some_cond false names = refl

pub wanted_is : (s : Subject) (rel : ℕ) (b : Bool) → IsSubject s → rel < length s.relations
    → ((table : Numbered) → slice_get s.numbers.tables rel ≡ Some table → b ≡ is_some table.names)
    → b ≡ is_wanted s.wanted.currents rel
wanted_is s rel b is within gives =
    let here = item_at s.relations rel within in
    gives (numbered s.wanted.currents rel here.0) (table_of s rel here.0 is here.1) ∙ is_some_cond
    (is_wanted s.wanted.currents rel) (value_names_of here.0)

-- the rows of the entities of a relation
pub lists_of : (s : Subject) (rel : ℕ) (r : Relation) (g : Grouping) → IsSubject s → slice_get s.relations rel ≡ Some r
    → ((table : Numbered) → slice_get s.numbers.tables rel ≡ Some table → g ≡ table.rows)
    → g ≡ record { count = length r.entities; entities = entities_of r.rows }
lists_of s rel r g is at gives = gives (numbered s.wanted.currents rel r) (table_of s rel r is at)

pub ent_within : (s : Subject) (rel ent : ℕ) (g : Grouping) → IsSubject s → rel < length s.relations
    → ((table : Numbered) → slice_get s.numbers.tables rel ≡ Some table → g ≡ table.rows)
    → ((r : Relation) → slice_get s.relations rel ≡ Some r → ent < length r.entities) → ent < g.count
ent_within s rel ent g is within gives below =
    let here = item_at s.relations rel within in
    let e = ap (λ (h : Grouping). h.count) (lists_of s rel here.0 g is here.1 gives) in
    let b = below here.0 here.1 in
    omega arith

pub rows_are : (s : Subject) (rel ent : ℕ) (r : Relation) (g : Grouping) (rows : List RowId) → IsSubject s
    → slice_get s.relations rel ≡ Some r
    → ((table : Numbered) → slice_get s.numbers.tables rel ≡ Some table → g ≡ table.rows) → rows ≡ rows_of g.entities ent
    → rows ≡ rows_of (entities_of r.rows) ent
rows_are s rel ent r g rows is at gives e = e ∙ ap (λ (h : Grouping). rows_of h.entities ent) (lists_of s rel r g is at gives)

pub is_listed : (s : Subject) (rel : RelId) (attr : AttrId) (ent : ℕ) (g : Grouping) (rows : List RowId)
    (turned : Bool) → IsSubject s → rel.0 < length s.relations
    → ((r : Relation) → slice_get s.relations rel.0 ≡ Some r → attr.0 < length r.attrs)
    → ((table : Numbered) → slice_get s.numbers.tables rel.0 ≡ Some table → g ≡ table.rows) → rows ≡ rows_of g.entities ent
    → IsListed (record { numbers = s.numbers; known = s.known; rel = rel; attr = attr; rows = rows; turned = turned })
is_listed s rel attr ent g rows turned is within attr_within gives e =
    let here = item_at s.relations rel.0 within in
    record {
      per_statement = is.per_statement;
      table = numbered s.wanted.currents rel.0 here.0;
      is_table = table_of s rel.0 here.0 is here.1;
      attr_within = attr_within here.0 here.1;
      ent = ent;
      rows_are = rows_are s rel.0 ent here.0 g rows is here.1 gives e;
    }

-- ---- a row of a wanted relation

-- an attribute of a wanted relation, and one of its rows
pub record IsWantedRow (s : Subject) (rel attr : ℕ) (row : RowId) (r : Relation) : Type 0 where
  pub subject : IsSubject s
  pub facts : IsRelation r
  pub is_relation : slice_get s.relations rel ≡ Some r
  pub attr_within : attr < length r.attrs
  pub row_within : row.0 < length r.rows
  pub wanted : is_wanted s.wanted.currents rel ≡ true

pub row_in : (s : Subject) (rel attr : ℕ) (row : RowId) (r : Relation) → IsWantedRow s rel attr row r
    → IsRowOf s.numbers rel attr row
row_in s rel attr row r is = subst (λ (n : Numbers). IsRowOf n rel attr row) (sym is.subject.numbers_are)
    (row_of s.relations s.wanted rel attr row r is.is_relation is.attr_within is.row_within is.wanted)

-- the row that names its value
pub name_in : (s : Subject) (rel attr : ℕ) (row name : RowId) (r : Relation) → IsWantedRow s rel attr row r
    → ((table : Numbered) (names : List (List RowId)) → slice_get s.numbers.tables rel ≡ Some table → table.names ≡ Some names
    → slice_get (slice_index_or names attr []) row.0 ≡ Some name) → name ≡ name_of r.rows attr row
name_in s rel attr row name r is gives =
    name_is s.relations s.wanted rel attr row r is.is_relation is.attr_within is.row_within is.wanted name
    (λ table names at some. gives table names (ap (λ (n : Numbers). slice_get n.tables rel) is.subject.numbers_are ∙ at) some)

name_row : (s : Subject) (rel attr : ℕ) (row : RowId) (r : Relation) → IsWantedRow s rel attr row r
    → IsWantedRow s rel attr (name_of r.rows attr row) r
name_row s rel attr row r is =
    let least = (NameFacts.named r attr is.facts is.attr_within row is.row_within).least in
    let row_within = is.row_within in
    record {
      subject = is.subject;
      facts = is.facts;
      is_relation = is.is_relation;
      attr_within = is.attr_within;
      row_within = omega arith;
      wanted = is.wanted;
    }

-- it is a row of the wanted relation too
pub name_row_in : (s : Subject) (rel attr : ℕ) (row name : RowId) (r : Relation) → IsWantedRow s rel attr row r
    → name ≡ name_of r.rows attr row
    → IsRowOf s.numbers rel attr name
name_row_in s rel attr row name r is e =
    subst (λ (n : RowId). IsRowOf s.numbers rel attr n) (sym e) (row_in s rel attr (name_of r.rows attr row) r
    (name_row s rel attr row r is))

-- and its own name
pub name_named : (s : Subject) (rel attr : ℕ) (row name : RowId) (r : Relation) → IsWantedRow s rel attr row r
    → name ≡ name_of r.rows attr row
    → (table : Numbered) (names : List (List RowId)) → slice_get s.numbers.tables rel ≡ Some table → table.names ≡ Some names
    → slice_get (slice_index_or names attr []) name.0 ≡ Some name
name_named s rel attr row name r is e table names at some =
    subst (λ (n : RowId). slice_get (slice_index_or names attr []) n.0 ≡ Some n) (sym e)
    (own_name s.relations s.wanted rel attr row r is.facts is.is_relation is.attr_within is.row_within is.wanted table names
    (sym (ap (λ (n : Numbers). slice_get n.tables rel) is.subject.numbers_are) ∙ at) some)

-- the same, told of a subject that is seen as another
pub wanted_row : (s t : Subject) (rel attr : ℕ) (row : RowId) (r : Relation) → s ≡ t → IsSubject s → IsRelation r
    → slice_get t.relations rel ≡ Some r
    → ((r : Relation) → slice_get t.relations rel ≡ Some r → attr < length r.attrs)
    → ((r : Relation) → slice_get t.relations rel ≡ Some r → row.0 < length r.rows) → is_wanted t.wanted.currents rel ≡ true
    → IsWantedRow s rel attr row r
wanted_row s t rel attr row r same is facts at attr_within row_within wanted = record {
  subject = is;
  facts = facts;
  is_relation = ap (λ (u : Subject). slice_get u.relations rel) same ∙ at;
  attr_within = attr_within r at;
  row_within = row_within r at;
  wanted = ap (λ (u : Subject). is_wanted u.wanted.currents rel) same ∙ wanted;
}

-- a literal of a statement has a place among as many truths
pub truth_within : (s t : Subject) (var count : ℕ) → s ≡ t → var < length (statements_of s.numbers) → count ≡ length
    (statements_of t.numbers) → var < count
truth_within s t var count same within e =
    let f = ap (λ (u : Subject). length (statements_of u.numbers)) same in
    omega (arith, within, e, f)
