-- What the numbers of a specification give for an attribute.
use Rattle.std.proofs.Common.{◌≡◌, ◌∙◌, ◌<◌, ℕ, List, [], Some, length, slice_get, slice_index_or, sym, ap, subst, arith}
use Rattle.std.proofs.lemmas.Option.{slice_get_within}
use Rattle.currency_base.specs.declared.ids.RowId.{RowId}
use Rattle.entity_lists.specs.Lists.{Grouping, entities_of, rows_of}
use Rattle.value_names.specs.Names.{name_of}
use Rattle.order_literals.specs.Numbers.{Numbers, Numbered, IsRowOf, numbered}
use Rattle.order_literals.proofs.Callers.{table_at, row_of, named, name_is}
use Rattle.order_clauses.specs.Listing.{members_of}
use Rattle.order_clauses.specs.Subject.{Attribute, IsAttribute, IsWantedRow}
use Rattle.order_clauses.proofs.Reading.{AreNumbersOf, table_within}

pub row_in : (p : Attribute) (n : Numbers) (row : RowId) → AreNumbersOf p.subject n → IsAttribute p
    → IsWantedRow p row → IsRowOf n p.rel.0 p.attr.0 row
row_in p n row are is here = subst (λ (m : Numbers). IsRowOf m p.rel.0 p.attr.0 row) (sym are)
    (row_of p.subject.spec.relations p.subject.wanted p.rel.0 p.attr.0 row p.relation is.is_relation is.attr_within
    here.within here.wanted)

pub rel_within : (p : Attribute) (n : Numbers) → AreNumbersOf p.subject n → IsAttribute p → p.rel.0 < length n.tables
rel_within p n are is = table_within p.subject n p.rel.0 are (slice_get_within p.subject.spec.relations p.rel.0
    p.relation is.is_relation)

pub lists_of : (p : Attribute) (n : Numbers) (g : Grouping) → AreNumbersOf p.subject n → IsAttribute p
    → ((table : Numbered) → slice_get n.tables p.rel.0 ≡ Some table → g ≡ table.rows)
    → g ≡ record { count = length p.relation.entities; entities = entities_of p.relation.rows }
lists_of p n g are is gives =
    let at = table_at p.subject.wanted.currents p.subject.spec.relations p.rel.0 p.relation is.is_relation in
    gives (numbered p.subject.wanted.currents p.rel.0 p.relation) (ap (λ (m : Numbers). slice_get m.tables p.rel.0) are ∙ at)

pub members_are : (p : Attribute) (n : Numbers) (g : Grouping) (ent : ℕ) (rows : List RowId) → AreNumbersOf p.subject
    n → IsAttribute p
    → ((table : Numbered) → slice_get n.tables p.rel.0 ≡ Some table → g ≡ table.rows) → rows ≡ rows_of g.entities ent
    → rows ≡ members_of p.relation ent
unfolding members_of
members_are p n g ent rows are is gives e = e ∙ ap (λ (h : Grouping). rows_of h.entities ent) (lists_of p n g are is gives)

pub ent_within : (p : Attribute) (n : Numbers) (g : Grouping) (ent : ℕ) → AreNumbersOf p.subject n → IsAttribute p
    → ((table : Numbered) → slice_get n.tables p.rel.0 ≡ Some table → g ≡ table.rows)
    → ent < length p.relation.entities → ent < g.count
ent_within p n g ent are is gives within = let e = ap (λ (h : Grouping). h.count) (lists_of p n g are is gives) in omega arith

pub name_is_of : (p : Attribute) (n : Numbers) (row name : RowId) → AreNumbersOf p.subject n → IsAttribute p → IsWantedRow p row
    → ((table : Numbered) (names : List (List RowId)) → slice_get n.tables p.rel.0 ≡ Some table → table.names ≡ Some names
    → slice_get (slice_index_or names p.attr.0 []) row.0 ≡ Some name) → name ≡ name_of p.relation.rows p.attr.0 row
name_is_of p n row name are is here gives =
    name_is p.subject.spec.relations p.subject.wanted p.rel.0 p.attr.0 row p.relation is.is_relation is.attr_within
    here.within here.wanted name
    (λ table names at some. gives table names (ap (λ (m : Numbers). slice_get m.tables p.rel.0) are ∙ at) some)

pub named_of : (p : Attribute) (n : Numbers) (row : RowId) → AreNumbersOf p.subject n → IsAttribute p
    → IsWantedRow p row → name_of p.relation.rows p.attr.0 row ≡ row
    → (table : Numbered) (names : List (List RowId)) → slice_get n.tables p.rel.0 ≡ Some table → table.names ≡ Some names
    → slice_get (slice_index_or names p.attr.0 []) row.0 ≡ Some row
named_of p n row are is here e table names at some =
    named p.subject.spec.relations p.subject.wanted p.rel.0 p.attr.0 row p.relation is.is_relation is.attr_within
    here.within here.wanted table names
    (sym (ap (λ (m : Numbers). slice_get m.tables p.rel.0) are) ∙ at) some
    ∙ ap Some e
