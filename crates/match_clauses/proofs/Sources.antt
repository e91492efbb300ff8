-- The literal that says that the current value of an entity's attribute is not.
use Rattle.std.proofs.Common.{◌≡◌, ◌∙◌, ◌<◌, true, List, [], Option, Some, length, slice_get, slice_index_or, sym, ap, subst, arith}
use Rattle.currency_base.specs.Literals.{negation}
use Rattle.currency_base.specs.declared.ids.AttrId.{AttrId}
use Rattle.currency_base.specs.declared.ids.EntId.{EntId}
use Rattle.currency_base.specs.declared.ids.RelId.{RelId}
use Rattle.currency_base.specs.declared.ids.RowId.{RowId}
use Rattle.currency_base.specs.declared.lit.Lit.{Lit}
use Rattle.current_tuples.specs.Places.{IsPlaceOf}
use Rattle.spec_model.specs.Completion.{Rankings, ranking_of}
use Rattle.spec_model.specs.Current.{last_row}
use Rattle.spec_model.specs.Facts.{AreRelations, IsRelation}
use Rattle.spec_model.specs.Spec.{Spec}
use Rattle.spec_model.specs.declared.relation.Relation.{Relation}
use Rattle.log_axioms.specs.Truth.{rows_in}
use Rattle.order_clauses.proofs.Reading.{all_at}
use Rattle.order_literals.proofs.Sayings.{negation_says}
use Rattle.order_literals.proofs.Callers.{row_of, name_is, own_name}
use Rattle.order_literals.specs.Numbers.{IsRowOf, Numbered, Numbers, is_wanted, numbers_of}
use Rattle.order_literals.specs.Said.{Says, last, not_last}
use Rattle.order_literals.specs.Statements.{statements_of}
use Rattle.order_literals.specs.declared.wanted.Wanted.{Wanted}
use Rattle.value_names.proofs.NameFacts
use Rattle.value_names.specs.Names.{name_of}
use Rattle.match_clauses.specs.Claimed.{not_current, row_or_any}
use Rattle.match_clauses.specs.Clauses.{IsSource}

-- what is said of the row that stands last, by the row that names its value
pub said_of_row : (relations : List Relation) (c : Rankings) (rel : RelId) (attr : AttrId) (ent : EntId)
    (r : Relation) (row : RowId)
    → slice_get relations rel.0 ≡ Some r → last_row (ranking_of c rel.0 attr.0 ent.0) ≡ Some row
    → not_last rel attr (name_of r.rows attr.0 row) ≡ not_current relations c rel attr ent
said_of_row relations c rel attr ent r row at is_last =
    ap (not_last rel attr)
    (ap (λ (o : Option Relation). name_of (rows_in o) attr.0 row) (sym at)
    ∙ ap (λ (o : Option RowId). name_of (rows_in (slice_get relations rel.0)) attr.0 (row_or_any o)) (sym is_last))

-- the numbering has this as the name of a row
abbrev pub IsNamed : Numbers → RelId → AttrId → RowId → RowId → Type 0
IsNamed n rel attr row name =
    (table : Numbered) (names : List (List RowId)) → slice_get n.tables rel.0 ≡ Some table → table.names ≡ Some names
    → slice_get (slice_index_or names attr.0 []) row.0 ≡ Some name

module _ (s : Spec) (wanted : Wanted) (n : Numbers) (c : Rankings) (source : IsSource s n wanted c)
    (are : AreRelations s.relations) (rel : RelId)
    (attr : AttrId) (ent : EntId) (place : IsPlaceOf s.relations rel.0 attr.0 ent.0)
    (wants : is_wanted wanted.currents rel.0 ≡ true) (row : RowId)
    (within : (r : Relation) → slice_get s.relations rel.0 ≡ Some r → row.0 < length r.rows) where
  row_in : row.0 < length place.relation.rows
  row_in = within place.relation place.is_relation

  facts : IsRelation place.relation
  facts = all_at IsRelation s.relations rel.0 place.relation are.each place.is_relation

  at_numbers : (P : Numbers → Type 0) → P (numbers_of s.relations wanted) → P n
  at_numbers P p = subst P (sym source.numbers) p

  pub row_numbered : IsRowOf n rel.0 attr.0 row
  row_numbered =
      at_numbers (λ m. IsRowOf m rel.0 attr.0 row)
      (row_of s.relations wanted rel.0 attr.0 row place.relation place.is_relation place.attr_within row_in wants)

  reads : (name : RowId) → IsNamed n rel attr row name → name ≡ name_of place.relation.rows attr.0 row
  reads name gives =
      name_is s.relations wanted rel.0 attr.0 row place.relation place.is_relation place.attr_within row_in wants name
      (λ table names in_table some. gives table names (ap (λ (m : Numbers). slice_get m.tables rel.0) source.numbers
      ∙ in_table) some)

  pub name_numbered : (name : RowId) → IsNamed n rel attr row name → IsRowOf n rel.0 attr.0 name
  name_numbered name gives =
      let least = (NameFacts.named place.relation attr.0 facts place.attr_within row row_in).least in
      subst (λ (x : RowId). IsRowOf n rel.0 attr.0 x) (sym (reads name gives))
      (at_numbers (λ m. IsRowOf m rel.0 attr.0 (name_of place.relation.rows attr.0 row))
      (row_of s.relations wanted rel.0 attr.0 (name_of place.relation.rows attr.0 row) place.relation
      place.is_relation place.attr_within
      (let inside = row_in in omega (arith, least, inside)) wants))

  pub name_own : (name : RowId) → IsNamed n rel attr row name → IsNamed n rel attr name name
  name_own name gives table names in_table some =
      subst (λ (x : RowId). slice_get (slice_index_or names attr.0 []) x.0 ≡ Some x) (sym (reads name gives))
      (own_name s.relations wanted rel.0 attr.0 row place.relation facts place.is_relation place.attr_within row_in
      wants table names
      (sym (ap (λ (m : Numbers). slice_get m.tables rel.0) source.numbers) ∙ in_table) some)

  pub denied : (name : RowId) → IsNamed n rel attr row name → last_row (ranking_of c rel.0 attr.0 ent.0) ≡ Some row →
      (lit negated : Lit)
      → Says (statements_of n) lit (last rel attr name) → negated ≡ negation lit
      → Says (statements_of n) negated (not_current s.relations c rel attr ent)
  denied name gives is_last lit negated says is =
      let other : Says (statements_of n) (negation lit) (not_last rel attr name) = negation_says (statements_of n)
      lit (last rel attr name) says in
      let same : not_last rel attr name ≡ not_current s.relations c rel attr ent =
      ap (not_last rel attr) (reads name gives) ∙ said_of_row s.relations c rel attr ent place.relation row
      place.is_relation is_last in
      subst (λ (x : Lit). Says (statements_of n) x (not_current s.relations c rel attr ent)) (sym is)
      (subst (Says (statements_of n) (negation lit)) same other)
