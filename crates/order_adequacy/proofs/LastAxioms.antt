-- Axioms on last rows and current values are true.
use Rattle.std.proofs.Common.{◌≡◌, ◌∙◌, ◌<◌, ℕ, List, [], ◌∷◌, Some, length, map, slice_get, sym, ap, subst, inl, inr}
use Rattle.currency_base.specs.declared.ids.AttrId.{AttrId}
use Rattle.currency_base.specs.declared.ids.RelId.{RelId}
use Rattle.currency_base.specs.declared.ids.RowId.{RowId}
use Rattle.denial_rules.specs.Instances.{field_value}
use Rattle.entity_lists.specs.Lists.{entities_of, rows_of}
use Rattle.order_literals.specs.Axioms.{AreTwo, others, alike}
use Rattle.order_literals.specs.Said.{before, not_before, top, not_top, last, not_last}
use Rattle.order_literals.specs.Truth.{StandsLast, IsCurrent, OneHolds}
use Rattle.partial_orders.specs.Pairs.{entity_of}
use Rattle.spec_model.specs.Completion.{Rankings}
use Rattle.spec_model.specs.declared.relation.Relation.{Relation}
use Rattle.value_names.proofs.NameFacts.{HaveOne, have_one_alike, named}
use Rattle.value_names.specs.Names.{are_alike, name_of}
use Rattle.order_adequacy.proofs.Chosen.{first_holds, later_holds, mapped_holds, stands_or, stands_if, stands_in, stands_of, HasCurrent, current_or, current_if, current_of}
use Rattle.order_adequacy.proofs.Decided.{Decided, same_or}
use Rattle.order_adequacy.proofs.Lists.{passed_in}
use Rattle.order_adequacy.proofs.Orders.{IsCase, IsLastOf, relation_facts, one_entity, last_there, last_of_all, before_last}
use Rattle.order_adequacy.proofs.Rows.{row_there, of_entity_in, other_in}

-- a row of a relation, and one of its attributes
pub record IsAt (relations : List Relation) (rel attr ent : ℕ) (r : Relation) (row : RowId) : Type 0 where
  pub is_relation : slice_get relations rel ≡ Some r
  pub attr_in : attr < length r.attrs
  pub of_entity : entity_of r.rows row.0 ≡ Some ent

-- ---- above

pub above_true : (relations : List Relation) (c : Rankings) (answers : ℕ → Type 0) (rel : RelId) (attr : AttrId)
    (row other : RowId) (r : Relation)
    → IsCase relations c → slice_get relations rel.0 ≡ Some r → attr.0 < length r.attrs → AreTwo r.rows row other
    → OneHolds relations c answers (not_top rel attr row ∷ before rel attr other row ∷ [])
above_true relations c answers rel attr row other r is at inside two = by (stands_or relations c rel.0 attr.0 row)
  where
    by : Decided (StandsLast relations c rel.0 attr.0 row) → OneHolds relations c answers
        (not_top rel attr row ∷ before rel attr other row ∷ [])
    by (inr n) = first_holds n
    by (inl t) =
        let last = stands_in relations c rel.0 attr.0 two.ent r row at two.a_of t in
        later_holds (first_holds
        (before_last relations c rel.0 attr.0 two.ent r row other is at inside last two.b_of (λ same. two.differ (sym same))))

-- ---- top

pub top_true : (relations : List Relation) (c : Rankings) (answers : ℕ → Type 0) (rel : RelId) (attr : AttrId)
    (row : RowId) (r : Relation) (ent : ℕ)
    → IsCase relations c → IsAt relations rel.0 attr.0 ent r row
    → OneHolds relations c answers (top rel attr row ∷ map (λ other. not_before rel attr other row) (others r.rows ent row))
top_true relations c answers rel attr row r ent is at =
    let z = last_there relations c rel.0 attr.0 ent r row is at.is_relation at.attr_in at.of_entity in
    by z.0 z.1 (same_or z.0 row)
  where
    by : (z : RowId) → IsLastOf r c rel.0 attr.0 ent z → Decided (z ≡ row)
        → OneHolds relations c answers (top rel attr row ∷ map (λ other. not_before rel attr other row) (others r.rows ent row))
    by z l (inl same) = first_holds (stands_if relations c rel.0 attr.0 ent r row at.is_relation
        (subst (IsLastOf r c rel.0 attr.0 ent) same l))
    by z l (inr differ) =
        later_holds (mapped_holds relations c answers (λ other. not_before rel attr other row) (others r.rows ent row) z
        (other_in r.rows ent row z l.of_entity differ) (last_of_all relations c rel.0 attr.0 ent r z row is.completion l))

-- ---- last

-- the value of a row that stands last is current
pub last_current : (relations : List Relation) (c : Rankings) (rel attr ent : ℕ) (r : Relation) (z row : RowId)
    → slice_get relations rel ≡ Some r → IsLastOf r c rel attr ent z → HaveOne r.rows attr z row
    → IsCurrent relations c rel attr row
last_current relations c rel attr ent r z row at l alike =
    let same = one_entity r.rows z.0 alike.ent ent alike.entity l.of_entity in
    current_if relations c rel attr ent r row at
    record {
      of_entity = subst (λ k. entity_of r.rows row.0 ≡ Some k) same alike.other_entity;
      value = alike.value;
      of_row = alike.there;
      current = ap (λ o. field_value r.rows o attr) l.is_last ∙ alike.here;
    }

pub last_true : (relations : List Relation) (c : Rankings) (answers : ℕ → Type 0) (rel : RelId) (attr : AttrId)
    (row : RowId) (r : Relation)
    → IsCase relations c → slice_get relations rel.0 ≡ Some r → attr.0 < length r.attrs
    → OneHolds relations c answers (not_top rel attr row ∷ last rel attr (name_of r.rows attr.0 row) ∷ [])
last_true relations c answers rel attr row r is at inside = by (stands_or relations c rel.0 attr.0 row)
  where
    by : Decided (StandsLast relations c rel.0 attr.0 row)
        → OneHolds relations c answers (not_top rel attr row ∷ last rel attr (name_of r.rows attr.0 row) ∷ [])
    by (inr n) = first_holds n
    by (inl t) =
        let l = stands_of relations c rel.0 attr.0 r row at t in
        let name = named r attr.0 (relation_facts relations rel.0 r is.facts at) inside row
        (row_there r.rows row.0 l.0 l.1.of_entity) in
        later_holds (first_holds (last_current relations c rel.0 attr.0 l.0 r row (name_of r.rows attr.0 row) at l.1
        name.have_one))

-- ---- value

-- the last row has the current value, which rows that have it too are alike to
pub alike_last : (c : Rankings) (rel attr ent : ℕ) (r : Relation) (row z : RowId) → IsLastOf r c rel attr ent z
    → HasCurrent r c rel attr ent row
    → HaveOne r.rows attr row z
alike_last c rel attr ent r row z l has = record {
  ent = ent;
  value = has.value;
  entity = has.of_entity;
  other_entity = l.of_entity;
  here = has.of_row;
  there = sym (ap (λ o. field_value r.rows o attr) l.is_last) ∙ has.current;
}

-- and so are the rows that have its name
through_name : (c : Rankings) (rel attr ent : ℕ) (r : Relation) (row name z : RowId) → IsLastOf r c rel attr ent z
    → entity_of r.rows row.0 ≡ Some ent → HaveOne r.rows attr row name → (k : ℕ) → HasCurrent r c rel attr k name
    → HaveOne r.rows attr row z
through_name c rel attr ent r row name z l of alike k has =
    let own = one_entity r.rows row.0 alike.ent ent alike.entity of in
    let its : alike.ent ≡ k = one_entity r.rows name.0 alike.ent k alike.other_entity has.of_entity in
    let here = subst (λ e. HasCurrent r c rel attr e name) (sym its ∙ own) has in
    let with_last = alike_last c rel attr ent r name z l here in
    record {
      ent = ent;
      value = with_last.value;
      entity = of;
      other_entity = l.of_entity;
      here = alike.here ∙ (sym alike.there ∙ with_last.here);
      there = with_last.there;
    }

pub value_true : (relations : List Relation) (c : Rankings) (answers : ℕ → Type 0) (rel : RelId) (attr : AttrId)
    (row : RowId) (r : Relation) (ent : ℕ)
    → IsCase relations c → IsAt relations rel.0 attr.0 ent r row
    → OneHolds relations c answers (not_last rel attr (name_of r.rows attr.0 row) ∷ map (top rel attr)
    (alike r.rows attr.0 ent row))
value_true relations c answers rel attr row r ent is at = by (current_or relations c rel.0 attr.0 (name_of r.rows attr.0 row))
  where
    by : Decided (IsCurrent relations c rel.0 attr.0 (name_of r.rows attr.0 row))
        → OneHolds relations c answers (not_last rel attr (name_of r.rows attr.0 row) ∷ map (top rel attr)
        (alike r.rows attr.0 ent row))
    by (inr n) = first_holds n
    by (inl t) =
        let name = name_of r.rows attr.0 row in
        let z = last_there relations c rel.0 attr.0 ent r row is at.is_relation at.attr_in at.of_entity in
        let facts = relation_facts relations rel.0 r is.facts at.is_relation in
        let its = named r attr.0 facts at.attr_in row (row_there r.rows row.0 ent at.of_entity) in
        let has = current_of relations c rel.0 attr.0 r name at.is_relation t in
        let with_last = through_name c rel.0 attr.0 ent r row name z.0 z.1 at.of_entity its.have_one has.0 has.1 in
        let among = passed_in (are_alike r.rows attr.0 row) (rows_of (entities_of r.rows) ent) z.0
        (of_entity_in r.rows ent z.0 z.1.of_entity)
        (have_one_alike r.rows attr.0 row z.0 with_last) in
        later_holds (mapped_holds relations c answers (top rel attr) (alike r.rows attr.0 ent row) z.0 among
        (stands_if relations c rel.0 attr.0 ent r z.0 at.is_relation z.1))
