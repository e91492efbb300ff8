-- A part with some of its items is the part of the whole with those items.
use Rattle.std.proofs.Common.{◌≡◌, ◌<◌, ◌∙◌, ◌↔◌, ℕ, suc, true, if◌then◌else◌, List, [], ◌∷◌, Option, Some, Contains, length, slice_get, refl, sym, ap, subst}
use Rattle.std.proofs.lemmas.Option.{get_or_from_slice_get}
use Rattle.currency_base.specs.declared.ids.EntId.{EntId}
use Rattle.currency_base.specs.declared.ids.RowId.{RowId}
use Rattle.currency_base.specs.declared.pair.Pair.{Pair}
use Rattle.copy_functions.specs.Copies.{CopyFunction, source_at}
use Rattle.denial_rules.specs.declared.rule.Rule.{Rule}
use Rattle.partial_orders.specs.Pairs.{entity_of}
use Rattle.spec_model.specs.Spec.{Spec}
use Rattle.spec_model.specs.declared.relation.Relation.{Relation}
use Rattle.part_laws.specs.Parts.{Scope, Places, rows_in, entities_in, whole_row, IsRowIn, ArePlacesOf, IsClosed, IsPairPart, IsRelationPart, IsCopyPart, IsPartOf}
use Rattle.spec_items.specs.Kept.{Keeps, kept_relations, kept_rules, kept_copies, kept}
use Rattle.spec_items.specs.declared.item.Item.TheVariants as item
use Rattle.part_items.specs.Items.{whole_pair, target_rows, kept_in}
use Rattle.part_items.specs.Laws.{ItemsAreParted}
use Rattle.part_items.proofs.KeptPlaces.{kept_relation, relation_of, as_many_relations, pair_of, pair_kept, kept_copy, copy_of, as_many_copies, source_of, source_kept}

-- ---- rows and entities

places_kept : (keeps : Keeps) (relations : List Relation) (scope : Scope) (n : Places) → ArePlacesOf relations scope n
    → ArePlacesOf (kept_relations keeps 0 relations) scope n
places_kept keeps relations scope n are = record {
  rows_per_relation = are.rows_per_relation ∙ sym (as_many_relations keeps 0 relations);
  entities_per_relation = are.entities_per_relation ∙ sym (as_many_relations keeps 0 relations);
  rows_ascend = are.rows_ascend;
  entities_ascend = are.entities_ascend;
  rows = λ rel r at.
      let of = relation_of keeps relations rel r at in
      subst (λ (q : Relation). (row : RowId) → Contains (rows_in n rel) row ↔ IsRowIn scope rel q.rows row) of.2
      (are.rows rel of.0 of.1);
  entities = λ rel r at.
      let of = relation_of keeps relations rel r at in
      subst
      (λ (q : Relation). (ent : EntId)
      → Contains (entities_in n rel) ent ↔ ((ent.0 < length q.entities) × (scope rel ent.0 ≡ true)))
      of.2 (are.entities rel of.0 of.1);
}

-- rows that are mapped where fewer are kept are mapped in the whole
closed_at : (keeps : Keeps) (s : Spec) (scope : Scope) (k : ℕ) (copy : CopyFunction) → IsClosed s scope
    → slice_get s.copies k ≡ Some copy
    → (target source : Relation) → slice_get (kept_relations keeps 0 s.relations) copy.target.0 ≡ Some target
    → slice_get (kept_relations keeps 0 s.relations) copy.source.0 ≡ Some source
    → (row from : RowId) → source_at (kept_copy keeps k copy) row ≡ Some from
    → (ent source_ent : ℕ) → entity_of target.rows row.0 ≡ Some ent → entity_of source.rows from.0 ≡ Some source_ent
    → scope copy.target.0 ent ≡ scope copy.source.0 source_ent
closed_at keeps s scope k copy closed at target source at_target at_source row from mapped ent source_ent of_ent of_source =
    let old_target = relation_of keeps s.relations copy.target.0 target at_target in
    let old_source = relation_of keeps s.relations copy.source.0 source at_source in
    closed k copy at old_target.0 old_source.0 old_target.1 old_source.1 row from
    (source_of keeps k copy row from mapped).1 ent source_ent
    (ap (λ (q : Relation). entity_of q.rows row.0) old_target.2 ∙ of_ent)
    (ap (λ (q : Relation). entity_of q.rows from.0) old_source.2 ∙ of_source)

closed_kept : (keeps : Keeps) (s : Spec) (scope : Scope) → IsClosed s scope → IsClosed (kept keeps s) scope
closed_kept keeps s scope closed k copy at =
    let of = copy_of keeps s.copies k copy at in
    subst
    (λ (q : CopyFunction). (target source : Relation) → slice_get (kept_relations keeps 0 s.relations) q.target.0 ≡ Some target
    → slice_get (kept_relations keeps 0 s.relations) q.source.0 ≡ Some source
    → (row from : RowId) → source_at q row ≡ Some from
    → (ent source_ent : ℕ) → entity_of target.rows row.0 ≡ Some ent → entity_of source.rows from.0 ≡ Some source_ent
    → scope q.target.0 ent ≡ scope q.source.0 source_ent)
    of.2 (closed_at keeps s scope k of.0 closed of.1)

-- ---- relations

-- the pair of the whole that a pair of the part is
pair_is : (rows : List RowId) (p old : Pair) → IsPairPart rows p old → whole_pair rows p ≡ old
pair_is rows p old is =
    let earlier : whole_row rows p.earlier ≡ old.earlier = get_or_from_slice_get rows p.earlier.0 old.earlier
    p.earlier is.earlier in
    let later : whole_row rows p.later ≡ old.later = get_or_from_slice_get rows p.later.0 old.later p.later is.later in
    ap (λ a. let q : Pair = record { attr = a; earlier = whole_row rows p.earlier; later = whole_row rows p.later } in q) is.attr
    ∙ ap (λ (x : RowId). let q : Pair = record { attr = old.attr; earlier = x; later = whole_row rows p.later } in q) earlier
    ∙ ap (λ (x : RowId). let q : Pair = record { attr = old.attr; earlier = old.earlier; later = x } in q) later

relation_part : (n : Places) (copies : List CopyFunction) (keeps : Keeps) (rel : ℕ) (r new : Relation)
    → IsRelationPart r (rows_in n rel) (entities_in n rel) new
    → IsRelationPart (kept_relation keeps rel r) (rows_in n rel) (entities_in n rel)
    (kept_relation (kept_in n copies keeps) rel new)
relation_part n copies keeps rel r new is = record {
  name = is.name;
  attrs = is.attrs;
  per_row = is.per_row;
  each_row = is.each_row;
  per_entity = is.per_entity;
  each_entity = is.each_entity;
  given_are = λ p at.
      let of = pair_of (kept_in n copies keeps) rel new.given p at in
      let old = is.given_are p of.0 in
      let same = pair_is (rows_in n rel) p old.0 old.1 in
      let here = ap (λ (q : Pair). keeps (item.Given (record { 0 = rel }) q)) (sym same) ∙ of.1 in
      (old.0, old.1, pair_kept keeps rel r.given old.0 old.2 here);
  given_all = λ p old part at.
      let of = pair_of keeps rel r.given old at in
      let same = pair_is (rows_in n rel) p old part in
      let here = ap (λ (q : Pair). keeps (item.Given (record { 0 = rel }) q)) same ∙ of.1 in
      pair_kept (kept_in n copies keeps) rel new.given p (is.given_all p old part of.0) here;
}

relations_kept : (s part : Spec) (scope : Scope) (n : Places) (keeps : Keeps) → IsPartOf s scope n part →
    (rel : ℕ) (r new : Relation)
    → slice_get (kept_relations keeps 0 s.relations) rel ≡ Some r
    → slice_get (kept_relations (kept_in n s.copies keeps) 0 part.relations) rel ≡ Some new
    → IsRelationPart r (rows_in n rel) (entities_in n rel) new
relations_kept s part scope n keeps is rel r new at at_new =
    let of = relation_of keeps s.relations rel r at in
    let of_new = relation_of (kept_in n s.copies keeps) part.relations rel new at_new in
    subst (λ (q : Relation). IsRelationPart q (rows_in n rel) (entities_in n rel) new) of.2
    (subst (λ (q : Relation). IsRelationPart (kept_relation keeps rel of.0) (rows_in n rel) (entities_in n rel) q) of_new.2
    (relation_part n s.copies keeps rel of.0 of_new.0 (is.relations rel of.0 of_new.0 of.1 of_new.1)))

-- ---- rules

-- a rule has the same number in a part
same_rules : (n : Places) (copies : List CopyFunction) (keeps : Keeps) (k : ℕ) (rules : List Rule)
    → kept_rules (kept_in n copies keeps) k rules ≡ kept_rules keeps k rules
same_rules n copies keeps k [] = refl
same_rules n copies keeps k (rule ∷ rules) =
    ap (λ (rest : List Rule). if keeps (item.Rule (record { 0 = k })) then rule ∷ rest else rest)
    (same_rules n copies keeps (suc k) rules)

-- ---- copy functions

copy_part : (n : Places) (copies : List CopyFunction) (keeps : Keeps) (k : ℕ) (copy new : CopyFunction)
    → slice_get copies k ≡ Some copy
    → IsCopyPart copy (rows_in n copy.target.0) (rows_in n copy.source.0) new
    → IsCopyPart (kept_copy keeps k copy) (rows_in n copy.target.0) (rows_in n copy.source.0)
    (kept_copy (kept_in n copies keeps) k new)
copy_part n copies keeps k copy new at is = record {
  name = is.name;
  target = is.target;
  source = is.source;
  places = is.places;
  mapped_are = λ row from mapped.
      let of = source_of (kept_in n copies keeps) k new row from mapped in
      let old = is.mapped_are row from of.1 in
      let here = sym (same row old.0 old.2) ∙ of.0 in
      (old.0, old.1, old.2, old.3, source_kept keeps k copy old.0 old.1 here old.4);
  mapped_all = λ row from old old_from at_row at_from mapped.
      let of = source_of keeps k copy old old_from mapped in
      source_kept (kept_in n copies keeps) k new row from (same row old at_row ∙ of.0)
      (is.mapped_all row from old old_from at_row at_from of.1);
}
  where
    -- whether the row is kept in the part, and in the whole
    same : (row old : RowId) → slice_get (rows_in n copy.target.0) row.0 ≡ Some old
        → keeps (item.Copy (record { 0 = k }) (whole_row (target_rows n (slice_get copies k)) row))
        ≡ keeps (item.Copy (record { 0 = k }) old)
    same row old at_row =
        ap (λ (o : Option CopyFunction). keeps (item.Copy (record { 0 = k }) (whole_row (target_rows n o) row))) at
        ∙ ap (λ (x : RowId). keeps (item.Copy (record { 0 = k }) x)) (get_or_from_slice_get (rows_in n copy.target.0)
        row.0 old row at_row)

copies_kept : (s part : Spec) (scope : Scope) (n : Places) (keeps : Keeps) → IsPartOf s scope n part →
    (k : ℕ) (copy new : CopyFunction)
    → slice_get (kept_copies keeps 0 s.copies) k ≡ Some copy
    → slice_get (kept_copies (kept_in n s.copies keeps) 0 part.copies) k ≡ Some new
    → IsCopyPart copy (rows_in n copy.target.0) (rows_in n copy.source.0) new
copies_kept s part scope n keeps is k copy new at at_new =
    let of = copy_of keeps s.copies k copy at in
    let of_new = copy_of (kept_in n s.copies keeps) part.copies k new at_new in
    subst (λ (q : CopyFunction). IsCopyPart q (rows_in n q.target.0) (rows_in n q.source.0) new) of.2
    (subst (λ (q : CopyFunction). IsCopyPart (kept_copy keeps k of.0) (rows_in n of.0.target.0)
    (rows_in n of.0.source.0) q) of_new.2
    (copy_part n s.copies keeps k of.0 of_new.0 of.1 (is.copies k of.0 of_new.0 of.1 of_new.1)))

-- ---- all together

pub items_parted : ItemsAreParted
items_parted s scope n part keeps is = record {
  places = places_kept keeps s.relations scope n is.places;
  closed = closed_kept keeps s scope is.closed;
  per_relation = as_many_relations (kept_in n s.copies keeps) 0 part.relations
      ∙ is.per_relation ∙ sym (as_many_relations keeps 0 s.relations);
  relations = relations_kept s part scope n keeps is;
  rules = ap (kept_rules (kept_in n s.copies keeps) 0) is.rules ∙ same_rules n s.copies keeps 0 s.rules;
  per_copy = as_many_copies (kept_in n s.copies keeps) 0 part.copies ∙ is.per_copy ∙ sym (as_many_copies keeps 0 s.copies);
  copies = copies_kept s part scope n keeps is;
}
