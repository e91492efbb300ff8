-- A relation of the part is a relation.
use Rattle.std.proofs.Common.{◌≡◌, ◌≢◌, ◌+◌, ◌<◌, ◌^◌, ◌∙◌, ℕ, List, Some, length, map, slice_get, sym, ap, subst, arith}
use Rattle.std.proofs.lemmas.Option.{same_Some, slice_get_within}
use Rattle.currency_base.specs.Lists.{OnlyOnce}
use Rattle.currency_base.specs.Rows.{HasRowOf}
use Rattle.currency_base.specs.Values.{kind_of}
use Rattle.currency_base.specs.declared.ids.EntId.{EntId}
use Rattle.currency_base.specs.declared.ids.RowId.{RowId}
use Rattle.currency_base.specs.declared.pair.Pair.{Pair}
use Rattle.currency_base.specs.declared.row.Row.{Row}
use Rattle.partial_orders.specs.Pairs.{entity_of}
use Rattle.spec_model.specs.Facts.{IsRelation, IsGivenPair, kinds_of}
use Rattle.spec_model.specs.declared.relation.Relation.{Relation}
use Rattle.part_laws.specs.Parts.{IsRowPart, IsPairPart}
use Rattle.part_laws.proofs.Rows.{entity_of_row}
use Rattle.spec_parts.specs.Steps.{IsCuttable, IsPartSoFar}
use Rattle.spec_parts.proofs.Pairing.{item_at, is_in, stands, item_has, each_has, partner, unmapped, mapped}
use Rattle.spec_parts.proofs.Searched.{same_id, one_row, one_entity}

module _ (r : Relation) (rows : List RowId) (entities : List EntId) (new : Relation) (cut : IsCuttable r rows entities)
    (part : IsPartSoFar r rows entities new) where
  -- a row of the part, and the row of the whole that it is
  row_at : (k : ℕ) (one : Row) → slice_get new.rows k ≡ Some one
      → (row : RowId) × (slice_get rows k ≡ Some row) × IsRowPart r.rows entities row one
  row_at k one at =
      let found = item_at rows k (omega (arith, slice_get_within new.rows k one at, part.rows.many)) in
      (found.0, found.1, part.rows.each k found.0 one found.1 at)

  kinds : kinds_of new ≡ kinds_of r
  kinds = ap (λ attrs. map (λ a. a.kind) attrs) part.attrs

  entity_in : (k : ℕ) (one : Row) → slice_get new.rows k ≡ Some one → one.entity.0 < length new.entities
  entity_in k one at =
      let found = row_at k one at in
      omega (arith, slice_get_within entities one.entity.0 found.2.old.entity found.2.entity, part.entities.many)

  values_at : (k : ℕ) (one : Row) → slice_get new.rows k ≡ Some one → map kind_of one.values ≡ kinds_of new
  values_at k one at =
      let found = row_at k one at in
      ap (map kind_of) found.2.values
      ∙ (item_has (λ (q : Row). map kind_of q.values ≡ kinds_of r) r.rows cut.facts.values found.0.0 found.2.old
      found.2.is_old ∙ sym kinds)

  -- the entity of a row of the part, by that of the row of the whole
  entity_place : (k : ℕ) (row : RowId) (ent : ℕ) (old : EntId) → slice_get rows k ≡ Some row → slice_get entities ent ≡ Some old
      → entity_of r.rows row.0 ≡ Some old.0 → (one : Row) × (slice_get new.rows k ≡ Some one) × (one.entity.0 ≡ ent)
  entity_place k row ent old at is_ent of =
      let one = partner (IsRowPart r.rows entities) rows new.rows k row part.rows at in
      let number : one.2.old.entity.0 ≡ old.0 = same_Some one.2.old.entity.0 old.0
      (sym (entity_of_row r.rows row.0 one.2.old one.2.is_old) ∙ of) in
      let same : one.2.old.entity ≡ old = same_id one.2.old.entity old number in
      (one.0, one.1, one_entity entities one.0.entity.0 ent old cut.entities_ascend (one.2.entity ∙ ap Some same) is_ent)

  inhabited_at : (ent : ℕ) → ent < length new.entities → HasRowOf new.rows ent
  inhabited_at ent below =
      let old = item_at entities ent (omega (arith, below, part.entities.many)) in
      let has = cut.facts.inhabited old.0.0 (item_has (λ (e : EntId). e.0 < length r.entities) entities cut.named ent
      old.0 old.1) in
      let row : RowId = record { 0 = has.at } in
      let of : entity_of r.rows has.at ≡ Some old.0.0 = entity_of_row r.rows has.at has.row has.is_row ∙ ap Some has.is_of in
      let place = stands rows row (cut.complete row old.0 of (is_in entities ent old.0 old.1)) in
      let one = entity_place place.0 row ent old.0 place.1 old.1 of in
      record { at = place.0; row = one.0; is_row = one.1; is_of = one.2 }

  row_names_once : OnlyOnce (map (λ (row : Row). row.name) new.rows)
  row_names_once i j x at_i at_j =
      let a = unmapped (λ (row : Row). row.name) new.rows i x at_i in
      let b = unmapped (λ (row : Row). row.name) new.rows j x at_j in
      let p = row_at i a.0 a.1 in
      let q = row_at j b.0 b.1 in
      let first : slice_get (map (λ (row : Row). row.name) r.rows) p.0.0 ≡ Some x =
      mapped (λ (row : Row). row.name) r.rows p.0.0 p.2.old p.2.is_old ∙ ap Some (sym p.2.name ∙ a.2) in
      let second : slice_get (map (λ (row : Row). row.name) r.rows) q.0.0 ≡ Some x =
      mapped (λ (row : Row). row.name) r.rows q.0.0 q.2.old q.2.is_old ∙ ap Some (sym q.2.name ∙ b.2) in
      let same : p.0 ≡ q.0 = ap (λ (k : ℕ). let y : RowId = record { 0 = k } in y)
      (cut.facts.row_names p.0.0 q.0.0 x first second) in
      one_row rows i j q.0 cut.rows_ascend (p.1 ∙ ap Some same) q.1

  entity_names_once : OnlyOnce new.entities
  entity_names_once i j x at_i at_j =
      let a = item_at entities i (omega (arith, slice_get_within new.entities i x at_i, part.entities.many)) in
      let b = item_at entities j (omega (arith, slice_get_within new.entities j x at_j, part.entities.many)) in
      let first : slice_get r.entities a.0.0 ≡ Some x = part.entities.each i a.0 x a.1 at_i in
      let second : slice_get r.entities b.0.0 ≡ Some x = part.entities.each j b.0 x b.1 at_j in
      let same : a.0 ≡ b.0 = same_id a.0 b.0 (cut.facts.entity_names a.0.0 b.0.0 x first second) in
      one_entity entities i j b.0 cut.entities_ascend (a.1 ∙ ap Some same) b.1

  -- a given pair of two rows of the part is one of the part
  pub pair_is_given : (p old : Pair) → IsPairPart rows p old → IsGivenPair r old → IsGivenPair new p
  pair_is_given p old is given = record {
    attr = subst (λ a. p.attr.0 < length a) (sym part.attrs) (subst (λ a. a.0 < length r.attrs) (sym is.attr) given.attr);
    earlier = omega (arith, slice_get_within rows p.earlier.0 old.earlier is.earlier, part.rows.many);
    later = omega (arith, slice_get_within rows p.later.0 old.later is.later, part.rows.many);
    one_entity = (apart, of_one);
  }
    where
      apart : p.earlier ≢ p.later
      apart same = given.one_entity.0
          (same_Some old.earlier old.later (sym is.earlier ∙ ap (λ (x : RowId). slice_get rows x.0) same ∙ is.later))

      of_one : entity_of new.rows p.earlier.0 ≡ entity_of new.rows p.later.0
      of_one =
          let a = partner (IsRowPart r.rows entities) rows new.rows p.earlier.0 old.earlier part.rows is.earlier in
          let of_later : entity_of r.rows old.later.0 ≡ Some a.2.old.entity.0 =
          sym given.one_entity.1 ∙ entity_of_row r.rows old.earlier.0 a.2.old a.2.is_old in
          let b = entity_place p.later.0 old.later a.0.entity.0 a.2.old.entity is.later a.2.entity of_later in
          entity_of_row new.rows p.earlier.0 a.0 a.1 ∙ ap Some (sym b.2) ∙ sym (entity_of_row new.rows p.later.0 b.0 b.1)

  given_at : (k : ℕ) (p : Pair) → slice_get new.given k ≡ Some p → IsGivenPair new p
  given_at k p at =
      let found = part.given p (is_in new.given k p at) in
      let place = stands r.given found.0 found.2 in
      pair_is_given p found.0 found.1 (item_has (IsGivenPair r) r.given cut.facts.given place.0 found.0 place.1)

  pub part_is_relation : IsRelation new
  part_is_relation = record {
    few_attrs = subst (λ a. length a + 1 < 2 ^ 32) (sym part.attrs) cut.facts.few_attrs;
    few_rows = omega (arith, cut.few_rows, part.rows.many);
    few_entities = omega (arith, cut.few_entities, part.entities.many);
    entities = each_has (λ (row : Row). row.entity.0 < length new.entities) new.rows entity_in;
    inhabited = inhabited_at;
    values = each_has (λ (row : Row). map kind_of row.values ≡ kinds_of new) new.rows values_at;
    attr_names = subst (λ a. OnlyOnce (map (λ x. x.name) a)) (sym part.attrs) cut.facts.attr_names;
    row_names = row_names_once;
    entity_names = entity_names_once;
    given = each_has (IsGivenPair new) new.given given_at;
  }
