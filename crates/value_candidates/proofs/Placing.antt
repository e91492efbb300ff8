-- How far the claims are listed: none, those of one place more, all of an entity, all of a relation.
use Rattle.std.proofs.Common.{◌≡◌, ◌∙◌, ◌<◌, ◌≤◌, ◌+◌, ◌⊎◌, inl, inr, ⊎_elim, ℕ, List, [], ◌++◌, All, Contains, Option, Some, get_or, length, map, option_map, slice_get, refl, sym, ap, subst, arith}
use Rattle.std.specs.declared.cmp.Ordering.TheVariants.{Less}
use Rattle.std.proofs.lemmas.Bool.{cases_lt}
use Rattle.std.proofs.lemmas.List.Elements.{All-append, All-map, Contains-append_left, Contains-append_right, Contains-get_or}
use Rattle.std.proofs.lemmas.Option.{same_Some, none-some, get_or_from_slice_get, slice_get-get_or, slice_get_within}
use Rattle.currency_base.specs.declared.ids.AttrId.{AttrId}
use Rattle.currency_base.specs.declared.ids.RelId.{RelId}
use Rattle.currency_base.specs.declared.ids.RowId.{RowId}
use Rattle.currency_base.specs.declared.row.Row.{Row}
use Rattle.denial_rules.specs.Instances.{field_value, value_in}
use Rattle.entity_lists.specs.Lists.{entities_of, rows_of}
use Rattle.entity_lists.proofs.Facts.{entities_at, found_in, member_of}
use Rattle.match_premises.specs.declared.premise.Premise.{Premise}
use Rattle.posed_facts.specs.Facts.{IsPlaced}
use Rattle.posed_facts.specs.Questions.{claim_row, row_in}
use Rattle.spec_model.specs.Facts.{IsRelation}
use Rattle.spec_model.specs.declared.relation.Relation.{Relation}
use Rattle.value_candidates.specs.Claims.{AreOfOneValue, AreValueClaims, ValuePrecedes, entity_at, value_at}
use Rattle.value_candidates.specs.Claims.ValuePrecedes.{by_rel, by_entity, by_attr, by_value}
use Rattle.value_candidates.specs.Steps.{ArePlacePut, ArePutTo, AreValuesOf, IsBefore, IsPut, StandSo, claim_for}
use Rattle.value_candidates.specs.Steps.IsBefore.{below_rel, below_entity, below_attr}
use Rattle.value_candidates.proofs.Lists.{ascends_append, ascends_map, ascends_none, at_place, map_has, mapped, place_of}
use Rattle.value_candidates.proofs.Marking.{one_attr, one_rel}

-- ---- what is read for a claim

-- the row of a claim on this relation
row_read : (relations : List Relation) (r : Relation) (p : Premise) → slice_get relations p.rel.0 ≡ Some r
    → claim_row relations p ≡ slice_get r.rows p.row.0
row_read relations r p is = ap (λ o. row_in o p) is

-- its entity
entity_read : (relations : List Relation) (r : Relation) (p : Premise) → slice_get relations p.rel.0 ≡ Some r
    → entity_at relations p ≡ slice_get (entities_of r.rows) p.row.0
entity_read relations r p is =
    ap (option_map (λ (row : Row). row.entity.0)) (row_read relations r p is) ∙ sym (entities_at r.rows p.row.0)

-- its value
value_read : (relations : List Relation) (r : Relation) (p : Premise) → slice_get relations p.rel.0 ≡ Some r
    → value_at relations p ≡ field_value r.rows (Some p.row) p.attr.0
value_read relations r p is = ap (λ o. value_in o p.attr.0) (row_read relations r p is)

-- a row that stands for an entity is there
row_there : (rows : List Row) (at ent : ℕ) → slice_get (entities_of rows) at ≡ Some ent
    → (row : Row) × (slice_get rows at ≡ Some row)
row_there rows at ent is = by (slice_get rows at) refl
  where
    by : (o : Option Row) → slice_get rows at ≡ o → (row : Row) × (slice_get rows at ≡ Some row)
    by Option.None e = absurd (none-some ent (sym (entities_at rows at ∙ ap (option_map (λ (row : Row). row.entity.0)) e) ∙ is))
    by (Some row) e = (row, e)

-- a claim on this relation for one of an entity's rows
module _ (relations : List Relation) (r : Relation) (rel : RelId) (attr : AttrId) (is : slice_get relations rel.0 ≡ Some r) where
  for_entity : (ent : ℕ) (row : RowId) → Contains (rows_of (entities_of r.rows) ent) row
      → entity_at relations (claim_for rel attr row) ≡ Some ent
  for_entity ent row c =
      let at = place_of (rows_of (entities_of r.rows) ent) row c in
      entity_read relations r (claim_for rel attr row) is ∙ member_of (entities_of r.rows) ent at.0 row at.1

  for_value : (row : RowId) → value_at relations (claim_for rel attr row) ≡ field_value r.rows (Some row) attr.0
  for_value row = value_read relations r (claim_for rel attr row) is

  for_placed : (ent : ℕ) (row : RowId) → attr.0 < length r.attrs → Contains (rows_of (entities_of r.rows) ent) row
      → IsPlaced relations (claim_for rel attr row)
  for_placed ent row below c =
      let at = place_of (rows_of (entities_of r.rows) ent) row c in
      let there = row_there r.rows row.0 ent (member_of (entities_of r.rows) ent at.0 row at.1) in
      record { relation = r; is_relation = is; row = there.0; is_row = there.1; attr = below }

-- ---- places in order

-- what comes before a place comes before a later one
module _ (relations : List Relation) (rel ent attr : ℕ) (p : Premise) where
  attr_later : IsBefore relations rel ent attr p → IsBefore relations rel ent (attr + 1) p
  attr_later (below_rel h) = below_rel h
  attr_later (below_entity e of h) = below_entity e of h
  attr_later (below_attr e of h) = below_attr e of (omega (arith, h))

  entity_later : IsBefore relations rel ent attr p → IsBefore relations rel (ent + 1) 0 p
  entity_later (below_rel h) = below_rel h
  entity_later (below_entity e of h) = below_entity e of (omega (arith, h))
  entity_later (below_attr e of h) = below_entity e of (omega arith)

  rel_later : IsBefore relations rel ent attr p → IsBefore relations (rel + 1) 0 0 p
  rel_later (below_rel h) = below_rel (omega (arith, h))
  rel_later (below_entity e of h) = below_rel (omega (arith, e))
  rel_later (below_attr e of h) = below_rel (omega (arith, e))

  -- what comes before the next attribute comes before this one, or is at this place
  attr_next : IsBefore relations rel ent (attr + 1) p
      → IsBefore relations rel ent attr p ⊎ ((p.rel.0 ≡ rel) × (entity_at relations p ≡ Some ent) × (p.attr.0 ≡ attr))
  attr_next (below_rel h) = inl (below_rel h)
  attr_next (below_entity e of h) = inl (below_entity e of h)
  attr_next (below_attr e of h) =
      ⊎_elim (λ (g : p.attr.0 < attr). inl (below_attr e of g)) (λ (g : attr ≤ p.attr.0). inr (e, of, omega (arith, g, h)))
      (cases_lt p.attr.0 attr)

  -- where all attributes are seen to, what comes before the next entity comes before this place
  entity_next : p.attr.0 < attr → IsBefore relations rel (ent + 1) 0 p → IsBefore relations rel ent attr p
  entity_next below (below_rel h) = below_rel h
  entity_next below (below_entity {ent = other} e of h) =
      ⊎_elim (λ (g : other < ent). below_entity e of g)
      (λ (g : ent ≤ other).
      let same : other ≡ ent = omega (arith, g, h) in below_attr e (of ∙ ap Some same) below)
      (cases_lt other ent)
  entity_next below (below_attr e of h) = absurd (omega (arith, h))

-- what comes before the next relation comes before this one, or is on it
rel_next : (relations : List Relation) (rel : ℕ) (p : Premise) → IsBefore relations (rel + 1) 0 0 p
    → (p.rel.0 < rel) ⊎ (p.rel.0 ≡ rel)
rel_next relations rel p (below_rel h) =
    ⊎_elim (λ (g : p.rel.0 < rel). inl g) (λ (g : rel ≤ p.rel.0). inr (omega (arith, g, h))) (cases_lt p.rel.0 rel)
rel_next relations rel p (below_entity e of h) = absurd (omega (arith, h))
rel_next relations rel p (below_attr e of h) = absurd (omega (arith, h))

-- what comes before a place stands before the claims at that place
precedes : (relations : List Relation) (ent : ℕ) (p q : Premise) → IsBefore relations q.rel.0 ent q.attr.0 p
    → entity_at relations q ≡ Some ent → ValuePrecedes relations p q
precedes relations ent p q (below_rel h) of = by_rel h
precedes relations ent p q (below_entity e at h) of = by_entity e at of h
precedes relations ent p q (below_attr e at h) of = by_attr e (at ∙ sym of) h

-- ---- no claim

none_before : (relations : List Relation) (p : Premise) → IsBefore relations 0 0 0 p → ⊥
none_before relations p (below_rel h) = omega (arith, h)
none_before relations p (below_entity e of h) = omega (arith, h)
none_before relations p (below_attr e of h) = omega (arith, h)

pub claims_none : (relations : List Relation) (rels : List RelId) → ArePutTo relations rels 0 0 0 []
claims_none relations rels = record {
  each = λ k d below. absurd (omega (arith, below));
  ascend = ascends_none (ValuePrecedes relations);
  all = λ p put. absurd (none_before relations p put.before);
}

-- ---- the claims of one place more

module _ (relations : List Relation) (rels : List RelId) (r : Relation) (rel : RelId) (ent : ℕ) (attr : AttrId)
    (is : slice_get relations rel.0 ≡ Some r) (asked : Contains rels rel) (below : attr.0 < length r.attrs) where
  abbrev rows : List RowId
  rows = rows_of (entities_of r.rows) ent

  -- the claims of the place
  put_here : (values : List RowId) → AreValuesOf r.rows attr.0 rows values
      → All (IsPut relations rels rel.0 ent (attr.0 + 1)) (map (claim_for rel attr) values)
  put_here values are =
      All-map (IsPut relations rels rel.0 ent (attr.0 + 1)) (claim_for rel attr) values
      (λ k d within.
      let row = get_or values k d in
      let c = are.only row (Contains-get_or values k d within) in
      record {
        placed = for_placed relations r rel attr is ent row below c;
        asked = asked;
        before = below_attr refl (for_entity relations r rel attr is ent row c) (omega arith);
      })

  -- they ascend
  ascend_here : (values : List RowId) → AreValuesOf r.rows attr.0 rows values
      → (x y : RowId) → Contains values x → Contains values y → StandSo r.rows attr.0 Less x y
      → ValuePrecedes relations (claim_for rel attr x) (claim_for rel attr y)
  ascend_here values are x y in_x in_y so =
      by_value refl
      (for_entity relations r rel attr is ent x (are.only x in_x)
      ∙ sym (for_entity relations r rel attr is ent y (are.only y in_y)))
      refl (for_value relations r rel attr is x ∙ so.is_value) (for_value relations r rel attr is y ∙ so.is_next) so.in_order

  -- each value of the place is claimed
  all_here : (values : List RowId) → AreValuesOf r.rows attr.0 rows values → (p : Premise) → p.rel.0 ≡ rel.0
      → entity_at relations p ≡ Some ent → p.attr.0 ≡ attr.0
      → (q : Premise) × Contains (map (claim_for rel attr) values) q × AreOfOneValue relations p q
  all_here values are p same_rel of same_attr =
      let own : slice_get relations p.rel.0 ≡ Some r = ap (slice_get relations) same_rel ∙ is in
      let found = found_in (entities_of r.rows) ent p.row (sym (entity_read relations r p own) ∙ of) in
      let one = are.all p.row (at_place rows found.0 p.row found.1) in (
        claim_for rel attr one.0,
        map_has (claim_for rel attr) values one.0 one.1,
        record {
          rel = one_rel p.rel rel same_rel;
          attr = one_attr p.attr attr same_attr;
          entity = of ∙ sym (for_entity relations r rel attr is ent one.0 (are.only one.0 one.1));
          value = value_read relations r p own ∙ ap (field_value r.rows (Some p.row)) same_attr ∙ one.2
              ∙ sym (for_value relations r rel attr is one.0);
        },
      )

  pub claims_more : (old new : List Premise) → ArePlacePut r.rows rel attr rows old new
      → ArePutTo relations rels rel.0 ent attr.0 old → ArePutTo relations rels rel.0 ent (attr.0 + 1) new
  claims_more old new place so_far =
      subst (ArePutTo relations rels rel.0 ent (attr.0 + 1)) (sym place.put) record {
        each = All-append (IsPut relations rels rel.0 ent (attr.0 + 1)) old here
            (λ k d within.
            let was = so_far.each k d within in
            record {
              placed = was.placed;
              asked = was.asked;
              before = attr_later relations rel.0 ent attr.0 (get_or old k d) was.before;
            })
            (put_here place.values place.are);
        ascend = ascends_append (ValuePrecedes relations) old here so_far.ascend
            (ascends_map (StandSo r.rows attr.0 Less) (ValuePrecedes relations) (claim_for rel attr) place.values
            place.are.ascend (ascend_here place.values place.are))
            across;
        all = all;
      }
    where
      here : List Premise
      here = map (claim_for rel attr) place.values

      across : (i j : ℕ) (p q : Premise) → slice_get old i ≡ Some p → slice_get here j ≡ Some q → ValuePrecedes relations p q
      across i j p q at_p at_q =
          let m = mapped (claim_for rel attr) place.values j q at_q in
          let was = subst (IsPut relations rels rel.0 ent attr.0) (get_or_from_slice_get old i p p at_p)
          (so_far.each i p (slice_get_within old i p at_p)) in
          subst (ValuePrecedes relations p) m.2
          (precedes relations ent p (claim_for rel attr m.0) was.before
          (for_entity relations r rel attr is ent m.0 (place.are.only m.0 (at_place place.values j m.0 m.1))))

      all : (p : Premise) → IsPut relations rels rel.0 ent (attr.0 + 1) p
          → (q : Premise) × Contains (old ++ here) q × AreOfOneValue relations p q
      all p put =
          ⊎_elim
          (λ (b : IsBefore relations rel.0 ent attr.0 p).
          let q = so_far.all p (record { placed = put.placed; asked = put.asked; before = b }) in
          (q.0, Contains-append_left old here q.0 q.1, q.2))
          (λ (b : (p.rel.0 ≡ rel.0) × (entity_at relations p ≡ Some ent) × (p.attr.0 ≡ attr.0)).
          let q = all_here place.values place.are p b.0 b.1 b.2 in (q.0, Contains-append_right old here q.0 q.1, q.2))
          (attr_next relations rel.0 ent attr.0 p put.before)

-- ---- all of an entity, and all of a relation

pub entity_all : (relations : List Relation) (rels : List RelId) (r : Relation) (rel ent attr : ℕ) (list : List Premise)
    → slice_get relations rel ≡ Some r → length r.attrs ≤ attr → ArePutTo relations rels rel ent attr list
    → ArePutTo relations rels rel (ent + 1) 0 list
entity_all relations rels r rel ent attr list is all so_far = record {
  each = λ k d within.
      let was = so_far.each k d within in
      record {
        placed = was.placed;
        asked = was.asked;
        before = entity_later relations rel ent attr (get_or list k d) was.before;
      };
  ascend = so_far.ascend;
  all = λ p put. so_far.all p (record { placed = put.placed; asked = put.asked; before = earlier p put });
}
  where
    earlier : (p : Premise) → IsPut relations rels rel (ent + 1) 0 p → IsBefore relations rel ent attr p
    earlier p put = by put.before
      where
        own : p.rel.0 ≡ rel → p.attr.0 < attr
        own e =
            let same : put.placed.relation ≡ r =
            same_Some put.placed.relation r (sym put.placed.is_relation ∙ ap (slice_get relations) e ∙ is) in
            omega (arith, put.placed.attr, ap (λ (q : Relation). length q.attrs) same, all)

        by : IsBefore relations rel (ent + 1) 0 p → IsBefore relations rel ent attr p
        by (below_rel h) = below_rel h
        by (below_entity e of h) = entity_next relations rel ent attr p (own e) (below_entity e of h)
        by (below_attr e of h) = entity_next relations rel ent attr p (own e) (below_attr e of h)

-- with all that comes before the next relation
next_relation : (relations : List Relation) (rels : List RelId) (rel ent : ℕ) (list : List Premise)
    → ((p : Premise) → IsPlaced relations p → Contains rels p.rel → p.rel.0 ≡ rel → IsBefore relations rel ent 0 p)
    → ArePutTo relations rels rel ent 0 list → ArePutTo relations rels (rel + 1) 0 0 list
next_relation relations rels rel ent list own so_far = record {
  each = λ k d within.
      let was = so_far.each k d within in
      record {
        placed = was.placed;
        asked = was.asked;
        before = rel_later relations rel ent 0 (get_or list k d) was.before;
      };
  ascend = so_far.ascend;
  all = λ p put. so_far.all p
      (record {
        placed = put.placed;
        asked = put.asked;
        before = ⊎_elim (λ (h : p.rel.0 < rel). below_rel h) (λ (e : p.rel.0 ≡ rel). own p put.placed put.asked e)
            (rel_next relations rel p put.before);
      });
}

pub relation_all : (relations : List Relation) (rels : List RelId) (r : Relation) (rel ent : ℕ) (list : List Premise)
    → slice_get relations rel ≡ Some r → IsRelation r → length r.entities ≤ ent → ArePutTo relations rels rel ent 0 list
    → ArePutTo relations rels (rel + 1) 0 0 list
relation_all relations rels r rel ent list is fits all so_far = next_relation relations rels rel ent list own so_far
  where
    own : (p : Premise) → IsPlaced relations p → Contains rels p.rel → p.rel.0 ≡ rel → IsBefore relations rel ent 0 p
    own p placed asked e =
        let same : placed.relation ≡ r =
        same_Some placed.relation r (sym placed.is_relation ∙ ap (slice_get relations) e ∙ is) in
        let at : slice_get r.rows p.row.0 ≡ Some placed.row =
        ap (λ (q : Relation). slice_get q.rows p.row.0) (sym same) ∙ placed.is_row in
        let of : entity_at relations p ≡ Some placed.row.entity.0 =
        ap (option_map (λ (row : Row). row.entity.0)) (row_read relations r p (ap (slice_get relations) e ∙ is) ∙ at) in
        let below : placed.row.entity.0 < length r.entities =
        subst (λ (row : Row). row.entity.0 < length r.entities) (get_or_from_slice_get r.rows p.row.0 placed.row placed.row at)
        (fits.entities p.row.0 placed.row (slice_get_within r.rows p.row.0 placed.row at)) in
        below_entity e of (omega (arith, below, all))

pub relation_not_asked : (relations : List Relation) (rels : List RelId) (rel : RelId) (list : List Premise)
    → (Contains rels rel → ⊥) → ArePutTo relations rels rel.0 0 0 list → ArePutTo relations rels (rel.0 + 1) 0 0 list
relation_not_asked relations rels rel list not so_far =
    next_relation relations rels rel.0 0 list
    (λ p placed asked e. absurd (not (subst (Contains rels) (one_rel p.rel rel e) asked)))
    so_far

-- ---- all relations

pub claims_all : (relations : List Relation) (rels : List RelId) (count : ℕ) (list : List Premise) → length relations ≤ count
    → ArePutTo relations rels count 0 0 list → AreValueClaims relations rels list
claims_all relations rels count list all so_far = record {
  each = λ k d within. (let was = so_far.each k d within in (was.placed, was.asked));
  ascend = so_far.ascend;
  all = λ p placed asked.
      let within = slice_get_within relations p.rel.0 placed.relation placed.is_relation in
      so_far.all p (record { placed = placed; asked = asked; before = below_rel (omega (arith, within, all)) });
}

-- ---- rows of an entity

pub rows_within : (table : List Row) (rows : List RowId) (ent : ℕ) → rows ≡ rows_of (entities_of table) ent
    → All (λ row. row.0 < length table) rows
rows_within table rows ent are k d below =
    let row = get_or rows k d in
    let at = slice_get-get_or rows k d below in
    let is = member_of (entities_of table) ent k row (ap (λ (l : List RowId). slice_get l k) (sym are) ∙ at) in
    let there = row_there table row.0 ent is in
    slice_get_within table row.0 there.0 there.1
