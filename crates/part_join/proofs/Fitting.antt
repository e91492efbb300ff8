-- Completions of a part fit it, and what they are joined with.
use Rattle.std.proofs.Common.{◌≡◌, ◌<◌, ◌≤◌, ◌∙◌, ℕ, zero, suc, true, List, [], ◌∷◌, All, Contains, Some, get_or, length, slice_get, slice_index_or, sym, ap, subst, ⊎_elim, arith}
use Rattle.std.proofs.lemmas.Bool.{cases_lt}
use Rattle.std.proofs.lemmas.List.{get_or_past}
use Rattle.std.proofs.lemmas.List.Elements.{All-nil, All-weaker, All-contains_itself}
use Rattle.std.proofs.lemmas.Option.{none-some, slice_get_within}
use Rattle.currency_base.specs.declared.ids.RowId.{RowId}
use Rattle.currency_base.specs.declared.row.Row.{Row}
use Rattle.partial_orders.specs.Pairs.{entity_of}
use Rattle.part_laws.specs.Parts.{Scope, Places, rows_in, entities_in, ArePlacesOf, AreSameBeyond}
use Rattle.part_laws.proofs.Rows.{all_at, at_place, there}
use Rattle.spec_model.specs.Completion.{Rankings, HasShape, lists_of, ranking_of}
use Rattle.spec_model.specs.Facts.{IsRelation, AreRelations}
use Rattle.spec_model.specs.declared.relation.Attr.{Attr}
use Rattle.spec_model.specs.declared.relation.Relation.{Relation}
use Rattle.part_join.specs.Fits.{FitsPart, CompletionsFit}
use Rattle.part_join.specs.Joined.{IsJoined}
use Rattle.part_join.specs.Steps.{AreToPut, HasRoom, ArePutSoFar, KeepsRest}
use Rattle.part_join.specs.Steps.Precedes.{by_rel}
use Rattle.part_join.proofs.Setting.{place_below}

-- ---- what fits a part is to be set in a completion of the whole

-- a relation that rankings have lists of
relation_there : (relations : List Relation) (n : Places) (narrow : Rankings) (rel : ℕ) → FitsPart relations n narrow
    → rel < length narrow
    → (r : Relation) × (slice_get relations rel ≡ Some r)
relation_there relations n narrow rel fits below = there relations rel (omega (arith, below, fits.per_relation))

pub to_put : (relations : List Relation) (scope : Scope) (n : Places) (narrow : Rankings) → AreRelations relations
    → ArePlacesOf relations scope n → FitsPart relations n narrow → AreToPut n narrow
to_put relations scope n narrow facts places fits = record {
  rows_per_relation = omega (arith, places.rows_per_relation, fits.per_relation);
  entities_per_relation = omega (arith, places.entities_per_relation, fits.per_relation);
  few_attrs = λ rel below.
      let r = relation_there relations n narrow rel fits below in
      omega (arith, (all_at IsRelation relations rel r.0 facts.each r.1).few_attrs, fits.per_attr rel r.0 r.1);
  per_entity = λ rel attr inside.
      let r = relation_there relations n narrow rel fits (place_below narrow rel attr inside) in
      fits.per_entity rel r.0 r.1 attr (omega (arith, inside, fits.per_attr rel r.0 r.1));
  within = fits.within;
  ascend = places.entities_ascend;
}

pub has_room : (relations : List Relation) (scope : Scope) (n : Places) (narrow c : Rankings) → ArePlacesOf relations scope n
    → FitsPart relations n narrow → HasShape relations c → HasRoom n narrow c
has_room relations scope n narrow c places fits shape = record {
  per_relation = omega (arith, fits.per_relation, shape.per_relation);
  per_attr = λ rel.
      ⊎_elim
      (λ (h : rel < length narrow).
      let r = relation_there relations n narrow rel fits h in omega (
        arith,
        fits.per_attr rel r.0 r.1,
        shape.per_attr rel r.0 r.1,
      ))
      (λ (h : length narrow ≤ rel). omega (arith, ap length (get_or_past narrow rel [] h)))
      (cases_lt rel (length narrow));
  per_entity = λ rel attr inside k ent at.
      let r = relation_there relations n narrow rel fits (place_below narrow rel attr inside) in
      let attr_in : attr < length r.0.attrs = omega (arith, inside, fits.per_attr rel r.0 r.1) in
      let below = ((places.entities rel r.0 r.1 ent).0 (at_place (entities_in n rel) k ent at)).0 in
      omega (arith, below, shape.per_entity rel r.0 r.1 attr attr_in);
}

-- ---- what is set is joined

shape_stays : (relations : List Relation) (n : Places) (old new : Rankings) → HasShape relations old → KeepsRest n old new
    → HasShape relations new
shape_stays relations n old new shape rest = record {
  per_relation = rest.per_relation ∙ shape.per_relation;
  per_attr = λ rel r at. rest.per_attr rel ∙ shape.per_attr rel r at;
  per_entity = λ rel r at attr inside. rest.per_entity rel attr ∙ shape.per_entity rel r at attr inside;
}

same_beyond : (relations : List Relation) (scope : Scope) (n : Places) (old new : Rankings) → ArePlacesOf relations scope n
    → KeepsRest n old new → AreSameBeyond relations scope new old
same_beyond relations scope n old new places rest rel r at attr ent inside below beyond =
    rest.lists rel attr ent
    (λ k e is same.
    beyond (subst (λ m. scope rel m ≡ true) same ((places.entities rel r at e).0 (at_place (entities_in n rel) k e is)).1))

pub is_joined : (relations : List Relation) (n : Places) (other narrow c : Rankings) → HasShape relations other
    → FitsPart relations n narrow → ArePutSoFar n narrow (length relations) 0 0 c → KeepsRest n other c
    → IsJoined relations n other narrow c
is_joined relations n other narrow c shape fits put rest = record {
  shape = shape_stays relations n other c shape rest;
  narrowed = record {
    within = fits.within;
    same = λ rel r at attr inside k ent is.
        put.put rel attr k ent (omega (arith, inside, fits.per_attr rel r at)) is (by_rel (slice_get_within relations rel r at));
  };
  beyond = λ scope places. same_beyond relations scope n other c places rest;
}

-- ---- a completion of a part fits it

-- what holds of the lists that are there, holds of each
each_list : (relations : List Relation) (c : Rankings) (rel attr k : ℕ) (P : List RowId → Type 0) → HasShape relations c → P []
    → ((r : Relation) → slice_get relations rel ≡ Some r → attr < length r.attrs → k < length r.entities
    → P (ranking_of c rel attr k))
    → P (ranking_of c rel attr k)
each_list relations c rel attr k P shape none here =
    ⊎_elim
    (λ (in_lists : k < length (lists_of c rel attr)).
    let in_attrs : attr < length (get_or c rel []) = place_below (get_or c rel []) attr k in_lists in
    let below : rel < length c = place_below c rel attr in_attrs in
    let r = there relations rel (omega (arith, below, shape.per_relation)) in
    let inside : attr < length r.0.attrs = omega (arith, in_attrs, shape.per_attr rel r.0 r.1) in
    here r.0 r.1 inside (omega (arith, in_lists, shape.per_entity rel r.0 r.1 attr inside)))
    (λ (past : length (lists_of c rel attr) ≤ k). subst P (sym (get_or_past (lists_of c rel attr) k [] past)) none)
    (cases_lt k (length (lists_of c rel attr)))

-- a row that stands for an entity is there
row_below : (rows : List Row) (n ent : ℕ) → entity_of rows n ≡ Some ent → n < length rows
row_below [] n ent of = absurd (none-some ent of)
row_below (row ∷ rows) zero ent of = omega arith
row_below (row ∷ rows) (suc n) ent of = let below = row_below rows n ent of in omega (arith, below)

pub completions_fit : CompletionsFit
completions_fit s scope n part narrow of completion =
    record { per_relation = shape.per_relation ∙ of.per_relation; per_attr = per_attr; per_entity = per_entity; within = within }
  where
    shape : HasShape part.relations narrow
    shape = completion.shape

    part_there : (rel : ℕ) (r : Relation) → slice_get s.relations rel ≡ Some r
        → (new : Relation) × (slice_get part.relations rel ≡ Some new)
    part_there rel r at =
        there part.relations rel (let below = slice_get_within s.relations rel r at in omega (arith, below, of.per_relation))

    per_attr : (rel : ℕ) (r : Relation) → slice_get s.relations rel ≡ Some r
        → length (slice_index_or narrow rel []) ≡ length r.attrs
    per_attr rel r at =
        let new = part_there rel r at in
        shape.per_attr rel new.0 new.1 ∙ ap (λ (l : List Attr). length l) (of.relations rel r new.0 at new.1).attrs

    per_entity : (rel : ℕ) (r : Relation) → slice_get s.relations rel ≡ Some r → (attr : ℕ) → attr < length r.attrs
        → length (lists_of narrow rel attr) ≡ length (entities_in n rel)
    per_entity rel r at attr inside =
        let new = part_there rel r at in
        let is = of.relations rel r new.0 at new.1 in
        shape.per_entity rel new.0 new.1 attr (omega (arith, inside, ap (λ (l : List Attr). length l) is.attrs)) ∙ is.per_entity

    within : (rel attr k : ℕ) → All (λ row. row.0 < length (rows_in n rel)) (ranking_of narrow rel attr k)
    within rel attr k =
        each_list part.relations narrow rel attr k (All Below) shape (All-nil Below)
        (λ new at inside below.
        let r = there s.relations rel (let there = slice_get_within part.relations rel new at in omega
        (arith, there, of.per_relation)) in
        let is = of.relations rel r.0 new r.1 at in
        let list = ranking_of narrow rel attr k in
        All-weaker (Contains list) Below
        (λ row c.
        let in_part = row_below new.rows row.0 k ((completion.ranked rel new at attr k inside below).only row c) in
        omega (arith, in_part, is.per_row))
        list (All-contains_itself list))
      where
        Below : RowId → Type 0
        Below row = row.0 < length (rows_in n rel)
