-- Items that are met one after another: in the end these are all, or they are not those of the asked relations.
use Rattle.std.proofs.Common.{◌≡◌, ◌⊎◌, inl, inr, ◌+◌, ◌<◌, ◌==◌, ℕ, true, false, eq-eqb, List, Contains, Some, length, slice_get, refl, sym, ap, ◌∙◌, subst, ⊎_elim, arith}
use Rattle.std.proofs.lemmas.Bool.{cases_eq, cases_order, eqb-true, false≢true}
use Rattle.std.proofs.lemmas.Map.Keys.{any_passes_from_place}
use Rattle.std.proofs.lemmas.Option.{same_Some, slice_get_within}
use Rattle.axiom_laws.proofs.Sound.{found}
use Rattle.axiom_laws.proofs.Standing.{all_at}
use Rattle.currency_base.specs.declared.ids.EntId.{EntId}
use Rattle.currency_base.specs.declared.ids.RelId.{RelId}
use Rattle.report_model.specs.declared.verdict.Current.{Current}
use Rattle.report_verify.proofs.Fronts.{all_from, at_contains, contains_at, item_at}
use Rattle.report_verify.specs.Asked.{AreItemsOf, HasValues, IsItemBefore, IsOfAsked}
use Rattle.report_verify.specs.Shaped.{AreMet, IsAmong, IsBelow, IsItemOf, IsMet, is_asked}
use Rattle.spec_model.specs.declared.relation.Relation.{Relation}

-- ---- ids and lists

abbrev rel_of : ℕ → RelId
rel_of n = record { 0 = n }

abbrev ent_of : ℕ → EntId
ent_of n = record { 0 = n }

rel_is : (a b : RelId) → a.0 ≡ b.0 → a ≡ b
rel_is a b e = ap rel_of e

ent_is : (a b : EntId) → a.0 ≡ b.0 → a ≡ b
ent_is a b e = ap ent_of e

-- a relation that is asked about is found so
asked_in : (rels : List RelId) (rel : RelId) → is_asked rels rel.0 ≡ true → Contains rels rel
asked_in rels rel e =
    let one = found (λ (r : RelId). r.0 == rel.0) rels e in
    subst (Contains rels) (rel_is one.0 rel (eqb-true one.0.0 rel.0 one.2)) one.1

in_asked : (rels : List RelId) (rel : RelId) → Contains rels rel → is_asked rels rel.0 ≡ true
in_asked rels rel there =
    let at = at_contains rels rel there in
    any_passes_from_place (λ (r : RelId). r.0 == rel.0) rels at.0 rel at.1 (eq-eqb rel.0 rel.0 refl)

-- ---- places

-- no item is before itself
not_before_itself : (a b : Current) → a.rel ≡ b.rel → a.ent ≡ b.ent → IsItemBefore a b → ⊥
not_before_itself a b rel ent (inl below) = let same = ap (λ (r : RelId). r.0) rel in absurd (omega arith)
not_before_itself a b rel ent (inr below) =
    let same = ap (λ (e : EntId). e.0) ent in let less = below.1 in absurd (omega arith)

-- an item before one that is that of an entity is below this
below_from : (rel ent : ℕ) (a b : Current) → b.rel.0 ≡ rel → b.ent.0 ≡ ent → IsItemBefore a b → IsBelow rel ent a.rel a.ent
below_from rel ent a b of_rel of_ent (inl less) = inl (omega arith)
below_from rel ent a b of_rel of_ent (inr less) =
    let same = ap (λ (r : RelId). r.0) less.0 in let under = less.1 in inr (same ∙ of_rel, omega arith)

-- and the way back
before_from : (rel ent : ℕ) (a b : Current) → b.rel.0 ≡ rel → b.ent.0 ≡ ent → IsBelow rel ent a.rel a.ent → IsItemBefore a b
before_from rel ent a b of_rel of_ent (inl less) = inl (omega arith)
before_from rel ent a b of_rel of_ent (inr less) =
    let under = less.1 in inr (rel_is a.rel b.rel (less.0 ∙ sym of_rel), omega arith)

not_below_itself : (rel ent : ℕ) (r : RelId) (e : EntId) → r.0 ≡ rel → e.0 ≡ ent → IsBelow rel ent r e → ⊥
not_below_itself rel ent r e of_rel of_ent (inl less) = absurd (omega arith)
not_below_itself rel ent r e of_rel of_ent (inr less) = let under = less.1 in absurd (omega arith)

-- what is below an entity is below the next
below_next : (rel ent : ℕ) (r : RelId) (e : EntId) → IsBelow rel ent r e → IsBelow rel (ent + 1) r e
below_next rel ent r e (inl less) = inl less
below_next rel ent r e (inr less) = let under = less.1 in inr (less.0, omega arith)

-- what is below an entity of a relation is below the next relation
below_rel : (rel ent : ℕ) (r : RelId) (e : EntId) → IsBelow rel ent r e → IsBelow (rel + 1) 0 r e
below_rel rel ent r e (inl less) = inl (omega arith)
below_rel rel ent r e (inr less) = let same = less.0 in inl (omega arith)

-- what is below the next entity is this one or below it
next_cases : (rel ent : ℕ) (r : RelId) (e : EntId) → IsBelow rel (ent + 1) r e → IsBelow rel ent r e ⊎ ((r.0 ≡ rel) × (e.0 ≡ ent))
next_cases rel ent r e (inl less) = inl (inl less)
next_cases rel ent r e (inr less) =
    let under = less.1 in
    ⊎_elim (λ (same : e.0 ≡ ent). inr (less.0, same)) (λ (apart : e.0 ≡ ent → ⊥). inl (inr (less.0, omega arith)))
    (cases_eq e.0 ent)

-- what is below the next relation is of this one or below it
rel_cases : (rel : ℕ) (r : RelId) (e : EntId) → IsBelow (rel + 1) 0 r e → (r.0 < rel) ⊎ (r.0 ≡ rel)
rel_cases rel r e (inl less) =
    ⊎_elim (λ (same : r.0 ≡ rel). inr same) (λ (apart : r.0 ≡ rel → ⊥). inl (omega arith)) (cases_eq r.0 rel)
rel_cases rel r e (inr less) = let under = less.1 in absurd (omega arith)

module _ (relations : List Relation) (rels : List RelId) (items : List Current) where
  -- ---- the beginning

  pub met_none : AreMet relations rels items 0 0 0
  met_none = record {
    within = omega arith;
    only = λ k item below at. absurd (omega arith);
    all = λ r e asked below. absurd (none r e below);
    ordered = λ i j a b before below at at'. absurd (omega arith);
  }
    where
      none : (r : RelId) (e : EntId) → IsBelow 0 0 r e → ⊥
      none r e (inl less) = absurd (omega arith)
      none r e (inr less) = let under = less.1 in absurd (omega arith)

  -- ---- one more

  module _ (rel ent at : ℕ) (relation : Relation) (is_relation : slice_get relations rel ≡ Some relation)
      (asked : is_asked rels rel ≡ true) (within : ent < length relation.entities)
      (met : AreMet relations rels items rel ent at) where
    -- the entity is one of an asked relation
    here_asked : IsOfAsked relations rels (rel_of rel) (ent_of ent)
    here_asked = record {
      asked = asked_in rels (rel_of rel) asked;
      relation = relation;
      is_relation =
          is_relation;
      within = within;
    }

    pub met_more : (item : Current) → slice_get items at ≡ Some item → IsItemOf relation rel ent item
        → AreMet relations rels items rel (ent + 1) (at + 1)
    met_more item here is = record {
      within = let inside = slice_get_within items at item here in omega arith;
      only = only;
      all = all;
      ordered = ordered;
    }
      where
        same_rel : item.rel ≡ rel_of rel
        same_rel = rel_is item.rel (rel_of rel) is.of_rel

        same_ent : item.ent ≡ ent_of ent
        same_ent = ent_is item.ent (ent_of ent) is.of_ent

        item_met : IsMet relations rels rel (ent + 1) item
        item_met = record {
          asked = subst (λ r. IsOfAsked relations rels r item.ent) (sym same_rel)
              (subst (IsOfAsked relations rels (rel_of rel)) (sym same_ent) here_asked);
          values = record {
            relation = relation;
            is_relation = ap (slice_get relations) is.of_rel
                ∙ is_relation;
            per_attr = is.per_attr;
          };
          below = let e = is.of_ent in inr (is.of_rel, omega arith);
        }

        only : (k : ℕ) (x : Current) → k < at + 1 → slice_get items k ≡ Some x → IsMet relations rels rel (ent + 1) x
        only k x below found =
            ⊎_elim
            (λ (same : k ≡ at).
            let one : item ≡ x = same_Some item x (sym here ∙ ap (slice_get items) (sym same) ∙ found) in
            subst (IsMet relations rels rel (ent + 1)) one item_met)
            (λ (apart : k ≡ at → ⊥).
            let was = met.only k x (omega arith) found in
            record { asked = was.asked; values = was.values; below = below_next rel ent x.rel x.ent was.below })
            (cases_eq k at)

        among : (r : RelId) (e : EntId) → IsAmong items at r e → IsAmong items (at + 1) r e
        among r e one = record {
          place = one.place;
          item = one.item;
          early = let early = one.early in omega arith;
          here = one.here;
          of_rel = one.of_rel;
          of_ent = one.of_ent;
        }

        all : (r : RelId) (e : EntId) → IsOfAsked relations rels r e → IsBelow rel (ent + 1) r e → IsAmong items (at + 1) r e
        all r e of_asked below =
            ⊎_elim
            (λ (under : IsBelow rel ent r e). among r e (met.all r e of_asked under))
            (λ (same : (r.0 ≡ rel) × (e.0 ≡ ent)). record {
              place = at;
              item = item;
              early = omega arith;
              here = here;
              of_rel = rel_is item.rel r (is.of_rel ∙ sym same.0);
              of_ent = ent_is item.ent e (is.of_ent ∙ sym same.1);
            })
            (next_cases rel ent r e below)

        ordered : (i j : ℕ) (a b : Current) → i < j → j < at + 1 → slice_get items i ≡ Some a → slice_get items j ≡
            Some b → IsItemBefore a b
        ordered i j a b before below first second =
            ⊎_elim
            (λ (same : j ≡ at).
            let one : item ≡ b = same_Some item b (sym here ∙ ap (slice_get items) (sym same) ∙ second) in
            let was = met.only i a (omega arith) first in
            subst (IsItemBefore a) one (before_from rel ent a item is.of_rel is.of_ent was.below))
            (λ (apart : j ≡ at → ⊥). met.ordered i j a b before (omega arith) first second)
            (cases_eq j at)

    -- ---- an item that is another

    -- the items are not those of the asked relations, where the next is not that of the next entity
    pub met_refuses : ((item : Current) → slice_get items at ≡ Some item → IsItemOf relation rel ent item → ⊥)
        → AreItemsOf relations rels items → ⊥
    met_refuses other are =
        let one = are.all (rel_of rel) (ent_of ent) here_asked in
        let item = one.0 in
        let place = at_contains items item one.1 in
        let of_rel : item.rel.0 ≡ rel = ap (λ (r : RelId). r.0) one.2 in
        let of_ent : item.ent.0 ≡ ent = ap (λ (e : EntId). e.0) one.3 in
        ⊎_elim
        (λ (same : place.0 ≡ at).
        let values = all_at (HasValues relations) items place.0 item are.values place.1 in
        let own : values.relation ≡ relation =
        same_Some values.relation relation (sym values.is_relation ∙ ap (slice_get relations) of_rel ∙ is_relation) in
        other item (ap (slice_get items) (sym same) ∙ place.1)
        record { of_rel = of_rel; of_ent = of_ent; per_attr = values.per_attr ∙ ap (λ (r : Relation). length r.attrs) own })
        (λ apart.
        ⊎_elim
        (λ (early : place.0 < at).
        not_below_itself rel ent item.rel item.ent of_rel of_ent (met.only place.0 item early place.1).below)
        (λ (late : at < place.0). skipped item place.0 place.1 of_rel of_ent late)
        apart)
        (cases_order place.0 at)
      where
        -- an item that stands before that of the entity is met twice
        skipped : (item : Current) (place : ℕ) → slice_get items place ≡ Some item → item.rel.0 ≡ rel
            → item.ent.0 ≡ ent → at < place → ⊥
        skipped item place found of_rel of_ent late =
            let inside = slice_get_within items place item found in
            let next = item_at items at (omega arith) in
            let before = are.ordered at place next.0 item late next.1 found in
            let under = below_from rel ent next.0 item of_rel of_ent before in
            let asked_next = all_at (λ (x : Current). IsOfAsked relations rels x.rel x.ent) items at next.0 are.only next.1 in
            let twice = met.all next.0.rel next.0.ent asked_next under in
            not_before_itself twice.item next.0 twice.of_rel twice.of_ent
            (are.ordered twice.place at twice.item next.0 twice.early twice.here next.1)

  -- ---- the next relation

  pub met_next : (rel at : ℕ) (relation : Relation) → slice_get relations rel ≡ Some relation
      → AreMet relations rels items rel (length relation.entities) at → AreMet relations rels items (rel + 1) 0 at
  met_next rel at relation is_relation met = record {
    within = met.within;
    only = λ k item below found.
        let was = met.only k item below found in
        record {
          asked = was.asked;
          values = was.values;
          below = below_rel rel (length relation.entities) item.rel
              item.ent was.below;
        };
    all = λ r e of_asked below.
        ⊎_elim
        (λ (less : r.0 < rel). met.all r e of_asked (inl less))
        (λ (same : r.0 ≡ rel). met.all r e of_asked (inr (same, inside r e of_asked same)))
        (rel_cases rel r e below);
    ordered = met.ordered;
  }
    where
      inside : (r : RelId) (e : EntId) → IsOfAsked relations rels r e → r.0 ≡ rel → e.0 < length relation.entities
      inside r e of_asked same =
          let own : of_asked.relation ≡ relation =
          same_Some of_asked.relation relation (sym of_asked.is_relation ∙ ap (slice_get relations) same ∙ is_relation) in
          subst (λ (q : Relation). e.0 < length q.entities) own of_asked.within

  pub met_skip : (rel at : ℕ) → is_asked rels rel ≡ false → AreMet relations rels items rel 0 at
      → AreMet relations rels items (rel + 1) 0 at
  met_skip rel at unasked met = record {
    within = met.within;
    only = λ k item below found.
        let was = met.only k item below found in
        record { asked = was.asked; values = was.values; below = below_rel rel 0 item.rel item.ent was.below };
    all = λ r e of_asked below.
        ⊎_elim
        (λ (less : r.0 < rel). met.all r e of_asked (inl less))
        (λ (same : r.0 ≡ rel).
        let asked = in_asked rels r of_asked.asked in
        absurd (false≢true (sym unasked ∙ ap (is_asked rels) (sym same) ∙ asked)))
        (rel_cases rel r e below);
    ordered = met.ordered;
  }

  -- ---- the end

  pub met_all : (at : ℕ) → at ≡ length items → AreMet relations rels items (length relations) 0 at
      → AreItemsOf relations rels items
  met_all at whole met = record {
    only = all_from (λ (item : Current). IsOfAsked relations rels item.rel item.ent) items
        (λ i item found. (met.only i item (early i item found) found).asked);
    all = λ rel ent of_asked.
        let one = met.all rel ent of_asked (inl (slice_get_within relations rel.0 of_asked.relation of_asked.is_relation)) in
        (one.item, contains_at items one.place one.item one.here, one.of_rel, one.of_ent);
    values = all_from (HasValues relations) items (λ i item found. (met.only i item (early i item found) found).values);
    ordered = λ i j a b before first second. met.ordered i j a b before (early j b second) first second;
  }
    where
      early : (i : ℕ) (item : Current) → slice_get items i ≡ Some item → i < at
      early i item found = let inside = slice_get_within items i item found in omega arith

  pub met_fewer : (at : ℕ) → (at ≡ length items → ⊥) → AreMet relations rels items (length relations) 0 at
      → AreItemsOf relations rels items → ⊥
  met_fewer at fewer met are =
      let most = met.within in
      let next = item_at items at (omega arith) in
      let of_asked = all_at (λ (x : Current). IsOfAsked relations rels x.rel x.ent) items at next.0 are.only next.1 in
      let twice = met.all next.0.rel next.0.ent of_asked
      (inl (slice_get_within relations next.0.rel.0 of_asked.relation of_asked.is_relation)) in
      not_before_itself twice.item next.0 twice.of_rel twice.of_ent
      (are.ordered twice.place at twice.item next.0 twice.early twice.here next.1)
