-- One entity told after another.
use Rattle.std.proofs.Common.{◌≡◌, ◌⊎◌, inl, inr, ⊎_elim, ◌+◌, ◌<◌, ◌≤◌, ℕ, List, [], ◌∷◌, ◌++◌, All, Contains, Some, length, slice_get, refl, ap, ap₂, subst, sym, ◌∙◌, arith}
use Rattle.std.proofs.lemmas.List.Elements.{All-contains, All-push, All-weaker, Contains-append_left, Contains-push}
use Rattle.std.proofs.lemmas.Bool.{cases_eq}
use Rattle.std.proofs.lemmas.Option.{get_or_from_slice_get, same_Some, slice_get_within}
use Rattle.currency_base.specs.declared.ids.EntId.{EntId}
use Rattle.currency_base.specs.declared.ids.RelId.{RelId}
use Rattle.spec_model.specs.Completion.{Rankings}
use Rattle.spec_model.specs.declared.relation.Relation.{Relation}
use Rattle.report_model.specs.declared.verdict.Current.{Current}
use Rattle.report_verify.specs.Asked.{IsOfAsked, HasValues, IsItemBefore}
use Rattle.report_model.specs.Writable.{IsItemOf}
use Rattle.current_claims.specs.Claims.{AreClaimsOf}
use Rattle.current_claims.specs.Listed.{AddsEntity, AreClaimsUpTo, HasItem, IsAhead}
use Rattle.current_claims.specs.declared.claims.Claims.{Claims}
use Rattle.current_claims.specs.declared.claims.CurrentRow.{CurrentRow}
use Rattle.current_claims.proofs.Lists.{pushed_cases}
use Rattle.current_claims.proofs.OfNeeds.{of_entity, rows_more}

-- ---- records by their parts

same_rel : (a b : RelId) → a.0 ≡ b.0 → a ≡ b
same_rel a b e = let wrap : ℕ → RelId = λ n. record { 0 = n } in ap wrap e

same_ent : (a b : EntId) → a.0 ≡ b.0 → a ≡ b
same_ent a b e = let wrap : ℕ → EntId = λ n. record { 0 = n } in ap wrap e

same_claims : (a b : Claims) → a.items ≡ b.items → a.rows ≡ b.rows → a ≡ b
same_claims a b items rows =
    let make : List Current → List CurrentRow → Claims = λ items rows. record { items = items; rows = rows } in ap₂
    make items rows

module _ (relations : List Relation) (rels : List RelId) (c : Rankings) where
  abbrev IsItemAhead : ℕ → ℕ → Current → Type 0
  IsItemAhead rel ent item = IsAhead item.rel.0 item.ent.0 rel ent

  abbrev IsAsked : Current → Type 0
  IsAsked item = IsOfAsked relations rels item.rel item.ent

  -- ---- one entity more

  module _ (rel : RelId) (ent : EntId) (old new : Claims) (asked : Contains rels rel)
      (told : AreClaimsUpTo relations rels c rel.0 ent.0 old) (adds : AddsEntity relations c rel ent old new) where
    abbrev item : Current
    item = record { rel = rel; ent = ent; values = adds.values }

    abbrev grown : Claims
    grown = record { items = old.items ++ item ∷ []; rows = old.rows ++ adds.more }

    item_asked : IsAsked item
    item_asked = record { asked = asked; relation = adds.relation; is_relation = adds.is_relation; within = adds.ent_within }

    item_valued : HasValues relations item
    item_valued = record { relation = adds.relation; is_relation = adds.is_relation; per_attr = adds.are_values.per_attr }

    item_written : IsItemOf relations item
    item_written = record {
      relation = adds.relation;
      is_relation = adds.is_relation;
      ent = adds.ent_within;
      values = record { few = adds.few; each = adds.are_values.writable };
    }

    kept : (r : RelId) (e : EntId) → HasItem old.items r e → HasItem grown.items r e
    kept r e has = record {
      item = has.item;
      listed = Contains-append_left old.items (item ∷ []) has.item has.listed;
      rel_is = has.rel_is;
      ent_is = has.ent_is;
    }

    own : (r : RelId) (e : EntId) → r.0 ≡ rel.0 → e.0 ≡ ent.0 → HasItem grown.items r e
    own r e same_r same_e = record {
      item = item;
      listed = Contains-push old.items item;
      rel_is = same_rel rel r (sym same_r);
      ent_is = same_ent ent e (sym same_e);
    }

    all_items : (r : RelId) (e : EntId) → IsOfAsked relations rels r e → IsAhead r.0 e.0 rel.0 (ent.0 + 1)
        → HasItem grown.items r e
    all_items r e of_asked ahead =
        ⊎_elim
        (λ (below : r.0 < rel.0). kept r e (told.all r e of_asked (inl below)))
        (λ (here : (r.0 ≡ rel.0) × (e.0 < ent.0 + 1)). in_relation here.0 here.1 (cases_eq e.0 ent.0))
        ahead
      where
        in_relation : r.0 ≡ rel.0 → e.0 < ent.0 + 1 → (e.0 ≡ ent.0) ⊎ (e.0 ≡ ent.0 → ⊥) → HasItem grown.items r e
        in_relation same upto (inl is) = own r e same is
        in_relation same upto (inr apart) = kept r e (told.all r e of_asked (inr (same, omega arith)))

    before_item : (a : Current) → IsItemAhead rel.0 ent.0 a → IsItemBefore a item
    before_item a ahead =
        ⊎_elim
        (λ (below : a.rel.0 < rel.0). inl below)
        (λ (here : (a.rel.0 ≡ rel.0) × (a.ent.0 < ent.0)). inr (same_rel a.rel rel here.0, here.1))
        ahead

    in_order : (i j : ℕ) (a b : Current) → i < j → slice_get grown.items i ≡ Some a → slice_get grown.items j ≡ Some
        b → IsItemBefore a b
    in_order i j a b below at there = by (pushed_cases old.items item i a at) (pushed_cases old.items item j b there)
      where
        by : (slice_get old.items i ≡ Some a) ⊎ ((i ≡ length old.items) × (item ≡ a))
            → (slice_get old.items j ≡ Some b) ⊎ ((j ≡ length old.items) × (item ≡ b)) → IsItemBefore a b
        by (inl in') (inl there') = told.ordered i j a b below in' there'
        by (inl in') (inr end) =
            let listed : Contains old.items a =
            (i, slice_get_within old.items i a in', get_or_from_slice_get old.items i a a in') in
            subst (IsItemBefore a) end.1 (before_item a (All-contains (IsItemAhead rel.0 ent.0) old.items a told.below listed))
        by (inr end) (inl there') = let is = end.0 in absurd (omega (arith, slice_get_within old.items j b there'))
        by (inr end) (inr end') = let is = end.0 in let is' = end'.0 in absurd (omega arith)

    further : (a : Current) → IsItemAhead rel.0 ent.0 a → IsItemAhead rel.0 (ent.0 + 1) a
    further a ahead =
        ⊎_elim
        (λ (below : a.rel.0 < rel.0). inl below)
        (λ (here : (a.rel.0 ≡ rel.0) × (a.ent.0 < ent.0)). let below = here.1 in inr (here.0, omega arith))
        ahead

    all_below : All (IsItemAhead rel.0 (ent.0 + 1)) grown.items
    all_below =
        All-push (IsItemAhead rel.0 (ent.0 + 1)) old.items item
        (All-weaker (IsItemAhead rel.0 ent.0) (IsItemAhead rel.0 (ent.0 + 1)) further old.items told.below)
        (inr (refl, omega arith))

    told_grown : AreClaimsUpTo relations rels c rel.0 (ent.0 + 1) grown
    told_grown = record {
      only = All-push IsAsked old.items item told.only item_asked;
      all = all_items;
      values = All-push (HasValues relations) old.items item told.values item_valued;
      ordered = in_order;
      below = all_below;
      writable = All-push (IsItemOf relations) old.items item told.writable item_written;
      rows = rows_more relations rels c old.items item old.rows adds.more told.rows
          (λ n. of_entity relations rels c rel ent adds.relation asked adds.is_relation adds.ent_within n adds.values
          adds.more adds.are_values adds.are_last);
    }

    pub listed_more : AreClaimsUpTo relations rels c rel.0 (ent.0 + 1) new
    listed_more = subst (AreClaimsUpTo relations rels c rel.0 (ent.0 + 1)) (sym is_grown) told_grown
      where
        is_grown : new ≡ grown
        is_grown = same_claims new grown adds.items_grown adds.rows_grown

  -- ---- one relation more

  -- the items that are there are all of the next place too, if each entity before it is before this one
  listed_on : (rel ent : ℕ) (claims : Claims)
      → ((r : RelId) (e : EntId) → IsOfAsked relations rels r e → IsAhead r.0 e.0 (rel + 1) 0 → IsAhead r.0 e.0 rel ent)
      → AreClaimsUpTo relations rels c rel ent claims → AreClaimsUpTo relations rels c (rel + 1) 0 claims
  listed_on rel ent claims back told = record {
    only = told.only;
    all = λ r e asked ahead. told.all r e asked (back r e asked ahead);
    values = told.values;
    ordered = told.ordered;
    below = All-weaker (IsItemAhead rel ent) (IsItemAhead (rel + 1) 0) on claims.items told.below;
    writable = told.writable;
    rows = told.rows;
  }
    where
      on : (a : Current) → IsItemAhead rel ent a → IsItemAhead (rel + 1) 0 a
      on a ahead =
          ⊎_elim
          (λ (below : a.rel.0 < rel). inl (omega arith))
          (λ (here : (a.rel.0 ≡ rel) × (a.ent.0 < ent)). let is = here.0 in inl (omega arith))
          ahead

  -- what comes before the next relation is of a relation before this one, or of this one
  ahead_next : (r rel e : ℕ) → IsAhead r e (rel + 1) 0 → (r < rel) ⊎ (r ≡ rel)
  ahead_next r rel e ahead =
      ⊎_elim
      (λ (below : r < rel + 1). by below (cases_eq r rel))
      (λ (here : (r ≡ rel + 1) × (e < 0)). let none = here.1 in absurd (omega arith))
      ahead
    where
      by : r < rel + 1 → (r ≡ rel) ⊎ (r ≡ rel → ⊥) → (r < rel) ⊎ (r ≡ rel)
      by below (inl is) = inr is
      by below (inr apart) = inl (omega arith)

  -- each entity of the relation is told
  pub listed_relation : (rel : RelId) (ent : ℕ) (claims : Claims) (r : Relation) → slice_get relations rel.0 ≡ Some r
      → length r.entities ≤ ent
      → AreClaimsUpTo relations rels c rel.0 ent claims → AreClaimsUpTo relations rels c (rel.0 + 1) 0 claims
  listed_relation rel ent claims r at whole = listed_on rel.0 ent claims back
    where
      back : (q : RelId) (e : EntId) → IsOfAsked relations rels q e → IsAhead q.0 e.0 (rel.0 + 1) 0 → IsAhead q.0 e.0 rel.0 ent
      back q e asked ahead =
          ⊎_elim
          (λ (below : q.0 < rel.0). inl below)
          (λ (is : q.0 ≡ rel.0).
          let there : slice_get relations q.0 ≡ Some r = ap (slice_get relations) is ∙ at in
          let same : asked.relation ≡ r = same_Some asked.relation r (sym asked.is_relation ∙ there) in
          let within : e.0 < length r.entities = subst (λ (p : Relation). e.0 < length p.entities) same asked.within in
          inr (is, omega arith))
          (ahead_next q.0 rel.0 e.0 ahead)

  -- the relation is not asked about
  pub listed_past : (rel : RelId) (claims : Claims) → (Contains rels rel → ⊥) → AreClaimsUpTo relations rels c rel.0 0 claims
      → AreClaimsUpTo relations rels c (rel.0 + 1) 0 claims
  listed_past rel claims not_asked = listed_on rel.0 0 claims back
    where
      back : (q : RelId) (e : EntId) → IsOfAsked relations rels q e → IsAhead q.0 e.0 (rel.0 + 1) 0 → IsAhead q.0 e.0 rel.0 0
      back q e asked ahead =
          ⊎_elim
          (λ (below : q.0 < rel.0). inl below)
          (λ (is : q.0 ≡ rel.0). absurd (not_asked (subst (Contains rels) (same_rel q rel is) asked.asked)))
          (ahead_next q.0 rel.0 e.0 ahead)

  -- ---- all relations

  pub listed_all : (rel : ℕ) (claims : Claims) → length relations ≤ rel → AreClaimsUpTo relations rels c rel 0 claims
      → AreClaimsOf relations rels c claims
  listed_all rel claims whole told = record {
    items = record { only = told.only; all = each; values = told.values; ordered = told.ordered };
    writable = told.writable;
    rows = told.rows;
  }
    where
      each : (r : RelId) (e : EntId) → IsOfAsked relations rels r e → (item : Current) × Contains claims.items item ×
          (item.rel ≡ r) × (item.ent ≡ e)
      each r e asked =
          let within : r.0 < length relations = slice_get_within relations r.0 asked.relation asked.is_relation in
          let has = told.all r e asked (inl (omega arith)) in
          (has.item, has.listed, has.rel_is, has.ent_is)
