-- Filled rankings have the shape of those that they are made of, and rankings of one shape are the same where their lists
-- are.
use Rattle.std.proofs.Common.{◌≡◌, ◌∙◌, ◌<◌, ◌≤◌, ◌^◌, ℕ, suc, List, [], ◌∷◌, Some, None, length, get_or, slice_get, refl, sym, ap, subst, ⊎_elim, arith}
use Rattle.std.proofs.lemmas.Bool.{cases_lt}
use Rattle.std.proofs.lemmas.List.{get_or_past}
use Rattle.std.proofs.lemmas.List.Elements.{All-get_or}
use Rattle.std.proofs.lemmas.Option.{get_or_from_slice_get, slice_get_cases, slice_get_within}
use Rattle.currency_base.specs.declared.ids.RowId.{RowId}
use Rattle.spec_model.specs.Completion.{Rankings, HasShape, lists_of, ranking_of}
use Rattle.spec_model.specs.Facts.{IsRelation, AreRelations}
use Rattle.spec_model.specs.declared.relation.Relation.{Relation}
use Rattle.completion_fill.specs.Alike.{AreAlike, IsNarrow}
use Rattle.completion_fill.specs.Filled.{merged, list_or, filled}
use Rattle.completion_fill.proofs.Merged.{length-merged, get_or-merged}

-- what holds of as many attributes as a relation has, and of none, holds of a place's
each_attr : (relations : List Relation) (c : Rankings) (rel : ℕ) (P : ℕ → Type 0) → HasShape relations c
    → ((r : Relation) → slice_get relations rel ≡ Some r → P (length r.attrs)) → (length c ≤ rel → P 0)
    → P (length (get_or c rel []))
each_attr relations c rel P shape here past =
    ⊎_elim
    (λ (w : (r : Relation) × (rel < length relations) × (slice_get relations rel ≡ Some r) × (get_or relations rel r ≡ r)).
    subst P (sym (shape.per_attr rel w.0 w.2)) (here w.0 w.2))
    (λ (w : (length relations ≤ rel) × (slice_get relations rel ≡ None)).
    let beyond : length c ≤ rel = omega (arith, shape.per_relation, w.0) in
    subst P (sym (ap length (get_or_past c rel [] beyond))) (past beyond))
    (slice_get_cases relations rel).1

-- the same of entities
each_entity : (relations : List Relation) (c : Rankings) (rel attr : ℕ) (P : ℕ → Type 0) → HasShape relations c
    → ((r : Relation) → slice_get relations rel ≡ Some r → attr < length r.attrs → P (length r.entities))
    → (length (get_or c rel []) ≤ attr → P 0) → P (length (lists_of c rel attr))
each_entity relations c rel attr P shape here past =
    let beyond : length (get_or c rel []) ≤ attr → P (length (lists_of c rel attr)) = λ (h : length (get_or c rel []) ≤ attr).
    subst P (sym (ap length (get_or_past (get_or c rel []) attr [] h))) (past h) in
    ⊎_elim
    (λ (w : (r : Relation) × (rel < length relations) × (slice_get relations rel ≡ Some r) × (get_or relations rel r ≡ r)).
    ⊎_elim
    (λ (h : attr < length w.0.attrs). subst P (sym (shape.per_entity rel w.0 w.2 attr h)) (here w.0 w.2 h))
    (λ (h : length w.0.attrs ≤ attr). beyond (omega (arith, shape.per_attr rel w.0 w.2)))
    (cases_lt attr (length w.0.attrs)))
    (λ (w : (length relations ≤ rel) × (slice_get relations rel ≡ None)).
    let none : length (get_or c rel []) ≡ 0 = ap length (get_or_past c rel [] (omega (arith, shape.per_relation, w.0))) in
    beyond (omega arith))
    (slice_get_cases relations rel).1

-- rankings that have the shape of the same relations are alike
pub alike : (relations : List Relation) (first c : Rankings) → HasShape relations first → HasShape relations c → AreAlike first c
alike relations first c of_first of_c =
    let same : length first ≡ length c = of_first.per_relation ∙ sym of_c.per_relation in
    let attrs : (rel : ℕ) → length (get_or first rel []) ≡ length (get_or c rel []) = λ rel.
    each_attr relations first rel (λ n. n ≡ length (get_or c rel [])) of_first (λ r at. sym (of_c.per_attr rel r at))
    (λ h. sym (ap length (get_or_past c rel [] (omega arith)))) in
    record {
      per_relation = same;
      per_attr = attrs;
      per_entity = λ rel attr.
          each_entity relations first rel attr (λ n. n ≡ length (lists_of c rel attr)) of_first
          (λ r at below. sym (of_c.per_entity rel r at attr below))
          (λ h. sym (ap length (get_or_past (get_or c rel []) attr [] (omega (arith, h, attrs rel)))));
    }

-- rankings that are alike have one shape
pub shape_alike : (relations : List Relation) (first c : Rankings) → HasShape relations first → AreAlike first c
    → HasShape relations c
shape_alike relations first c shape h = record {
  per_relation = sym h.per_relation ∙ shape.per_relation;
  per_attr = λ rel r at. sym (h.per_attr rel) ∙ shape.per_attr rel r at;
  per_entity = λ rel r at attr below. sym (h.per_entity rel attr) ∙ shape.per_entity rel r at attr below;
}

-- a relation of a specification is one
pub is_relation_at : (relations : List Relation) (rel : ℕ) (r : Relation) → AreRelations relations
    → slice_get relations rel ≡ Some r → IsRelation r
is_relation_at relations rel r h at =
    subst IsRelation (get_or_from_slice_get relations rel r r at)
    (All-get_or IsRelation relations rel r (slice_get_within relations rel r at) h.each)

-- the places of rankings of a specification are numbers of 32 bits
pub narrow : (relations : List Relation) (c : Rankings) → AreRelations relations → HasShape relations c → IsNarrow c
narrow relations c are shape = record {
  per_relation = omega (arith, are.few, shape.per_relation);
  per_attr = λ rel.
      each_attr relations c rel (λ n. n < 2 ^ 32) shape
      (λ r at. omega (arith, (is_relation_at relations rel r are at).few_attrs)) (λ h. omega arith);
  per_entity = λ rel attr.
      each_entity relations c rel attr (λ n. n < 2 ^ 32) shape
      (λ r at below. omega (arith, (is_relation_at relations rel r are at).few_entities)) (λ h. omega arith);
}

-- what stands at a place of filled rankings, relation by relation, then attribute by attribute, then list by list
filled_attrs : (first c : Rankings) (rel : ℕ) → AreAlike first c
    → get_or (filled first c) rel [] ≡ merged (merged list_or) (get_or first rel []) (get_or c rel [])
filled_attrs first c rel h = get_or-merged (merged (merged list_or)) first c rel [] refl h.per_relation

filled_lists : (first c : Rankings) (rel attr : ℕ) → AreAlike first c
    → lists_of (filled first c) rel attr ≡ merged list_or (lists_of first rel attr) (lists_of c rel attr)
filled_lists first c rel attr h =
    ap (λ (attrs : List (List (List RowId))). get_or attrs attr []) (filled_attrs first c rel h)
    ∙ get_or-merged (merged list_or) (get_or first rel []) (get_or c rel []) attr [] refl (h.per_attr rel)

filled_list : (first c : Rankings) (rel attr ent : ℕ) → AreAlike first c
    → ranking_of (filled first c) rel attr ent ≡ list_or (ranking_of first rel attr ent) (ranking_of c rel attr ent)
filled_list first c rel attr ent h =
    ap (λ (lists : List (List RowId)). get_or lists ent []) (filled_lists first c rel attr h)
    ∙ get_or-merged list_or (lists_of first rel attr) (lists_of c rel attr) ent [] refl (h.per_entity rel attr)

-- filled rankings are alike those that they are made of
filled_alike : (first c : Rankings) → AreAlike first c → AreAlike first (filled first c)
filled_alike first c h = record {
  per_relation = h.per_relation ∙ sym (length-merged (merged (merged list_or)) first c h.per_relation);
  per_attr = λ rel.
      h.per_attr rel
      ∙ sym (ap length (filled_attrs first c rel h) ∙ length-merged (merged list_or) (get_or first rel [])
      (get_or c rel []) (h.per_attr rel));
  per_entity = λ rel attr.
      h.per_entity rel attr
      ∙ sym (ap length (filled_lists first c rel attr h) ∙ length-merged list_or (lists_of first rel attr)
      (lists_of c rel attr) (h.per_entity rel attr));
}

-- two rankings of one shape, filled: their shape, and what stands at a place
pub filled_shape : (relations : List Relation) (first c : Rankings) → HasShape relations first → HasShape relations c
    → HasShape relations (filled first c)
filled_shape relations first c of_first of_c =
    shape_alike relations first (filled first c) of_first (filled_alike first c (alike relations first c of_first of_c))

pub filled_ranking : (relations : List Relation) (first c : Rankings) → HasShape relations first → HasShape relations
    c → (rel attr ent : ℕ)
    → ranking_of (filled first c) rel attr ent ≡ list_or (ranking_of first rel attr ent) (ranking_of c rel attr ent)
filled_ranking relations first c of_first of_c rel attr ent = filled_list first c rel attr ent
    (alike relations first c of_first of_c)

-- lists with the same items at all places
same_items : {A : Type 0} (xs ys : List (List A)) → length xs ≡ length ys → ((i : ℕ) → get_or xs i [] ≡ get_or ys i []) → xs ≡ ys
same_items [] [] e same = refl
same_items [] (y ∷ ys) e same = absurd (omega arith)
same_items (x ∷ xs) [] e same = absurd (omega arith)
same_items (x ∷ xs) (y ∷ ys) e same = let rest = same_items xs ys (omega arith)
    (λ i. same (suc i)) in let first : x ≡ y = same 0 in cc

-- rankings that are alike are the same where their lists are
same_lists : (a b : Rankings) → AreAlike a b → ((rel attr ent : ℕ) → ranking_of a rel attr ent ≡ ranking_of b rel
    attr ent) → a ≡ b
same_lists a b h same =
    same_items a b h.per_relation
    (λ rel. same_items (get_or a rel []) (get_or b rel []) (h.per_attr rel)
    (λ attr. same_items (lists_of a rel attr) (lists_of b rel attr) (h.per_entity rel attr) (λ ent. same rel attr ent)))

-- and so are rankings of one shape
pub same_rankings : (relations : List Relation) (a b : Rankings) → HasShape relations a → HasShape relations b
    → ((rel attr ent : ℕ) → ranking_of a rel attr ent ≡ ranking_of b rel attr ent) → a ≡ b
same_rankings relations a b of_a of_b same = same_lists a b (alike relations a b of_a of_b) same
