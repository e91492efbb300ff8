-- What a completion of the whole says of a part's rows, as rankings of the part.
use Rattle.std.proofs.Common.{◌≡◌, ◌<◌, ◌∙◌, ℕ, List, [], All, Contains, Some, map, length, slice_get, slice_index_or, sym, ap, subst, arith}
use Rattle.std.proofs.lemmas.List.Elements.{All-nil}
use Rattle.std.proofs.lemmas.Option.{get_or_from_slice_get, slice_get_within}
use Rattle.currency_base.specs.declared.ids.EntId.{EntId}
use Rattle.currency_base.specs.declared.ids.RowId.{RowId}
use Rattle.spec_model.specs.Spec.{Spec}
use Rattle.spec_model.specs.Completion.{Rankings, lists_of, ranking_of, HasShape, IsCompletion}
use Rattle.spec_model.specs.declared.relation.Attr.{Attr}
use Rattle.spec_model.specs.declared.relation.Relation.{Relation}
use Rattle.part_laws.specs.Parts.{Scope, Places, rows_in, entities_in, whole_row, IsPartOf}
use Rattle.part_laws.proofs.Rows.{at_place, there}
use Rattle.part_narrow.specs.Laws.{NarrowsExist}
use Rattle.part_narrow.proofs.MadeRankings.{listed, as_many, made_at, all_made, numbered, rows_back, places_within, all_contained}

-- ---- the rankings

-- the entity of the whole that one of the part is
abbrev entity_at : Places → ℕ → ℕ → EntId
entity_at n rel k = slice_index_or (entities_in n rel) k (record { 0 = 0 })

abbrev ranking_made : Places → Rankings → ℕ → ℕ → ℕ → List RowId
ranking_made n c rel attr k = map (numbered (rows_in n rel)) (ranking_of c rel attr (entity_at n rel k).0)

abbrev lists_made : Places → Rankings → ℕ → ℕ → List (List RowId)
lists_made n c rel attr = listed (ranking_made n c rel attr) (length (entities_in n rel))

abbrev relation_made : Places → Rankings → ℕ → List (List (List RowId))
relation_made n c rel = listed (lists_made n c rel) (length (slice_index_or c rel []))

abbrev narrow_made : Places → Rankings → Rankings
narrow_made n c = listed (relation_made n c) (length c)

-- what stands at each place
at_relation : (n : Places) (c : Rankings) (rel : ℕ) → rel < length c
    → slice_index_or (narrow_made n c) rel [] ≡ relation_made n c rel
at_relation n c rel below = made_at (relation_made n c) (length c) rel [] below

at_attr : (n : Places) (c : Rankings) (rel attr : ℕ) → rel < length c → attr < length (slice_index_or c rel [])
    → lists_of (narrow_made n c) rel attr ≡ lists_made n c rel attr
at_attr n c rel attr below inside =
    ap (λ (l : List (List (List RowId))). slice_index_or l attr []) (at_relation n c rel below)
    ∙ made_at (lists_made n c rel) (length (slice_index_or c rel [])) attr [] inside

at_entity : (n : Places) (c : Rankings) (rel attr k : ℕ) → rel < length c → attr < length (slice_index_or c rel [])
    → k < length (entities_in n rel) → ranking_of (narrow_made n c) rel attr k ≡ ranking_made n c rel attr k
at_entity n c rel attr k below inside under =
    ap (λ (l : List (List RowId)). slice_index_or l k []) (at_attr n c rel attr below inside)
    ∙ made_at (ranking_made n c rel attr) (length (entities_in n rel)) k [] under

-- ---- a part

record Of : Type 0 where
  s : Spec
  scope : Scope
  n : Places
  part : Spec
  c : Rankings

record IsOf (p : Of) : Type 0 where
  of : IsPartOf p.s p.scope p.n p.part
  completion : IsCompletion p.s.relations p.c

-- so many relations
relation_below : (p : Of) (rel : ℕ) (r : Relation) → IsOf p → slice_get p.s.relations rel ≡ Some r → rel < length p.c
relation_below p rel r is at =
    let below = slice_get_within p.s.relations rel r at in
    omega (arith, below, is.completion.shape.per_relation)

whole_at : (p : Of) (rel : ℕ) (new : Relation) → IsOf p → slice_get p.part.relations rel ≡ Some new
    → (r : Relation) × (slice_get p.s.relations rel ≡ Some r)
whole_at p rel new is at =
    let below = slice_get_within p.part.relations rel new at in
    there p.s.relations rel (omega (arith, below, is.of.per_relation))

-- so many attributes
attrs_of : (p : Of) (rel : ℕ) (r new : Relation) → IsOf p → slice_get p.s.relations rel ≡ Some r
    → slice_get p.part.relations rel ≡ Some new
    → length (slice_index_or p.c rel []) ≡ length new.attrs
attrs_of p rel r new is at at_new =
    is.completion.shape.per_attr rel r at ∙ sym (ap (λ (l : List Attr). length l) (is.of.relations rel r new at at_new).attrs)

shape_made : (p : Of) → IsOf p → HasShape p.part.relations (narrow_made p.n p.c)
shape_made p is = record {
  per_relation = as_many (relation_made p.n p.c) (length p.c) ∙ (is.completion.shape.per_relation ∙ sym is.of.per_relation);
  per_attr = λ rel new at_new.
      let r = whole_at p rel new is at_new in
      ap (λ (l : List (List (List RowId))). length l) (at_relation p.n p.c rel (relation_below p rel r.0 is r.1))
      ∙ (as_many (lists_made p.n p.c rel) (length (slice_index_or p.c rel [])) ∙ attrs_of p rel r.0 new is r.1 at_new);
  per_entity = λ rel new at_new attr inside.
      let r = whole_at p rel new is at_new in
      let attrs = attrs_of p rel r.0 new is r.1 at_new in
      ap (λ (l : List (List RowId)). length l)
      (at_attr p.n p.c rel attr (relation_below p rel r.0 is r.1) (omega (arith, inside, attrs)))
      ∙ (as_many (ranking_made p.n p.c rel attr) (length (entities_in p.n rel))
      ∙ sym (is.of.relations rel r.0 new r.1 at_new).per_entity);
}

-- each row of an entity's ranking is one of the part
rows_inside : (p : Of) (rel : ℕ) (r : Relation) (attr k : ℕ) (ent : EntId) → IsOf p → slice_get p.s.relations rel ≡ Some r
    → attr < length r.attrs → slice_get (entities_in p.n rel) k ≡ Some ent
    → All (Contains (rows_in p.n rel)) (ranking_of p.c rel attr ent.0)
rows_inside p rel r attr k ent is at inside is_ent =
    let among = (is.of.places.entities rel r at ent).0 (at_place (entities_in p.n rel) k ent is_ent) in
    let ranked = is.completion.ranked rel r at attr ent.0 inside among.0 in
    all_contained (Contains (rows_in p.n rel)) (ranking_of p.c rel attr ent.0)
    (λ row listed. (is.of.places.rows rel r at row).1 (record { ent = ent.0; is_of = ranked.only row listed; is_in = among.1 }))

made_inside : (p : Of) (rel attr k : ℕ) → IsOf p → rel < length p.c → attr < length (slice_index_or p.c rel [])
    → k < length (entities_in p.n rel) → All (λ row. row.0 < length (rows_in p.n rel)) (ranking_made p.n p.c rel attr k)
made_inside p rel attr k is below inside under =
    let r = there p.s.relations rel (let same = is.completion.shape.per_relation in omega (arith, below, same)) in
    let attrs = is.completion.shape.per_attr rel r.0 r.1 in
    let ent = there (entities_in p.n rel) k under in
    let first : EntId = record { 0 = 0 } in
    let same : entity_at p.n rel k ≡ ent.0 = get_or_from_slice_get (entities_in p.n rel) k ent.0 first ent.1 in
    places_within (rows_in p.n rel) (ranking_of p.c rel attr (entity_at p.n rel k).0)
    (subst (λ (e : EntId). All (Contains (rows_in p.n rel)) (ranking_of p.c rel attr e.0)) (sym same)
    (rows_inside p rel r.0 attr k ent.0 is r.1 (omega (arith, inside, attrs)) ent.1))

within_made : (p : Of) → IsOf p → (rel attr k : ℕ)
    → All (λ row. row.0 < length (rows_in p.n rel)) (ranking_of (narrow_made p.n p.c) rel attr k)
within_made p is rel attr k =
    let Few : List RowId → Type 0 = λ list. All (λ row. row.0 < length (rows_in p.n rel)) list in
    let none : Few [] = All-nil (λ (row : RowId). row.0 < length (rows_in p.n rel)) in
    all_made (λ (l : List (List (List RowId))). Few (slice_index_or (slice_index_or l attr []) k [])) (relation_made p.n p.c)
    (length p.c) rel []
    none
    (λ below.
    all_made (λ (l : List (List RowId)). Few (slice_index_or l k [])) (lists_made p.n p.c rel)
    (length (slice_index_or p.c rel [])) attr []
    none
    (λ inside.
    all_made Few (ranking_made p.n p.c rel attr) (length (entities_in p.n rel)) k []
    none
    (λ under. made_inside p rel attr k is below inside under)))

same_made : (p : Of) (rel : ℕ) (r : Relation) (attr k : ℕ) (ent : EntId) → IsOf p → slice_get p.s.relations rel ≡ Some r
    → attr < length r.attrs → slice_get (entities_in p.n rel) k ≡ Some ent
    → ranking_of p.c rel attr ent.0 ≡ map (whole_row (rows_in p.n rel)) (ranking_of (narrow_made p.n p.c) rel attr k)
same_made p rel r attr k ent is at inside is_ent =
    let below = relation_below p rel r is at in
    let attrs = is.completion.shape.per_attr rel r at in
    let first : EntId = record { 0 = 0 } in
    let same : entity_at p.n rel k ≡ ent = get_or_from_slice_get (entities_in p.n rel) k ent first is_ent in
    let under = slice_get_within (entities_in p.n rel) k ent is_ent in
    let made = at_entity p.n p.c rel attr k below (omega (arith, inside, attrs)) under in
    rows_back (rows_in p.n rel) (ranking_of p.c rel attr ent.0) (rows_inside p rel r attr k ent is at inside is_ent)
    ∙ (ap (λ (e : EntId). map (whole_row (rows_in p.n rel)) (map (numbered (rows_in p.n rel)) (ranking_of p.c rel attr e.0)))
    (sym same)
    ∙ ap (λ (l : List RowId). map (whole_row (rows_in p.n rel)) l) (sym made))

pub narrows_exist : NarrowsExist
narrows_exist s scope n part c of completion =
    let p : Of = record { s = s; scope = scope; n = n; part = part; c = c } in
    let is : IsOf p = record { of = of; completion = completion } in
    record {
      narrow = narrow_made n c;
      shape = shape_made p is;
      narrowed = record {
        within = within_made p is;
        same = λ rel r at attr inside k ent is_ent. same_made p rel r attr k ent is at inside is_ent;
      };
    }
