-- How far the lists of a part are set: none, one more, all of an attribute, all of a relation.
use Rattle.std.proofs.Common.{◌≡◌, ◌⊎◌, ◌<◌, ◌≤◌, ◌+◌, ◌∙◌, ℕ, List, [], Some, get_or, length, map, slice_get, refl, sym, ap, subst, inl, inr, ⊎_elim, arith}
use Rattle.std.proofs.lemmas.Bool.{cases_lt}
use Rattle.std.proofs.lemmas.List.{get_or_past}
use Rattle.std.proofs.lemmas.Option.{same_Some, get_or_from_slice_get, slice_get-get_or, slice_get_within}
use Rattle.currency_base.specs.declared.ids.EntId.{EntId}
use Rattle.currency_base.specs.declared.ids.RowId.{RowId}
use Rattle.part_laws.specs.Parts.{Places, rows_in, entities_in, whole_row}
use Rattle.spec_model.specs.Completion.{Rankings, lists_of, ranking_of, with_ranking}
use Rattle.part_join.specs.Steps.{AreToPut, HasRoom, ArePutSoFar, KeepsRest, Precedes}
use Rattle.part_join.specs.Steps.Precedes.{by_rel, by_attr, by_entity}
use Rattle.part_join.proofs.Placing.{list_there, list_elsewhere, rest_stays}

-- ---- what stays

pub rest_none : (n : Places) (c : Rankings) → KeepsRest n c c
rest_none n c = record {
  per_relation = refl;
  per_attr = λ rel. refl;
  per_entity = λ rel attr. refl;
  lists = λ rel attr ent beyond. refl;
}

pub rest_more : (n : Places) (old now next : Rankings) → KeepsRest n old now → KeepsRest n now next → KeepsRest n old next
rest_more n old now next first second = record {
  per_relation = second.per_relation ∙ first.per_relation;
  per_attr = λ rel. second.per_attr rel ∙ first.per_attr rel;
  per_entity = λ rel attr. second.per_entity rel attr ∙ first.per_entity rel attr;
  lists = λ rel attr ent beyond. second.lists rel attr ent beyond ∙ first.lists rel attr ent beyond;
}

room_stays : (n : Places) (narrow old new : Rankings) → HasRoom n narrow old → KeepsRest n old new → HasRoom n narrow new
room_stays n narrow old new room rest = record {
  per_relation = omega (arith, room.per_relation, rest.per_relation);
  per_attr = λ rel. omega (arith, room.per_attr rel, rest.per_attr rel);
  per_entity = λ rel attr inside k ent at. omega (arith, room.per_entity rel attr inside k ent at, rest.per_entity rel attr);
}

-- ---- none, and one more

none_before : {rel attr k : ℕ} → Precedes 0 0 0 rel attr k → ⊥
none_before (by_rel h) = omega arith
none_before (by_attr e h) = omega arith
none_before (by_entity e f h) = omega arith

pub put_none : (n : Places) (narrow c : Rankings) → HasRoom n narrow c → ArePutSoFar n narrow 0 0 0 c
put_none n narrow c room = record { room = room; put = λ rel attr k ent inside at before. absurd (none_before before) }

-- a list with an item is there
pub place_below : {A : Type 0} (lists : List (List A)) (at i : ℕ) → i < length (get_or lists at []) → at < length lists
place_below {A} lists at i inside =
    ⊎_elim
    (λ (h : at < length lists). h)
    (λ (h : length lists ≤ at). absurd (omega (arith, inside, ap (λ (l : List A). length l) (get_or_past lists at [] h))))
    (cases_lt at (length lists))

before_next : (to_rel to_attr to_k rel attr k : ℕ) → Precedes to_rel to_attr (to_k + 1) rel attr k
    → Precedes to_rel to_attr to_k rel attr k ⊎ ((rel ≡ to_rel) × (attr ≡ to_attr) × (k ≡ to_k))
before_next to_rel to_attr to_k rel attr k (by_rel h) = inl (by_rel h)
before_next to_rel to_attr to_k rel attr k (by_attr e h) = inl (by_attr e h)
before_next to_rel to_attr to_k rel attr k (by_entity e f h) =
    ⊎_elim (λ (g : k < to_k). inl (by_entity e f g)) (λ (g : to_k ≤ k). inr (e, f, omega arith)) (cases_lt k to_k)

-- the entity at a place is none of those at places before it
apart : (n : Places) (narrow : Rankings) (to_rel to_attr to_k rel attr k : ℕ) (to_ent ent : EntId) → AreToPut n narrow
    → slice_get (entities_in n to_rel) to_k ≡ Some to_ent → slice_get (entities_in n rel) k ≡ Some ent
    → Precedes to_rel to_attr to_k rel attr k → rel ≡ to_rel → attr ≡ to_attr → ent.0 ≡ to_ent.0 → ⊥
apart n narrow to_rel to_attr to_k rel attr k to_ent ent are to_at at (by_rel h) same_rel same_attr same_ent = omega arith
apart n narrow to_rel to_attr to_k rel attr k to_ent ent are to_at at (by_attr e h) same_rel same_attr same_ent = omega arith
apart n narrow to_rel to_attr to_k rel attr k to_ent ent are to_at at (by_entity e f h) same_rel same_attr same_ent =
    let here = subst (λ m. slice_get (entities_in n m) k ≡ Some ent) e at in
    omega (arith, are.ascend to_rel k to_k ent to_ent h here to_at, same_ent)

pub put_more : (n : Places) (narrow c : Rankings) (to_rel to_attr to_k : ℕ) (to_ent : EntId) → AreToPut n narrow
    → to_attr < length (get_or narrow to_rel []) → slice_get (entities_in n to_rel) to_k ≡ Some to_ent
    → ArePutSoFar n narrow to_rel to_attr to_k c
    → ArePutSoFar n narrow to_rel to_attr (to_k + 1)
    (with_ranking c to_rel to_attr to_ent.0 (map (whole_row (rows_in n to_rel)) (ranking_of narrow to_rel to_attr to_k)))
put_more n narrow c to_rel to_attr to_k to_ent are to_inside to_at so_far =
    record { room = room_stays n narrow c new so_far.room (rest_stays n c to_rel to_attr to_k to_ent list to_at); put = put }
  where
    list : List RowId
    list = map (whole_row (rows_in n to_rel)) (ranking_of narrow to_rel to_attr to_k)

    new : Rankings
    new = with_ranking c to_rel to_attr to_ent.0 list

    there : ranking_of new to_rel to_attr to_ent.0 ≡ list
    there =
        list_there c to_rel to_attr to_ent.0 list
        (omega (arith, place_below narrow to_rel to_attr to_inside, so_far.room.per_relation))
        (omega (arith, to_inside, so_far.room.per_attr to_rel)) (so_far.room.per_entity to_rel to_attr to_inside to_k
        to_ent to_at)

    here : (rel attr k : ℕ) (ent : EntId) → slice_get (entities_in n rel) k ≡ Some ent → rel ≡ to_rel → attr ≡ to_attr → k ≡ to_k
        → ranking_of new rel attr ent.0 ≡ map (whole_row (rows_in n rel)) (ranking_of narrow rel attr k)
    here rel attr k ent at e f g =
        let same : ent ≡ to_ent =
        same_Some ent to_ent (sym at ∙ (ap (λ m. slice_get (entities_in n m) k) e ∙
        (ap (slice_get (entities_in n to_rel)) g ∙ to_at))) in
        rw (e, f, g, same) there

    put : (rel attr k : ℕ) (ent : EntId) → attr < length (get_or narrow rel []) → slice_get (entities_in n rel) k ≡ Some ent
        → Precedes to_rel to_attr (to_k + 1) rel attr k
        → ranking_of new rel attr ent.0 ≡ map (whole_row (rows_in n rel)) (ranking_of narrow rel attr k)
    put rel attr k ent inside at before =
        ⊎_elim
        (λ (h : Precedes to_rel to_attr to_k rel attr k).
        list_elsewhere c to_rel to_attr to_ent.0 list rel attr ent.0
        (apart n narrow to_rel to_attr to_k rel attr k to_ent ent are to_at at h)
        ∙ so_far.put rel attr k ent inside at h)
        (λ (h : (rel ≡ to_rel) × (attr ≡ to_attr) × (k ≡ to_k)). here rel attr k ent at h.0 h.1 h.2)
        (before_next to_rel to_attr to_k rel attr k before)

-- the list that is read, made of lists in steps
pub list_read : (narrow : Rankings) (rel attr k : ℕ) (lists : List (List RowId)) (one list : List RowId)
    → lists ≡ lists_of narrow rel attr
    → slice_get lists k ≡ Some one → list ≡ one → list ≡ ranking_of narrow rel attr k
list_read narrow rel attr k lists one list are at is =
    is ∙ (sym (get_or_from_slice_get lists k one [] at) ∙ ap (λ (l : List (List RowId)). get_or l k []) are)

-- and the entity
pub entity_read : (n : Places) (rel k : ℕ) (entities : List EntId) (d : EntId) → entities ≡ entities_in n rel
    → k < length (entities_in n rel)
    → slice_get (entities_in n rel) k ≡ Some (get_or entities k d)
entity_read n rel k entities d are below = rw are (slice_get-get_or (entities_in n rel) k d below)

-- one more, as it is put
pub put_one : (n : Places) (narrow c new : Rankings) (rel attr k : ℕ) (ent : EntId) (rows list mapped : List RowId)
    → AreToPut n narrow
    → attr < length (get_or narrow rel []) → slice_get (entities_in n rel) k ≡ Some ent → ArePutSoFar n narrow rel attr k c
    → rows ≡ rows_in n rel → list ≡ ranking_of narrow rel attr k → mapped ≡ map (whole_row rows) list
    → new ≡ with_ranking c rel attr ent.0 mapped → ArePutSoFar n narrow rel attr (k + 1) new
put_one n narrow c new rel attr k ent rows list mapped are inside at so_far rows_are list_is mapped_is new_is =
    let same : mapped ≡ map (whole_row (rows_in n rel)) (ranking_of narrow rel attr k) =
    mapped_is ∙ (ap (λ (r : List RowId). map (whole_row r) list) rows_are ∙ ap (map (whole_row (rows_in n rel))) list_is) in
    rw (new_is, same) (put_more n narrow c rel attr k ent are inside at so_far)

-- ---- all of an attribute, and all of a relation

from_attr : (n : Places) (rel attr k : ℕ) → length (entities_in n rel) ≤ k → {rel' attr' k' : ℕ} → k' < length
    (entities_in n rel')
    → Precedes rel (attr + 1) 0 rel' attr' k' → Precedes rel attr k rel' attr' k'
from_attr n rel attr k all below (by_rel h) = by_rel h
from_attr n rel attr k all below (by_attr {rel = rel'} {attr = attr'} {k = k'} e h) =
    let many : length (entities_in n rel') ≡ length (entities_in n rel) = ap (λ m. length (entities_in n m)) e in
    ⊎_elim (λ (g : attr' < attr). by_attr e g) (λ (g : attr ≤ attr'). by_entity e (omega arith) (omega arith))
    (cases_lt attr' attr)
from_attr n rel attr k all below (by_entity e f h) = absurd (omega arith)

pub attribute_all : (n : Places) (narrow c : Rankings) (rel attr k : ℕ) → length (entities_in n rel) ≤ k
    → ArePutSoFar n narrow rel attr k c → ArePutSoFar n narrow rel (attr + 1) 0 c
attribute_all n narrow c rel attr k all so_far = record {
  room = so_far.room;
  put = λ rel' attr' k' ent inside at before.
      so_far.put rel' attr' k' ent inside at
      (from_attr n rel attr k all (slice_get_within (entities_in n rel') k' ent at) before);
}

from_rel : (narrow : Rankings) (rel attr : ℕ) → length (get_or narrow rel []) ≤ attr → {rel' attr' k' : ℕ}
    → attr' < length (get_or narrow rel' []) → Precedes (rel + 1) 0 0 rel' attr' k' → Precedes rel attr 0 rel' attr' k'
from_rel narrow rel attr all below (by_rel {rel = rel'} {attr = attr'} {k = k'} h) =
    ⊎_elim
    (λ (g : rel' < rel). by_rel g)
    (λ (g : rel ≤ rel').
    let same : rel' ≡ rel = omega arith in
    let many : length (get_or narrow rel' []) ≡ length (get_or narrow rel []) = ap (λ m. length (get_or narrow m [])) same in
    by_attr same (omega arith))
    (cases_lt rel' rel)
from_rel narrow rel attr all below (by_attr e h) = absurd (omega arith)
from_rel narrow rel attr all below (by_entity e f h) = absurd (omega arith)

pub relation_all : (n : Places) (narrow c : Rankings) (rel attr : ℕ) → length (get_or narrow rel []) ≤ attr
    → ArePutSoFar n narrow rel attr 0 c → ArePutSoFar n narrow (rel + 1) 0 0 c
relation_all n narrow c rel attr all so_far = record {
  room = so_far.room;
  put = λ rel' attr' k' ent inside at before. so_far.put rel' attr' k' ent inside at (from_rel narrow rel attr all inside before);
}
