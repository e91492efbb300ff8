-- What filling leaves, place after place.
use Rattle.std.proofs.Common.{◌≡◌, ◌∙◌, ◌<◌, ◌+◌, ℕ, zero, suc, List, [], ◌∷◌, length, take, get_or, set, length-set, refl, sym, ap, arith}
use Rattle.std.proofs.lemmas.List.{get_or-set_same, set-get_or}
use Rattle.currency_base.specs.declared.ids.RowId.{RowId}
use Rattle.spec_model.specs.Completion.{Rankings, lists_of, ranking_of, with_ranking}
use Rattle.completion_fill.specs.Alike.{AreAlike, with_lists}
use Rattle.completion_fill.specs.Filled.{merged, list_or, filled}
use Rattle.completion_fill.proofs.Merged.{merged_none, merged_more, set_twice}

-- no row comes from an empty list
list_or_none : (first list : List RowId) → length first ≡ 0 → list_or first list ≡ list
list_or_none [] [] none = refl
list_or_none [] (row ∷ rows) none = refl
list_or_none (other ∷ others) list none = absurd (omega arith)

-- a list that is replaced by itself
same_put : (c : Rankings) (rel attr ent : ℕ) → with_ranking c rel attr ent (ranking_of c rel attr ent) ≡ c
same_put c rel attr ent =
    ap (λ (lists : List (List RowId)). set c rel (set (get_or c rel []) attr lists)) (set-get_or (lists_of c rel attr) ent [])
    ∙ ap (λ (attrs : List (List (List RowId))). set c rel attrs) (set-get_or (get_or c rel []) attr []) ∙ set-get_or c rel []

-- a place where there is no row to be had
pub stays : (first c : Rankings) (rel attr ent : ℕ) → length (ranking_of first rel attr ent) ≡ 0
    → c ≡ with_ranking c rel attr ent (list_or (ranking_of first rel attr ent) (ranking_of c rel attr ent))
stays first c rel attr ent none =
    rw (list_or_none (ranking_of first rel attr ent) (ranking_of c rel attr ent) none) (sym (same_put c rel attr ent))

-- a list of lists, one of them replaced by another of its length
same_lengths : {A : Type 0} (xs : List (List A)) (i j : ℕ) (y : List A) → length y ≡ length (get_or xs i [])
    → length (get_or (set xs i y) j []) ≡ length (get_or xs j [])
same_lengths [] i j y e = refl
same_lengths (x ∷ xs) zero zero y e = e
same_lengths (x ∷ xs) zero (suc j) y e = refl
same_lengths (x ∷ xs) (suc i) zero y e = refl
same_lengths (x ∷ xs) (suc i) (suc j) y e = same_lengths xs i j y e

-- the same one level further in
same_inner : {A : Type 0} (c : List (List (List A))) (rel rel' attr attr' : ℕ) (y : List A) → length y ≡ length
    (get_or (get_or c rel []) attr [])
    → length (get_or (get_or (set c rel (set (get_or c rel []) attr y)) rel' []) attr' []) ≡ length
    (get_or (get_or c rel' []) attr' [])
same_inner [] rel rel' attr attr' y e = refl
same_inner (x ∷ c) zero zero attr attr' y e = same_lengths x attr attr' y e
same_inner (x ∷ c) zero (suc rel') attr attr' y e = refl
same_inner (x ∷ c) (suc rel) zero attr attr' y e = refl
same_inner (x ∷ c) (suc rel) (suc rel') attr attr' y e = same_inner c rel rel' attr attr' y e

-- rankings stay of one shape where a list is replaced
pub alike_with : (first c : Rankings) (rel attr ent : ℕ) (list : List RowId) → AreAlike first c → AreAlike first
    (with_ranking c rel attr ent list)
alike_with first c rel attr ent list h = record {
  per_relation = h.per_relation ∙ sym (length-set _ _ _);
  per_attr = λ rel'. h.per_attr rel' ∙ sym (same_lengths c rel rel' _ (length-set _ _ _));
  per_entity = λ rel' attr'. h.per_entity rel' attr' ∙ sym (same_inner c rel rel' attr attr' _ (length-set _ _ _));
}

-- the lists that were put in the place of others
lists_put : (c : Rankings) (rel attr : ℕ) (lists : List (List RowId)) → rel < length c → attr < length (get_or c rel [])
    → lists_of (with_lists c rel attr lists) rel attr ≡ lists
lists_put c rel attr lists in_c in_attrs =
    ap (λ (attrs : List (List (List RowId))). get_or attrs attr [])
    (get_or-set_same c rel (set (get_or c rel []) attr lists) [] in_c)
    ∙ get_or-set_same (get_or c rel []) attr lists [] in_attrs

-- of two that are put there the second stay
put_twice : (c : Rankings) (rel attr : ℕ) (lists others : List (List RowId)) → rel < length c
    → with_lists (with_lists c rel attr lists) rel attr others ≡ with_lists c rel attr others
put_twice c rel attr lists others in_c =
    set_twice c rel (set (get_or c rel []) attr lists) _
    ∙ ap (λ (attrs : List (List (List RowId))). set c rel (set attrs attr others))
    (get_or-set_same c rel (set (get_or c rel []) attr lists) [] in_c)
    ∙ ap (λ (attrs : List (List (List RowId))). set c rel attrs) (set_twice (get_or c rel []) attr lists others)

-- the lists of one attribute: none is filled, and one more
pub lists_none : (c : Rankings) (rel attr : ℕ) → c ≡ with_lists c rel attr (merged list_or [] (lists_of c rel attr))
lists_none c rel attr =
    sym
    (ap (λ (lists : List (List RowId)). with_lists c rel attr lists) (merged_none list_or (lists_of c rel attr))
    ∙ ap (λ (attrs : List (List (List RowId))). set c rel attrs) (set-get_or (get_or c rel []) attr []) ∙ set-get_or c rel [])

pub lists_more : (first c now next : Rankings) (rel attr ent : ℕ) → AreAlike first c → rel < length first
    → attr < length (get_or first rel [])
    → ent < length (lists_of first rel attr)
    → now ≡ with_lists c rel attr (merged list_or (take ent (lists_of first rel attr)) (lists_of c rel attr))
    → next ≡ with_ranking now rel attr ent (list_or (ranking_of first rel attr ent) (ranking_of now rel attr ent))
    → next ≡ with_lists c rel attr (merged list_or (take (ent + 1) (lists_of first rel attr)) (lists_of c rel attr))
lists_more first c now next rel attr ent alike in_first in_attrs in_lists so_far is =
    let so_many = merged list_or (take ent (lists_of first rel attr)) (lists_of c rel attr) in
    let in_c : rel < length c = omega (arith, alike.per_relation) in
    let in_relation : attr < length (get_or c rel []) = omega (arith, alike.per_attr rel) in
    let put : List (List RowId) → List (List RowId) = λ lists. set lists ent (list_or (ranking_of first rel attr ent)
    (get_or lists ent [])) in
    is ∙ ap (λ (q : Rankings). with_lists q rel attr (put (lists_of q rel attr))) so_far
    ∙ ap (λ (lists : List (List RowId)). with_lists (with_lists c rel attr so_many) rel attr (put lists))
    (lists_put c rel attr so_many in_c in_relation)
    ∙ put_twice c rel attr so_many (put so_many) in_c
    ∙ ap (λ (lists : List (List RowId)). with_lists c rel attr lists)
    (merged_more list_or (lists_of first rel attr) (lists_of c rel attr) ent [] in_lists (alike.per_entity rel attr))

-- the lists of one relation
pub relation_none : (c : Rankings) (rel : ℕ) → c ≡ set c rel (merged (merged list_or) [] (get_or c rel []))
relation_none c rel =
    sym (ap (λ (attrs : List (List (List RowId))). set c rel attrs) (merged_none (merged list_or) (get_or c rel []))
    ∙ set-get_or c rel [])

pub relation_more : (first c now next : Rankings) (rel attr : ℕ) → AreAlike first c → rel < length first
    → attr < length (get_or first rel [])
    → now ≡ set c rel (merged (merged list_or) (take attr (get_or first rel [])) (get_or c rel []))
    → next ≡ with_lists now rel attr (merged list_or (lists_of first rel attr) (lists_of now rel attr))
    → next ≡ set c rel (merged (merged list_or) (take (attr + 1) (get_or first rel [])) (get_or c rel []))
relation_more first c now next rel attr alike in_first in_attrs so_far is =
    let so_many = merged (merged list_or) (take attr (get_or first rel [])) (get_or c rel []) in
    let in_c : rel < length c = omega (arith, alike.per_relation) in
    let put : List (List (List RowId)) → List (List (List RowId)) = λ attrs. set attrs attr
    (merged list_or (lists_of first rel attr) (get_or attrs attr [])) in
    is ∙ ap (λ (q : Rankings). set q rel (put (get_or q rel []))) so_far
    ∙ ap (λ (attrs : List (List (List RowId))). set (set c rel so_many) rel (put attrs)) (get_or-set_same c rel so_many [] in_c)
    ∙ set_twice c rel so_many (put so_many)
    ∙ ap (λ (attrs : List (List (List RowId))). set c rel attrs)
    (merged_more (merged list_or) (get_or first rel []) (get_or c rel []) attr [] in_attrs (alike.per_attr rel))

-- all lists
pub filled_none : (c : Rankings) → c ≡ filled [] c
filled_none c = sym (merged_none (merged (merged list_or)) c)

pub filled_more : (first c now next : Rankings) (rel : ℕ) → AreAlike first c → rel < length first → now ≡ filled
    (take rel first) c
    → next ≡ set now rel (merged (merged list_or) (get_or first rel []) (get_or now rel [])) → next ≡ filled
    (take (rel + 1) first) c
filled_more first c now next rel alike in_first so_far is =
    is ∙ ap (λ (q : Rankings). set q rel (merged (merged list_or) (get_or first rel []) (get_or q rel []))) so_far
    ∙ merged_more (merged (merged list_or)) first c rel [] in_first alike.per_relation
