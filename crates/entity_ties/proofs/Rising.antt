-- Rows and entities of a relation, ascending.
use Rattle.std.proofs.Common.{◌≡◌, ◌<◌, ◌≤◌, ◌⊎◌, ◌∙◌, ◌+◌, ◌++◌, ◌∷◌, ℕ, zero, suc, List, [], All, Contains, Some, get_or, map, option_map, slice_get, take, sym, ap, subst, inl, inr, ⊎_elim, arith}
use Rattle.std.specs.List.Sorted.{IsStrictlyIncreasing}
use Rattle.std.proofs.lemmas.Bool.{cases_lt}
use Rattle.std.proofs.lemmas.List.{get_or_append_left}
use Rattle.std.proofs.lemmas.List.Elements.{Contains-append_cases, Contains-append_left, Contains-append_right, Contains-get_or}
use Rattle.std.proofs.lemmas.List.Kept.{AllPairs-from_increasing}
use Rattle.std.proofs.lemmas.Option.{same_Some, none-some, get_or_from_slice_get, slice_get-map, slice_get_within}
use Rattle.currency_base.specs.declared.ids.EntId.{EntId}
use Rattle.currency_base.specs.declared.ids.RowId.{RowId}
use Rattle.entity_lists.proofs.Facts.{found_in, member_of}
use Rattle.entity_lists.specs.Lists.{Grouping, rows_of}
use Rattle.part_laws.proofs.Rows.{at_place, place_of, all_at}
use Rattle.entity_ties.specs.Chosen.{AreAllPlaces, ArePlacesIn, AreRowsOf, IsAscending, IsRowAmong}
use Rattle.entity_ties.specs.Parts.{list_at}
use Rattle.entity_ties.proofs.Items.{taken, still_taken, just_taken, at_end, length_push}

-- ---- numbers of items

module _ {A : Type 0} (number : A → ℕ) (one : (a b : A) → number a ≡ number b → a ≡ b) where
  pub has_number : (xs : List A) (x : A) → Contains xs x → Contains (map number xs) (number x)
  has_number xs x c =
      let at = place_of xs x c in
      at_place (map number xs) at.0 (number x) (slice_get-map number xs at.0 ∙ ap (option_map number) at.1)

  pub of_number : (xs : List A) (x : A) → Contains (map number xs) (number x) → Contains xs x
  of_number xs x c = (let at = place_of (map number xs) (number x) c in go xs at.0 at.1)
    where
      go : (xs : List A) (i : ℕ) → slice_get (map number xs) i ≡ Some (number x) → Contains xs x
      go [] i at = absurd (none-some (number x) at)
      go (y ∷ ys) zero at = at_place (y ∷ ys) 0 x (ap Some (one y x (same_Some (number y) (number x) at)))
      go (y ∷ ys) (suc i) at = Contains-append_right (y ∷ []) ys x (go ys i at)

  pub rise : (xs : List A) → IsStrictlyIncreasing (map number xs) → (i j : ℕ) (x y : A) → i < j
      → slice_get xs i ≡ Some x → slice_get xs j ≡ Some y
      → number x < number y
  rise xs up i j x y less at_x at_y =
      let num_x : slice_get (map number xs) i ≡ Some (number x) = slice_get-map number xs i ∙ ap (option_map number) at_x in
      let num_y : slice_get (map number xs) j ≡ Some (number y) = slice_get-map number xs j ∙ ap (option_map number) at_y in
      let below = AllPairs-from_increasing (map number xs) up i j 0 less (slice_get_within (map number xs) j (number y) num_y) in
      omega (
        arith,
        below,
        get_or_from_slice_get (map number xs) i (number x) 0 num_x,
        get_or_from_slice_get
            (map number xs) j (number y) 0 num_y,
      )

row_of_number : (a b : RowId) → a.0 ≡ b.0 → a ≡ b
row_of_number a b e = ap (λ (n : ℕ). let x : RowId = record { 0 = n } in x) e

entity_of_number : (a b : EntId) → a.0 ≡ b.0 → a ≡ b
entity_of_number a b e = ap (λ (n : ℕ). let x : EntId = record { 0 = n } in x) e

-- ---- the rows of some entities

pub rows_more : (entities numbers : List ℕ) (i ent : ℕ) (old : List ℕ) → slice_get numbers i ≡ Some ent
    → AreRowsOf entities (take i numbers) old
    → AreRowsOf entities (take (i + 1) numbers) (old ++ map (λ (r : RowId). r.0) (rows_of entities ent))
rows_more entities numbers i ent old at are row = (to, from)
  where
    more : List ℕ
    more = map (λ (r : RowId). r.0) (rows_of entities ent)

    id : RowId
    id = record { 0 = row }

    to : Contains (old ++ map (λ (r : RowId). r.0) (rows_of entities ent)) row → IsRowAmong entities (take (i + 1) numbers) row
    to c =
        ⊎_elim
        (λ (o : Contains old row). (let is = (are row).0 o in
        record {
          ent = is.ent;
          is_among = still_taken numbers i is.ent (slice_get_within numbers i ent at)
              is.is_among;
          is_of = is.is_of;
        }))
        (λ (n : Contains more row). (let place = place_of (rows_of entities ent) id
        (of_number (λ (r : RowId). r.0) row_of_number (rows_of entities ent) id n) in
        record { ent = ent; is_among = just_taken numbers i ent at; is_of = member_of entities ent place.0 id place.1 }))
        (Contains-append_cases old more row c)

    from : IsRowAmong entities (take (i + 1) numbers) row → Contains (old ++ map (λ (r : RowId). r.0) (rows_of entities ent)) row
    from is =
        ⊎_elim
        (λ (c : Contains (take i numbers) is.ent).
        Contains-append_left old more row ((are row).1 (record { ent = is.ent; is_among = c; is_of = is.is_of })))
        (λ (e : ent ≡ is.ent).
        (let found = found_in entities ent id (is.is_of ∙ ap Some (sym e)) in
        Contains-append_right old more row
        (has_number (λ (r : RowId). r.0) row_of_number (rows_of entities ent) id
        (at_place (rows_of entities ent) found.0 id found.1))))
        (taken numbers i ent is.ent at is.is_among)

-- ---- one relation

pub among_all : (numbers ascending : List ℕ) (count : ℕ) → IsAscending numbers ascending → All (λ n. n < count)
    numbers → All (λ n. n < count) ascending
among_all numbers ascending count is all k d below =
    let place = place_of numbers (get_or ascending k d)
    ((is.same (get_or ascending k d)).0 (Contains-get_or ascending k d below)) in
    all_at (λ n. n < count) numbers place.0 (get_or ascending k d) all place.1

pub places_made : (group : Grouping) (numbers entities found rows : List ℕ) (row_ids : List RowId) (ids : List EntId)
    → IsAscending numbers entities
    → AreRowsOf group.entities entities found → IsAscending found rows → map (λ (r : RowId). r.0) row_ids ≡ rows
    → map (λ (e : EntId). e.0) ids ≡ entities → ArePlacesIn group numbers row_ids ids
places_made group numbers entities found rows row_ids ids is of is_rows rows_are ids_are = record {
  rows_ascend = λ i j x y less at at'.
      rise (λ (r : RowId). r.0) row_of_number row_ids (subst IsStrictlyIncreasing (sym rows_are) is_rows.ascend) i j
      x y less at at';
  entities_ascend = λ i j x y less at at'.
      rise (λ (e : EntId). e.0) entity_of_number ids (subst IsStrictlyIncreasing (sym ids_are) is.ascend) i j x y less at at';
  rows_are = λ row. (to row, from row);
  entities_are = λ ent. (
    λ c. (is.same ent.0).0 (subst (λ (l : List ℕ). Contains l ent.0) ids_are
        (has_number (λ (e : EntId). e.0) entity_of_number ids ent c)),
    λ c. of_number (λ (e : EntId). e.0) entity_of_number ids ent (subst (λ (l : List ℕ). Contains l ent.0)
        (sym ids_are) ((is.same ent.0).1 c)),
  );
}
  where
    to : (row : RowId) → Contains row_ids row → IsRowAmong group.entities numbers row.0
    to row c =
        let has : Contains rows row.0 = subst (λ (l : List ℕ). Contains l row.0) rows_are
        (has_number (λ (r : RowId). r.0) row_of_number row_ids row c) in
        let among = (of row.0).0 ((is_rows.same row.0).0 has) in
        record { ent = among.ent; is_among = (is.same among.ent).0 among.is_among; is_of = among.is_of }

    from : (row : RowId) → IsRowAmong group.entities numbers row.0 → Contains row_ids row
    from row among =
        let has = (is_rows.same row.0).1
        ((of row.0).1 (record { ent = among.ent; is_among = (is.same among.ent).1 among.is_among; is_of = among.is_of })) in
        of_number (λ (r : RowId). r.0) row_of_number row_ids row (subst (λ (l : List ℕ). Contains l row.0) (sym rows_are) has)

-- ---- one relation more

pub places_more : (groups : List Grouping) (found : List (List ℕ)) (count : ℕ) (group : Grouping) (list : List ℕ)
    (rows : List (List RowId))
    (entities : List (List EntId)) (in_rows : List RowId) (in_entities : List EntId) → slice_get groups count ≡ Some group
    → slice_get found count ≡ Some list → AreAllPlaces groups found count rows entities → ArePlacesIn group list
    in_rows in_entities
    → AreAllPlaces groups found (count + 1) (rows ++ in_rows ∷ []) (entities ++ in_entities ∷ [])
places_more groups found count group list rows entities in_rows in_entities at at_found are is = record {
  per_rows = length_push rows in_rows ∙ omega (arith, are.per_rows);
  per_entities = length_push entities in_entities ∙ omega (arith, are.per_entities);
  each = λ rel g below at_g. each rel g below at_g (cases_lt rel count);
}
  where
    each : (rel : ℕ) (g : Grouping) → rel < count + 1 → slice_get groups rel ≡ Some g → (rel < count) ⊎ (count ≤ rel)
        → ArePlacesIn g (list_at found rel) (list_at (rows ++ in_rows ∷ []) rel) (list_at (entities ++ in_entities ∷ []) rel)
    each rel g below at_g (inl low) =
        subst (λ l. ArePlacesIn g (list_at found rel) l (list_at (entities ++ in_entities ∷ []) rel))
        (sym (get_or_append_left rows (in_rows ∷ []) [] rel (omega (arith, are.per_rows))))
        (subst (λ l. ArePlacesIn g (list_at found rel) (list_at rows rel) l)
        (sym (get_or_append_left entities (in_entities ∷ []) [] rel (omega (arith, are.per_entities)))) (are.each rel g low at_g))
    each rel g below at_g (inr high) =
        let same : count ≡ rel = omega arith in
        let one : group ≡ g = same_Some group g (sym at ∙ (ap (slice_get groups) same ∙ at_g)) in
        let l_found : list ≡ list_at found rel = sym (ap (list_at found) (sym same) ∙ get_or_from_slice_get found
        count list [] at_found) in
        let l_rows : in_rows ≡ list_at (rows ++ in_rows ∷ []) rel =
        sym (get_or_from_slice_get (rows ++ in_rows ∷ []) rel in_rows []
        (at_end rows in_rows rel (omega (arith, are.per_rows)))) in
        let l_entities : in_entities ≡ list_at (entities ++ in_entities ∷ []) rel =
        sym (get_or_from_slice_get (entities ++ in_entities ∷ []) rel in_entities []
        (at_end entities in_entities rel (omega (arith, are.per_entities)))) in
        subst (λ l. ArePlacesIn g (list_at found rel) (list_at (rows ++ in_rows ∷ []) rel) l) l_entities
        (subst (λ l. ArePlacesIn g (list_at found rel) l in_entities) l_rows
        (subst (λ l. ArePlacesIn g l in_rows in_entities) l_found (subst (λ x. ArePlacesIn x list in_rows in_entities) one is)))

pub all_in : (groups : List Grouping) (found : List (List ℕ)) (rel : ℕ) (group : Grouping) (list : List ℕ)
    → ((rel : ℕ) (group : Grouping) → slice_get groups rel ≡ Some group → All (λ ent. ent < group.count) (list_at found rel))
    → slice_get groups rel ≡ Some group → slice_get found rel ≡ Some list → All (λ ent. ent < group.count) list
all_in groups found rel group list within at at_found =
    subst (All (λ ent. ent < group.count)) (get_or_from_slice_get found rel list [] at_found) (within rel group at)
