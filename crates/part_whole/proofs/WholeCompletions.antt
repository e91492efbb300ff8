-- A completion of a specification or of the part that has all its entities, narrowed to the part, is itself.
use Rattle.std.proofs.Common.{◌≡◌, ◌<◌, ◌∙◌, ℕ, List, [], ◌∷◌, All, Contains, Some, map, length, slice_get, slice_index_or, refl, sym, ap, arith}
use Rattle.std.proofs.lemmas.List.Elements.{All-head, All-tail, All-weaker, All-contains_itself}
use Rattle.std.proofs.lemmas.Option.{slice_get_within}
use Rattle.currency_base.specs.declared.ids.RowId.{RowId}
use Rattle.part_laws.specs.Parts.{Places, rows_in, IsPartOf, IsNarrowed, whole_row}
use Rattle.part_laws.proofs.Listed.{list_below}
use Rattle.part_laws.proofs.Rows.{place_of, there}
use Rattle.spec_model.specs.Completion.{Rankings, lists_of, ranking_of, HasShape, IsCompletion}
use Rattle.spec_model.specs.Spec.{Spec}
use Rattle.spec_model.specs.declared.relation.Attr.{Attr}
use Rattle.spec_model.specs.declared.relation.Relation.{Relation}
use Rattle.part_whole.proofs.WholePlaces.{everything, row_within, many_rows, many_entities, row_itself, entity_itself}

-- a list of rows that each stand for themselves
mapped_itself : (f : RowId → RowId) (list : List RowId) → All (λ row. f row ≡ row) list → map f list ≡ list
mapped_itself f [] all = refl
mapped_itself f (row ∷ rows) all =
    let Same : RowId → Type 0 = λ x. f x ≡ x in
    ap (λ (x : RowId). x ∷ map f rows) (All-head Same row rows all)
    ∙ ap (λ (l : List RowId). row ∷ l) (mapped_itself f rows (All-tail Same row rows all))

-- each row of a list of a completion is one of its relation
listed_there : (relations : List Relation) (c : Rankings) (rel attr k : ℕ) (row : RowId) → IsCompletion relations c
    → Contains (ranking_of c rel attr k) row
    → (r : Relation) × (slice_get relations rel ≡ Some r) × (row.0 < length r.rows)
listed_there relations c rel attr k row completion listed =
    let shape = completion.shape in
    let place = place_of (ranking_of c rel attr k) row listed in
    let in_lists = list_below (lists_of c rel attr) k place.0 row place.1 in
    let list = there (lists_of c rel attr) k in_lists in
    let in_attrs = list_below (slice_index_or c rel []) attr k list.0 list.1 in
    let lists = there (slice_index_or c rel []) attr in_attrs in
    let in_relations = list_below c rel attr lists.0 lists.1 in
    let r = there relations rel (let many = shape.per_relation in omega (arith, in_relations, many)) in
    let inside : attr < length r.0.attrs = (let many = shape.per_attr rel r.0 r.1 in omega (arith, in_attrs, many)) in
    let under : k < length r.0.entities =
    (let many = shape.per_entity rel r.0 r.1 attr inside in omega (arith, in_lists, many)) in
    (r.0, r.1, row_within r.0.rows row.0 k ((completion.ranked rel r.0 r.1 attr k inside under).only row listed))

all_listed : (P : RowId → Type 0) (list : List RowId) → ((row : RowId) → Contains list row → P row) → All P list
all_listed P list each = All-weaker (Contains list) P each list (All-contains_itself list)

module _ (s : Spec) (n : Places) (part : Spec) (is : IsPartOf s everything n part) where
  -- ---- the shapes

  part_at : (rel : ℕ) (r : Relation) → slice_get s.relations rel ≡ Some r
      → (new : Relation) × (slice_get part.relations rel ≡ Some new)
  part_at rel r at =
      there part.relations rel (let below = slice_get_within s.relations rel r at in omega (arith, below, is.per_relation))

  whole_at : (rel : ℕ) (new : Relation) → slice_get part.relations rel ≡ Some new
      → (r : Relation) × (slice_get s.relations rel ≡ Some r)
  whole_at rel new at =
      there s.relations rel (let below = slice_get_within part.relations rel new at in omega (arith, below, is.per_relation))

  same_attrs : (rel : ℕ) (r new : Relation) → slice_get s.relations rel ≡ Some r → slice_get part.relations rel ≡ Some new
      → length new.attrs ≡ length r.attrs
  same_attrs rel r new at at_new = ap (λ (l : List Attr). length l) (is.relations rel r new at at_new).attrs

  same_entities : (rel : ℕ) (r new : Relation) → slice_get s.relations rel ≡ Some r → slice_get part.relations rel ≡ Some new
      → length new.entities ≡ length r.entities
  same_entities rel r new at at_new =
      (is.relations rel r new at at_new).per_entity ∙ many_entities s.relations n is.places rel r at

  pub shape_of_part : (c : Rankings) → HasShape s.relations c → HasShape part.relations c
  shape_of_part c shape = record {
    per_relation = shape.per_relation ∙ sym is.per_relation;
    per_attr = λ rel new at_new.
        let r = whole_at rel new at_new in
        shape.per_attr rel r.0 r.1 ∙ sym (same_attrs rel r.0 new r.1 at_new);
    per_entity = λ rel new at_new attr inside.
        let r = whole_at rel new at_new in
        shape.per_entity rel r.0 r.1 attr (omega (arith, inside, same_attrs rel r.0 new r.1 at_new))
        ∙ sym (same_entities rel r.0 new r.1 at_new);
  }

  pub shape_of_whole : (c : Rankings) → HasShape part.relations c → HasShape s.relations c
  shape_of_whole c shape = record {
    per_relation = shape.per_relation ∙ is.per_relation;
    per_attr = λ rel r at.
        let new = part_at rel r at in
        shape.per_attr rel new.0 new.1 ∙ same_attrs rel r new.0 at new.1;
    per_entity = λ rel r at attr inside.
        let new = part_at rel r at in
        shape.per_entity rel new.0 new.1 attr (omega (arith, inside, same_attrs rel r new.0 at new.1))
        ∙ same_entities rel r new.0 at new.1;
  }

  -- ---- the rankings

  -- rankings whose rows are all there
  narrowed_itself : (c : Rankings)
      → ((rel attr k : ℕ) → All (λ row. row.0 < length (rows_in n rel)) (ranking_of c rel attr k))
      → IsNarrowed s.relations n c c
  narrowed_itself c within = record {
    within = within;
    same = λ rel r at attr inside k ent is_ent.
        ap (ranking_of c rel attr) (entity_itself s.relations n is.places rel r at k ent is_ent)
        ∙ sym (mapped_itself (whole_row (rows_in n rel)) (ranking_of c rel attr k)
        (All-weaker (λ (row : RowId). row.0 < length (rows_in n rel)) (λ (row : RowId). whole_row (rows_in n rel) row ≡ row)
        (λ row less. row_itself s.relations n is.places rel r at row
        (let many = many_rows s.relations n is.places rel r at in omega (arith, less, many)))
        (ranking_of c rel attr k) (within rel attr k)));
  }

  pub narrowed_from_whole : (c : Rankings) → IsCompletion s.relations c → IsNarrowed s.relations n c c
  narrowed_from_whole c completion = narrowed_itself c (λ rel attr k.
      all_listed (λ row. row.0 < length (rows_in n rel)) (ranking_of c rel attr k) (λ row listed.
      let of = listed_there s.relations c rel attr k row completion listed in
      let many = many_rows s.relations n is.places rel of.0 of.1 in
      omega (arith, of.2, many)))

  pub narrowed_from_part : (c : Rankings) → IsCompletion part.relations c → IsNarrowed s.relations n c c
  narrowed_from_part c completion = narrowed_itself c (λ rel attr k.
      all_listed (λ row. row.0 < length (rows_in n rel)) (ranking_of c rel attr k) (λ row listed.
      let of = listed_there part.relations c rel attr k row completion listed in
      let r = whole_at rel of.0 of.1 in
      let many = (is.relations rel r.0 of.0 r.1 of.1).per_row in
      omega (arith, of.2, many)))
