-- Names that stand once are found at their places: relations, and their attributes, entities and rows.
use Rattle.std.proofs.Common.{◌≡◌, ◌∙◌, ◌<◌, ℕ, Bool, true, false, List, [], ◌∷◌, map, length, get_or, Some, None, slice_get, All, refl, sym, ap, arith}
use Rattle.std.proofs.lemmas.Bool.{cond-true, lt-ltb}
use Rattle.std.proofs.lemmas.List.{length-map}
use Rattle.std.proofs.lemmas.List.Elements.{All-head, All-tail}
use Rattle.std.proofs.lemmas.List.Sums.{position_or_len_is}
use Rattle.std.proofs.lemmas.Option.{slice_get-get_or, slice_get_within}
use Rattle.std.proofs.lemmas.Slice.Eq.{bytes_eq-Decides}
use Rattle.std.specs.List.{position_or_len}
use Rattle.std.specs.Str.{bytes_eq}
use Rattle.completion_fill.proofs.Shapes.{is_relation_at}
use Rattle.currency_base.specs.Lists.{OnlyOnce}
use Rattle.currency_base.specs.declared.ids.RowId.{RowId}
use Rattle.currency_report.specs.Places.{relation_named, attr_named, entity_named, place_named, row_named, rows_named}
use Rattle.report_reread.specs.Trees.{relation_tree, attr_tree, entity_tree, row_tree}
use Rattle.spec_model.specs.Facts.{IsRelation, AreRelations}
use Rattle.spec_model.specs.declared.relation.Relation.{Relation}
use Rattle.spec_names.specs.Names.{place_of}

-- a test that is not passed fails
fails : (b : Bool) → (b ≡ true → ⊥) → b ≡ false
fails true h = absurd (h refl)
fails false h = refl

-- a name that stands once in a list is found at its place
own_place : (names : List (List ℕ)) (i : ℕ) → OnlyOnce names → i < length names → place_of names (get_or names i []) ≡ Some i
own_place names i once within =
    let name = get_or names i [] in
    let here : slice_get names i ≡ Some name = slice_get-get_or names i [] within in
    let first : position_or_len (bytes_eq name) names ≡ i =
    position_or_len_is (bytes_eq name) names i [] (omega arith)
    (λ k below. fails (bytes_eq name (get_or names k []))
    (λ passes.
    let is : name ≡ get_or names k [] = (bytes_eq-Decides name (get_or names k [])).0 passes in
    let there : slice_get names k ≡ Some name = slice_get-get_or names k [] (omega arith) ∙ ap Some (sym is) in
    let same : k ≡ i = once k i name there here in
    omega arith))
    (λ _. (bytes_eq-Decides name name).1 refl) in
    rw first (cond-true _ (Some i) None (lt-ltb i (length names) within))

-- the relation at a place has its name
relation_found : (relations : List Relation) (rel : ℕ) (r : Relation) → AreRelations relations → slice_get relations rel ≡ Some r
    → relation_named relations (relation_tree relations rel).name ≡ Some (rel, r)
relation_found relations rel r are at =
    let within : rel < length (map (λ q. q.name) relations) = rw length-map (slice_get_within relations rel r at) in
    rw (own_place (map (λ q. q.name) relations) rel are.names within, at) refl

-- the attribute at a place of a relation has its name
attr_within : (r : Relation) (attr : ℕ) → IsRelation r → attr < length r.attrs
    → place_of (map (λ a. a.name) r.attrs) (get_or (map (λ a. a.name) r.attrs) attr []) ≡ Some attr
attr_within r attr is below = own_place (map (λ a. a.name) r.attrs) attr is.attr_names (rw length-map below)

pub attr_found : (relations : List Relation) (rel attr : ℕ) (r : Relation) → AreRelations relations
    → slice_get relations rel ≡ Some r
    → attr < length r.attrs
    → attr_named relations (relation_tree relations rel) (attr_tree relations rel attr) ≡ Some
    record { relation = r; rel = rel; attr = attr }
attr_found relations rel attr r are at below =
    rw (relation_found relations rel r are at, at, attr_within r attr (is_relation_at relations rel r are at) below) refl

-- the entity at a place of a relation has its name
pub entity_found : (relations : List Relation) (rel ent : ℕ) (r : Relation) → AreRelations relations
    → slice_get relations rel ≡ Some r
    → ent < length r.entities
    → entity_named relations (relation_tree relations rel) (entity_tree relations rel ent) ≡ Some
    record { relation = r; rel = rel; ent = ent }
entity_found relations rel ent r are at below =
    rw (
      relation_found relations rel r are at,
      at,
      own_place r.entities ent
          (is_relation_at relations rel r are at).entity_names below,
    ) refl

-- the place of an attribute and an entity of a relation has their names
pub place_found : (relations : List Relation) (rel attr ent : ℕ) (r : Relation) → AreRelations relations
    → slice_get relations rel ≡ Some r
    → attr < length r.attrs → ent < length r.entities
    → place_named relations (relation_tree relations rel) (attr_tree relations rel attr) (entity_tree relations rel ent)
    ≡ Some record { relation = r; rel = rel; attr = attr; ent = ent }
place_found relations rel attr ent r are at in_attrs in_entities =
    rw (
      attr_found relations rel attr r are at in_attrs,
      at,
      own_place r.entities ent
          (is_relation_at relations rel r are at).entity_names in_entities,
    ) refl

-- the row at a place of a relation has its name
pub row_found : (relations : List Relation) (rel : ℕ) (row : RowId) (r : Relation) → AreRelations relations
    → slice_get relations rel ≡ Some r
    → row.0 < length r.rows → row_named r (row_tree relations rel row) ≡ Some row
row_found relations rel row r are at below =
    let within : row.0 < length (map (λ q. q.name) r.rows) = rw length-map below in
    rw (at, own_place (map (λ q. q.name) r.rows) row.0 (is_relation_at relations rel r are at).row_names within) refl

-- so have rows
pub rows_found : (relations : List Relation) (rel : ℕ) (rows : List RowId) (r : Relation) → AreRelations relations
    → slice_get relations rel ≡ Some r
    → All (λ row. row.0 < length r.rows) rows → rows_named r (map (row_tree relations rel) rows) ≡ Some rows
rows_found relations rel [] r are at within = refl
rows_found relations rel (row ∷ rows) r are at within =
    rw (
      row_found relations rel row r are at (All-head (λ (q : RowId). q.0 < length r.rows) row rows within),
      rows_found relations rel rows r are at (All-tail (λ (q : RowId). q.0 < length r.rows) row rows within),
    ) refl
