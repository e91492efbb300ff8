-- What is read for a claim.
use Rattle.std.proofs.Common.{◌≡◌, ◌∙◌, ◌<◌, ℕ, List, [], All, Some, get_or, length, map, slice_get, sym, ap, subst, arith}
use Rattle.std.specs.Prelude.{option_map}
use Rattle.std.proofs.lemmas.List.{length-map}
use Rattle.std.proofs.lemmas.Option.{get_or_from_slice_get, same_Some, slice_get-map, slice_get_within}
use Rattle.currency_base.specs.Values.{kind_of}
use Rattle.currency_base.specs.declared.row.Row.{Row}
use Rattle.match_premises.specs.declared.premise.Premise.{Premise}
use Rattle.spec_model.specs.Facts.{AreRelations, IsRelation, kinds_of}
use Rattle.spec_model.specs.declared.relation.Relation.{Relation}
use Rattle.posed_facts.specs.Facts.{IsPlaced}
use Rattle.posed_facts.specs.Questions.{claim_row, row_in}

-- the name of the relation at a place
pub relation_named : (relations : List Relation) (rel : ℕ) (r : Relation) → slice_get relations rel ≡ Some r
    → get_or (map (λ (r : Relation). r.name) relations) rel [] ≡ r.name
relation_named relations rel r at =
    get_or_from_slice_get (map (λ (r : Relation). r.name) relations) rel r.name []
    (slice_get-map (λ (r : Relation). r.name) relations rel ∙ ap (option_map (λ (r : Relation). r.name)) at)

-- what holds of all holds of the item at a place
pub item_has : {A : Type 0} (P : A → Type 0) (xs : List A) → All P xs → (k : ℕ) (x : A) → slice_get xs k ≡ Some x → P x
item_has P xs all k x at = subst P (get_or_from_slice_get xs k x x at) (all k x (slice_get_within xs k x at))

-- the row that is claimed is the one that is read
same_row : (relations : List Relation) (p : Premise) → (placed : IsPlaced relations p) → (row : Row)
    → claim_row relations p ≡ Some row → placed.row ≡ row
same_row relations p placed row is =
    same_Some placed.row row (sym (ap (λ o. row_in o p) placed.is_relation ∙ placed.is_row) ∙ is)

-- a claim's row has a value of its attribute
own_value : (relations : List Relation) → AreRelations relations → (p : Premise) → (placed : IsPlaced relations p)
    → p.attr.0 < length placed.row.values
own_value relations are p placed =
    let fits = item_has IsRelation relations are.each p.rel.0 placed.relation placed.is_relation in
    let kinds = item_has (λ (w : Row). map kind_of w.values ≡ kinds_of placed.relation) placed.relation.rows fits.values p.row.0
    placed.row placed.is_row in
    omega (
      arith,
      placed.attr,
      length-map placed.row.values kind_of,
      ap (λ l. length l) kinds,
      length-map placed.relation.attrs (λ a. a.kind),
    )

pub has_value : (relations : List Relation) → AreRelations relations → (p : Premise) → IsPlaced relations p → (row : Row)
    → claim_row relations p ≡ Some row → p.attr.0 < length row.values
has_value relations are p placed row is =
    let same = same_row relations p placed row is in rw (← same) (own_value relations are p placed)

-- and an entity
pub has_entity : (relations : List Relation) → AreRelations relations → (p : Premise) → IsPlaced relations p → (r : Relation)
    → slice_get relations p.rel.0 ≡ Some r → (row : Row) → claim_row relations p ≡ Some row → row.entity.0 < length r.entities
has_entity relations are p placed r at row is =
    let fits = item_has IsRelation relations are.each p.rel.0 r at in
    item_has (λ (w : Row). w.entity.0 < length r.entities) r.rows fits.entities p.row.0 row
    (sym (ap (λ o. row_in o p) at) ∙ is)
