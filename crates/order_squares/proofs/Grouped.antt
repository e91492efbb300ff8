-- The entities of relations, and where they stand in lists.
use Rattle.std.proofs.Common.{◌≡◌, ◌==◌, ◌+◌, ◌<◌, ◌≤◌, ◌∙◌, ℕ, suc, Bool, true, false, cond, List, [], ◌∷◌, Option, Some, None, map, length, slice_get, refl, sym, ap, arith}
use Rattle.std.specs.Option.{option_map_or}
use Rattle.std.proofs.lemmas.Option.{slice_get_within}
use Rattle.currency_base.specs.declared.row.Row.{Row}
use Rattle.entity_lists.specs.Lists.{Grouping, entities_of, rows_from}
use Rattle.entity_lists.proofs.Facts.{entities_at}
use Rattle.partial_orders.specs.Pairs.{entity_of}
use Rattle.spec_model.specs.declared.relation.Relation.{Relation}
use Rattle.order_squares.specs.Entities.{count_of, entities_in, grouping_of}
use Rattle.order_squares.proofs.Places.{get_mapped}

-- the grouping at the place of a relation is its own
pub grouped_at : (relations : List Relation) (lists : List Grouping) (rel : ℕ) (g : Grouping)
    → lists ≡ map grouping_of relations → slice_get lists rel ≡ Some g
    → (g.count ≡ count_of relations rel) × (g.entities ≡ entities_in relations rel)
grouped_at relations lists rel g are at =
    let m = get_mapped grouping_of relations rel g (ap (λ ls. slice_get ls rel) (sym are) ∙ at) in (
      ap (λ (x : Grouping). x.count) (sym m.2)
          ∙ ap (λ (o : Option Relation). option_map_or (λ (r : Relation). length r.entities) o 0) (sym m.1),
      ap (λ (x : Grouping). x.entities) (sym m.2)
          ∙ ap (λ (o : Option Relation). option_map_or (λ (r : Relation). entities_of r.rows) o []) (sym m.1),
    )

-- a relation that has something is there
pub rel_within : (relations : List Relation) (rel n : ℕ) (f : Relation → ℕ) → n < option_map_or f
    (slice_get relations rel) 0 → rel < length relations
rel_within relations rel n f below = by (slice_get relations rel) refl
  where
    by : (o : Option Relation) → slice_get relations rel ≡ o → rel < length relations
    by None e = absurd (omega (arith, below, ap (λ (o : Option Relation). option_map_or f o 0) e))
    by (Some r) e = slice_get_within relations rel r e

-- the entity of a row that is there
pub entity_there : (rows : List Row) (row ent : ℕ) → entity_of rows row ≡ Some ent → slice_get (entities_of rows) row ≡ Some ent
entity_there rows row ent of = by (slice_get rows row) refl
  where
    by : (o : Option Row) → slice_get rows row ≡ o → slice_get (entities_of rows) row ≡ Some ent
    by o e = entities_at rows row ∙ of

pub entity_in : (relations : List Relation) (rel : ℕ) (r : Relation) (row ent : ℕ) → slice_get relations rel ≡ Some r
    → entity_of r.rows row ≡ Some ent
    → slice_get (entities_in relations rel) row ≡ Some ent
entity_in relations rel r row ent at of =
    ap (λ (o : Option Relation). slice_get (option_map_or (λ (q : Relation). entities_of q.rows) o []) row) at
    ∙ entity_there r.rows row ent of

-- there are no more rows of the entity than rows
pub rows_few : (first : ℕ) (es : List ℕ) (ent : ℕ) → length (rows_from first es ent) ≤ length es
rows_few first [] ent = omega arith
rows_few first (x ∷ es) ent = go (rows_few (first + 1) es ent) (x == ent)
  where
    go : length (rows_from (first + 1) es ent) ≤ length es → (b : Bool)
        → length (cond b (record { 0 = first } ∷ rows_from (first + 1) es ent) (rows_from (first + 1) es ent)) ≤ suc (length es)
    go few true = omega (arith, few)
    go few false = omega (arith, few)
