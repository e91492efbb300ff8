-- The rows of an entity, by number and in lists.
use Rattle.std.proofs.Common.{◌≡◌, ◌==◌, ◌<◌, ℕ, zero, suc, not, List, [], ◌∷◌, All, Contains, Some, length, get_or, slice_get, refl, ◌∙◌, sym, ap, subst, arith}
use Rattle.std.proofs.lemmas.Bool.{eqb-false, ne_eqb, not-true, not_from_false}
use Rattle.std.proofs.lemmas.List.Elements.{All-head, All-tail}
use Rattle.std.proofs.lemmas.Option.{same_Some, none-some, slice_get-get_or, slice_get_within}
use Rattle.currency_base.specs.declared.ids.RowId.{RowId}
use Rattle.currency_base.specs.declared.row.Row.{Row}
use Rattle.entity_lists.proofs.Facts.{found_in, member_of, length-entities_of}
use Rattle.entity_lists.specs.Lists.{entities_of, rows_of}
use Rattle.order_literals.proofs.RowLaws.{row_is}
use Rattle.order_literals.specs.Axioms.{others}
use Rattle.partial_orders.specs.Pairs.{entity_of}
use Rattle.order_adequacy.proofs.Lists.{place_of, at_place, passed_in, in_passed}

pub one_number : (a b : RowId) → a ≡ b → a.0 ≡ b.0
one_number a b e = ap (λ (r : RowId). r.0) e

-- ---- the entity of a row

-- it is read in the list of the rows' entities
pub entity_is : (rows : List Row) (n : ℕ) → entity_of rows n ≡ slice_get (entities_of rows) n
entity_is [] n = refl
entity_is (r ∷ rows) zero = refl
entity_is (r ∷ rows) (suc n) = entity_is rows n

-- a row that is of an entity is there
pub row_there : (rows : List Row) (n ent : ℕ) → entity_of rows n ≡ Some ent → n < length rows
row_there rows n ent of =
    let below = slice_get_within (entities_of rows) n ent (sym (entity_is rows n) ∙ of) in
    omega (arith, below, length-entities_of rows)

-- and a row that is there is of an entity
pub entity_there : (rows : List Row) (n : ℕ) → n < length rows → (ent : ℕ) × (entity_of rows n ≡ Some ent)
entity_there rows n below =
    let within : n < length (entities_of rows) = omega (arith, below, length-entities_of rows) in
    (get_or (entities_of rows) n 0, entity_is rows n ∙ slice_get-get_or (entities_of rows) n 0 within)

-- which is one of the entities
pub entity_below : (rows : List Row) (count n ent : ℕ) → All (λ row. row.entity.0 < count) rows → entity_of rows n ≡
    Some ent → ent < count
entity_below [] count n ent all of = absurd (none-some ent of)
entity_below (r ∷ rows) count zero ent all of =
    subst (λ k. k < count) (same_Some r.entity.0 ent of) (All-head (λ row. row.entity.0 < count) r rows all)
entity_below (r ∷ rows) count (suc n) ent all of = entity_below rows count n ent
    (All-tail (λ row. row.entity.0 < count) r rows all) of

-- ---- the rows of an entity

pub of_entity_in : (rows : List Row) (ent : ℕ) (row : RowId) → entity_of rows row.0 ≡ Some ent
    → Contains (rows_of (entities_of rows) ent) row
of_entity_in rows ent row of =
    let found = found_in (entities_of rows) ent row (sym (entity_is rows row.0) ∙ of) in
    at_place (rows_of (entities_of rows) ent) found.0 row found.1

pub in_of_entity : (rows : List Row) (ent : ℕ) (row : RowId) → Contains (rows_of (entities_of rows) ent) row
    → entity_of rows row.0 ≡ Some ent
in_of_entity rows ent row at =
    let place = place_of (rows_of (entities_of rows) ent) row at in
    entity_is rows row.0 ∙ member_of (entities_of rows) ent place.0 row place.1

-- ---- the other rows of an entity

pub other_in : (rows : List Row) (ent : ℕ) (row other : RowId) → entity_of rows other.0 ≡ Some ent → (other ≡ row → ⊥)
    → Contains (others rows ent row) other
other_in rows ent row other of differ =
    passed_in (λ (o : RowId). not (o.0 == row.0)) (rows_of (entities_of rows) ent) other (of_entity_in rows ent other of)
    (not_from_false (other.0 == row.0) (ne_eqb other.0 row.0 (λ e. differ (row_is other row e))))

pub in_others : (rows : List Row) (ent : ℕ) (row other : RowId) → Contains (others rows ent row) other
    → (entity_of rows other.0 ≡ Some ent) × (other ≡ row → ⊥)
in_others rows ent row other at =
    let passed = in_passed (λ (o : RowId). not (o.0 == row.0)) (rows_of (entities_of rows) ent) other at in (
      in_of_entity rows ent other passed.0,
      λ same. eqb-false other.0 row.0 (not-true (other.0 == row.0) passed.1) (one_number other row same),
    )
