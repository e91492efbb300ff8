-- The places of all entities: each row and each entity stands at its own number.
use Rattle.std.proofs.Common.{◌≡◌, ◌<◌, ◌∙◌, ℕ, zero, suc, true, List, [], ◌∷◌, Some, length, slice_get, refl, ap, arith}
use Rattle.std.proofs.lemmas.Option.{none-some, get_or_from_slice_get}
use Rattle.currency_base.specs.declared.ids.EntId.{EntId}
use Rattle.currency_base.specs.declared.ids.RowId.{RowId}
use Rattle.currency_base.specs.declared.row.Row.{Row}
use Rattle.part_laws.specs.Parts.{Scope, Places, rows_in, entities_in, ArePlacesOf, whole_row}
use Rattle.part_laws.proofs.Rows.{place_of, at_place, there, entity_of_row}
use Rattle.partial_orders.specs.Pairs.{entity_of}
use Rattle.spec_model.specs.declared.relation.Relation.{Relation}
use Rattle.part_whole.proofs.Numbers.{AreNumbers, number_at, number_of, as_many}

-- all entities
abbrev pub everything : Scope
everything rel ent = true

-- a row that stands for an entity is there
pub row_within : (rows : List Row) (row ent : ℕ) → entity_of rows row ≡ Some ent → row < length rows
row_within [] row ent of = absurd (none-some ent of)
row_within (r ∷ rows) zero ent of = omega arith
row_within (r ∷ rows) (suc row) ent of = let less = row_within rows row ent of in omega (arith, less)

module _ (relations : List Relation) (n : Places) (are : ArePlacesOf relations everything n) (rel : ℕ) (r : Relation)
    (at : slice_get relations rel ≡ Some r) where
  rows_are : AreNumbers RowId (λ row. row.0) (rows_in n rel) (length r.rows)
  rows_are = record {
    ascend = are.rows_ascend rel;
    below = λ i row is_row.
        let inside = (are.rows rel r at row).0 (at_place (rows_in n rel) i row is_row) in
        row_within r.rows row.0 inside.ent inside.is_of;
    all = λ k less.
        let one = there r.rows k less in
        let row : RowId = record { 0 = k } in
        let found = place_of (rows_in n rel) row ((are.rows rel r at row).1
        (record { ent = one.0.entity.0; is_of = entity_of_row r.rows k one.0 one.1; is_in = refl })) in
        (found.0, row, found.1, refl);
  }

  entities_are : AreNumbers EntId (λ ent. ent.0) (entities_in n rel) (length r.entities)
  entities_are = record {
    ascend = are.entities_ascend rel;
    below = λ i ent is_ent. ((are.entities rel r at ent).0 (at_place (entities_in n rel) i ent is_ent)).0;
    all = λ k less.
        let ent : EntId = record { 0 = k } in
        let found = place_of (entities_in n rel) ent ((are.entities rel r at ent).1 (less, refl)) in
        (found.0, ent, found.1, refl);
  }

  -- as many of each
  pub many_rows : length (rows_in n rel) ≡ length r.rows
  many_rows = as_many RowId (λ row. row.0) (rows_in n rel) (length r.rows) rows_are

  pub many_entities : length (entities_in n rel) ≡ length r.entities
  many_entities = as_many EntId (λ ent. ent.0) (entities_in n rel) (length r.entities) entities_are

  -- a row of the part is that row of the whole, and an entity that entity
  pub row_itself : (row : RowId) → row.0 < length r.rows → whole_row (rows_in n rel) row ≡ row
  row_itself row less =
      let one = number_at RowId (λ x. x.0) (rows_in n rel) (length r.rows) row.0 rows_are less in
      get_or_from_slice_get (rows_in n rel) row.0 one.0 row one.1
      ∙ ap (λ (k : ℕ). let x : RowId = record { 0 = k } in x) one.2

  pub entity_itself : (k : ℕ) (ent : EntId) → slice_get (entities_in n rel) k ≡ Some ent → ent.0 ≡ k
  entity_itself k ent is_ent =
      number_of EntId (λ x. x.0) (entities_in n rel) (length r.entities) k ent entities_are is_ent
