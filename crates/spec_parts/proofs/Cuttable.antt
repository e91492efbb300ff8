-- The places of a scope can be cut out.
use Rattle.std.proofs.Common.{◌≡◌, ◌⊎◌, ◌<◌, ◌≤◌, ℕ, zero, suc, true, List, [], ◌∷◌, All, Some, length, slice_get, refl, sym, subst, inl, inr, arith}
use Rattle.std.proofs.lemmas.Bool.{cases_lt}
use Rattle.std.proofs.lemmas.Option.{none-some, same_Some, slice_get_within}
use Rattle.currency_base.specs.declared.ids.EntId.{EntId}
use Rattle.currency_base.specs.declared.ids.RowId.{RowId}
use Rattle.currency_base.specs.declared.row.Row.{Row}
use Rattle.partial_orders.specs.Pairs.{entity_of}
use Rattle.spec_model.specs.Facts.{IsRelation, AreRelations}
use Rattle.spec_model.specs.declared.relation.Relation.{Relation}
use Rattle.part_laws.specs.Parts.{Scope, Places, ArePlacesOf, IsRowIn, rows_in, entities_in}
use Rattle.spec_parts.specs.Steps.{IsListedRow, IsCuttable, AreCuttable}
use Rattle.spec_parts.proofs.Pairing.{item_at, is_in, item_has, each_has}

-- ---- how many ascend below a number

module _ {A : Type 0} (key : A → ℕ) (xs : List A)
    (ascend : (i j : ℕ) (x y : A) → i < j → slice_get xs i ≡ Some x → slice_get xs j ≡ Some y → key x < key y) where
  low : (i : ℕ) (x : A) → slice_get xs i ≡ Some x → i ≤ key x
  low zero x at = omega arith
  low (suc i) x at =
      let within = slice_get_within xs (suc i) x at in
      let before = item_at xs i (omega (arith, within)) in
      let less : key before.0 < key x = ascend i (suc i) before.0 x (omega arith) before.1 at in
      omega (arith, less, low i before.0 before.1)

  pub few : (n : ℕ) → All (λ x. key x < n) xs → length xs ≤ n
  few n all = by (cases_lt n (length xs))
    where
      by : (n < length xs) ⊎ (length xs ≤ n) → length xs ≤ n
      by (inl more) =
          let x = item_at xs n more in
          absurd (omega (arith, low n x.0 x.1, item_has (λ y. key y < n) xs all n x.0 x.1))
      by (inr h) = h

-- ---- a row and its entity

pub row_of_entity : (rows : List Row) (n ent : ℕ) → entity_of rows n ≡ Some ent
    → (one : Row) × (slice_get rows n ≡ Some one) × (one.entity.0 ≡ ent)
row_of_entity [] n ent of = absurd (none-some ent of)
row_of_entity (r ∷ rows) zero ent of = (r, refl, same_Some r.entity.0 ent of)
row_of_entity (r ∷ rows) (suc n) ent of = row_of_entity rows n ent of

-- ---- the places of a scope

module _ (relations : List Relation) (scope : Scope) (n : Places) (facts : AreRelations relations)
    (places : ArePlacesOf relations scope n) where
  cuttable_at : (rel : ℕ) (r : Relation) → slice_get relations rel ≡ Some r → IsCuttable r (rows_in n rel) (entities_in n rel)
  cuttable_at rel r at = record {
    facts = is;
    rows_ascend = places.rows_ascend rel;
    entities_ascend = places.entities_ascend rel;
    few_rows = omega (arith, few (λ x. x.0) (rows_in n rel) (places.rows_ascend rel) (length r.rows) rows_within, is.few_rows);
    few_entities = omega (
      arith,
      few (λ x. x.0) (entities_in n rel) (places.entities_ascend rel) (length r.entities) named,
      is.few_entities,
    );
    listed = each_has (IsListedRow r.rows (entities_in n rel)) (rows_in n rel) listed;
    named = named;
    complete = λ row ent of c.
        (places.rows rel r at row).1 (record { ent = ent.0; is_of = of; is_in = ((places.entities rel r at ent).0 c).1 });
  }
    where
      is : IsRelation r
      is = item_has IsRelation relations facts.each rel r at

      named : All (λ (ent : EntId). ent.0 < length r.entities) (entities_in n rel)
      named = each_has (λ (ent : EntId). ent.0 < length r.entities) (entities_in n rel)
          (λ k ent at_ent. ((places.entities rel r at ent).0 (is_in (entities_in n rel) k ent at_ent)).0)

      row_in : (k : ℕ) (row : RowId) → slice_get (rows_in n rel) k ≡ Some row → IsRowIn scope rel r.rows row
      row_in k row at_row = (places.rows rel r at row).0 (is_in (rows_in n rel) k row at_row)

      rows_within : All (λ (row : RowId). row.0 < length r.rows) (rows_in n rel)
      rows_within = each_has (λ (row : RowId). row.0 < length r.rows) (rows_in n rel)
          (λ k row at_row.
          let found = row_in k row at_row in
          let one = row_of_entity r.rows row.0 found.ent found.is_of in
          slice_get_within r.rows row.0 one.0 one.1)

      listed : (k : ℕ) (row : RowId) → slice_get (rows_in n rel) k ≡ Some row → IsListedRow r.rows (entities_in n rel) row
      listed k row at_row =
          let found = row_in k row at_row in
          let one = row_of_entity r.rows row.0 found.ent found.is_of in
          let below : one.0.entity.0 < length r.entities = item_has (λ (q : Row). q.entity.0 < length r.entities)
          r.rows is.entities row.0
          one.0 one.1 in
          record {
            old = one.0;
            is_old = one.1;
            listed = (places.entities rel r at one.0.entity).1 (below, subst (λ e. scope rel e ≡ true) (sym one.2) found.is_in);
          }

  pub cuttable : AreCuttable relations n
  cuttable = record {
    facts = facts;
    rows_per_relation = places.rows_per_relation;
    entities_per_relation = places.entities_per_relation;
    each = cuttable_at;
  }
