-- The values of an entity and the rows that stand last, one attribute after another.
use Rattle.std.proofs.Common.{◌≡◌, ⊎_elim, ◌+◌, ◌<◌, ◌≤◌, ℕ, List, [], ◌∷◌, ◌++◌, Some, length, slice_get, ap, subst, sym, ◌∙◌}
use Rattle.std.proofs.lemmas.List.{append_assoc, length_push}
use Rattle.std.proofs.lemmas.List.Elements.{All-push}
use Rattle.currency_base.specs.declared.ids.AttrId.{AttrId}
use Rattle.currency_base.specs.declared.ids.EntId.{EntId}
use Rattle.currency_base.specs.declared.ids.RelId.{RelId}
use Rattle.currency_base.specs.declared.ids.RowId.{RowId}
use Rattle.currency_base.specs.declared.value.Value.{Value}
use Rattle.current_tuples.proofs.Pushed.{same_pushed}
use Rattle.partial_orders.specs.Pairs.{entity_of}
use Rattle.spec_model.specs.Completion.{Rankings, ranking_of}
use Rattle.spec_model.specs.Current.{current_value, last_row}
use Rattle.spec_model.specs.declared.relation.Relation.{Relation}
use Rattle.current_tuples.specs.Places.{IsEntityOf}
use Rattle.report_model.specs.declared.verdict.Current.{Current}
use Rattle.currency_base.specs.Values.{IsValue}
use Rattle.current_claims.specs.Listed.{AddsEntity, AddsLastOf, AreLastOf, AreValuesOf, IsLastAt}
use Rattle.current_claims.specs.declared.claims.Claims.{Claims}
use Rattle.current_claims.specs.declared.claims.CurrentRow.{CurrentRow}
use Rattle.current_claims.proofs.Lists.{pushed_cases}

-- the value of one attribute more
pub values_more : (r : Relation) (c : Rankings) (rel ent count : ℕ) (values : List Value) (value copy : Value)
    → current_value c rel r.rows count ent ≡ Some value → IsValue value → copy ≡ value
    → AreValuesOf r c rel ent count values → AreValuesOf r c rel ent (count + 1) (values ++ copy ∷ [])
values_more r c rel ent count values value copy is_current is_value same are = record {
  per_attr = length_push values copy ∙ ap (λ n. n + 1) are.per_attr;
  current = same_pushed (λ attr. current_value c rel r.rows attr ent) values count copy are.per_attr
      (is_current ∙ ap Some (sym same)) are.current;
  writable = All-push IsValue values copy are.writable (subst IsValue (sym same) is_value);
}

module _ (r : Relation) (c : Rankings) (rel : RelId) (ent : EntId) where
  -- the row of one attribute more
  last_more : (attr : AttrId) (rows : List CurrentRow) (row : RowId) → row.0 < length r.rows → entity_of r.rows row.0 ≡ Some ent.0
      → last_row (ranking_of c rel.0 attr.0 ent.0) ≡ Some row → AreLastOf r c rel ent attr.0 rows
      → AreLastOf r c rel ent (attr.0 + 1) (rows ++ record { rel = rel; attr = attr; ent = ent; row = row } ∷ [])
  last_more attr rows row within of_entity is_last are = record {
    per_attr = length_push rows one ∙ ap (λ n. n + 1) are.per_attr;
    each = λ k p at. ⊎_elim (are.each k p) (λ (end : (k ≡ length rows) × (one ≡ p)). here k p end.0 end.1)
        (pushed_cases rows one k p at);
  }
    where
      one : CurrentRow
      one = record { rel = rel; attr = attr; ent = ent; row = row }

      here : (k : ℕ) (p : CurrentRow) → k ≡ length rows → one ≡ p → IsLastAt r c rel ent k p
      here k p end is =
          subst (λ n. IsLastAt r c rel ent n p) (sym (end ∙ are.per_attr))
          (record { row = row; is_row = sym is; row_within = within; of_entity = of_entity; is_last = is_last })

  pub adds_more : (attr : AttrId) (old rows new : List CurrentRow) (row : RowId) → row.0 < length r.rows
      → entity_of r.rows row.0 ≡ Some ent.0
      → last_row (ranking_of c rel.0 attr.0 ent.0) ≡ Some row → new ≡ rows
      ++ record { rel = rel; attr = attr; ent = ent; row = row } ∷ []
      → AddsLastOf r c rel ent attr.0 old rows → AddsLastOf r c rel ent (attr.0 + 1) old new
  adds_more attr old rows new row within of_entity is_last grown adds =
      let one : CurrentRow = record { rel = rel; attr = attr; ent = ent; row = row } in
      record {
        more = adds.more ++ one ∷ [];
        are_last = last_more attr adds.more row within of_entity is_last adds.are_last;
        grown = grown ∙ ap (λ (rows : List CurrentRow). rows ++ one ∷ []) adds.grown ∙ append_assoc old adds.more (one ∷ []);
      }

-- both, for an entity that is there
pub adds_entity : (relations : List Relation) (c : Rankings) (rel : RelId) (ent : EntId) (old : Claims)
    (values : List Value) (items : List Current) (rows : List CurrentRow) → IsEntityOf relations rel.0 ent.0
    → length values ≤ 4294967294
    → ((r : Relation) → slice_get relations rel.0 ≡ Some r → AreValuesOf r c rel.0 ent.0 (length r.attrs) values)
    → ((r : Relation) → slice_get relations rel.0 ≡ Some r → AddsLastOf r c rel ent (length r.attrs) old.rows rows)
    → items ≡ old.items ++ record { rel = rel; ent = ent; values = values } ∷ []
    → AddsEntity relations c rel ent old (record { items = items; rows = rows })
adds_entity relations c rel ent old values items rows entity few are adds grown =
    let r = entity.relation in
    let added = adds r entity.is_relation in
    record {
      relation = r;
      is_relation = entity.is_relation;
      ent_within = entity.ent_within;
      values = values;
      few = few;
      are_values = are r entity.is_relation;
      more = added.more;
      are_last = added.are_last;
      items_grown = grown;
      rows_grown = added.grown;
    }
