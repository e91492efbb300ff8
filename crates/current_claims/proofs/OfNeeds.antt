-- The rows that stand last, and what is claimed of them.
use Rattle.std.proofs.Common.{◌≡◌, ◌+◌, ◌<◌, ℕ, zero, suc, List, [], ◌∷◌, ◌++◌, All, Contains, Some, get_or, length, slice_get, refl, ap, subst, sym, ◌∙◌, arith}
use Rattle.std.proofs.lemmas.List.{append-nil, append_assoc, length-append}
use Rattle.std.proofs.lemmas.List.Elements.{All-append}
use Rattle.std.proofs.lemmas.Option.{none-some, same_Some, slice_get-get_or, slice_get_within}
use Rattle.currency_base.specs.declared.ids.AttrId.{AttrId}
use Rattle.currency_base.specs.declared.ids.EntId.{EntId}
use Rattle.currency_base.specs.declared.ids.RelId.{RelId}
use Rattle.currency_base.specs.declared.value.Value.{Value}
use Rattle.denial_rules.specs.Instances.{field_value}
use Rattle.spec_model.specs.Completion.{Rankings}
use Rattle.spec_model.specs.declared.relation.Relation.{Relation}
use Rattle.report_model.specs.declared.verdict.Current.{Current}
use Rattle.report_verify.specs.Supported.{Claim, Need, item_needs, value_needs}
use Rattle.report_verify.specs.Supported.Claim.{HasValue}
use Rattle.current_claims.specs.Claims.{AreOfRows, IsLastIn, IsOfRow}
use Rattle.current_claims.specs.Listed.{AreValuesOf, AreLastOf, IsLastAt}
use Rattle.current_claims.specs.declared.claims.CurrentRow.{CurrentRow}
use Rattle.current_claims.proofs.Lists.{pairs_append}

abbrev attr_of : ℕ → AttrId
attr_of n = record { 0 = n }

-- ---- what is claimed

-- the item's values are claimed behind those of the items before it
pushed_needs : (at : ℕ) (items : List Current) (item : Current)
    → (n : ℕ) × (item_needs at (items ++ item ∷ []) ≡ item_needs at items ++ value_needs n item.rel item.ent 0 item.values)
pushed_needs at [] item = (at, append-nil (value_needs at item.rel item.ent 0 item.values))
pushed_needs at (first ∷ items) item =
    let own = value_needs at first.rel first.ent 0 first.values in
    let more = pushed_needs (at + 1) items item in (
      more.0,
      ap (λ (needs : List Need). own ++ needs) more.1
          ∙ sym (append_assoc own (item_needs (at + 1) items) (value_needs more.0 item.rel item.ent 0 item.values)),
    )

as_many_values : (n : ℕ) (rel : RelId) (ent : EntId) (from : ℕ) (values : List Value)
    → length (value_needs n rel ent from values) ≡ length values
as_many_values n rel ent from [] = refl
as_many_values n rel ent from (v ∷ values) = omega (arith, as_many_values n rel ent (from + 1) values)

-- the value that is claimed at a place
record IsValueAt (rel : RelId) (ent : EntId) (from : ℕ) (values : List Value) (k : ℕ) (claim : Claim) : Type 0 where
  value : Value
  is_value : slice_get values k ≡ Some value
  is_claim : claim ≡ HasValue rel (attr_of (from + k)) ent value

value_at : (n : ℕ) (rel : RelId) (ent : EntId) (from : ℕ) (values : List Value) (k : ℕ) (need : Need)
    → slice_get (value_needs n rel ent from values) k ≡ Some need → IsValueAt rel ent from values k need.claim
value_at n rel ent from [] k need at = absurd (none-some need at)
value_at n rel ent from (v ∷ values) zero need at =
    let same : from ≡ from + 0 = omega arith in
    record {
      value = v;
      is_value = refl;
      is_claim = ap (λ (m : Need). m.claim) (sym (same_Some _ need at)) ∙ ap (λ a. HasValue rel (attr_of a) ent v) same;
    }
value_at n rel ent from (v ∷ values) (suc k) need at =
    let more = value_at n rel ent (from + 1) values k need at in
    let same : from + 1 + k ≡ from + suc k = omega arith in
    record {
      value = more.value;
      is_value = more.is_value;
      is_claim = more.is_claim ∙ ap (λ a. HasValue rel (attr_of a) ent more.value) same;
    }

-- ---- the rows of an entity

module _ (relations : List Relation) (rels : List RelId) (c : Rankings) (rel : RelId) (ent : EntId) (r : Relation)
    (asked : Contains rels rel) (is_relation : slice_get relations rel.0 ≡ Some r) (ent_within : ent.0 < length r.entities) where
  last_in : (attr : ℕ) (p : CurrentRow) → attr < length r.attrs → IsLastAt r c rel ent attr p → IsLastIn relations rels c p
  last_in attr p within last =
      subst (IsLastIn relations rels c) (sym last.is_row)
      (record {
        asked = asked;
        relation = r;
        is_relation = is_relation;
        attr_within = within;
        ent_within = ent_within;
        row_within = last.row_within;
        of_entity = last.of_entity;
        is_last = last.is_last;
      })

  rows_last : (rows : List CurrentRow) → AreLastOf r c rel ent (length r.attrs) rows → All (IsLastIn relations rels c) rows
  rows_last rows are k d below =
      let within : k < length r.attrs = omega (arith, are.per_attr) in
      last_in k (get_or rows k d) within (are.each k (get_or rows k d) (slice_get-get_or rows k d below))

  of_row : (values : List Value) (k : ℕ) (p : CurrentRow) (claim : Claim) → AreValuesOf r c rel.0 ent.0 (length r.attrs) values
      → k < length r.attrs → IsLastAt r c rel ent k p → IsValueAt rel ent 0 values k claim → IsOfRow relations p claim
  of_row values k p claim are within last is =
      let same : 0 + k ≡ k = omega arith in
      subst (λ (q : CurrentRow). IsOfRow relations q claim) (sym last.is_row)
      (record {
        value = is.value;
        is_claim = is.is_claim ∙ ap (λ a. HasValue rel (attr_of a) ent is.value) same;
        of_row = λ q at.
            subst (λ (s : Relation). field_value s.rows (Some last.row) k ≡ Some is.value) (same_Some r q (sym is_relation ∙ at))
            (ap (λ row. field_value r.rows row k) (sym last.is_last) ∙ sym (are.current k within) ∙ is.is_value);
      })

  pub of_entity : (n : ℕ) (values : List Value) (rows : List CurrentRow) → AreValuesOf r c rel.0 ent.0 (length r.attrs) values
      → AreLastOf r c rel ent (length r.attrs) rows → AreOfRows relations rels c rows (value_needs n rel ent 0 values)
  of_entity n values rows are last = record {
    as_many = last.per_attr ∙ sym are.per_attr ∙ sym (as_many_values n rel ent 0 values);
    last = rows_last rows last;
    each = λ k p need at claimed.
        let is = value_at n rel ent 0 values k need claimed in
        of_row values k p need.claim are (within k p at) (last.each k p at) is;
  }
    where
      within : (k : ℕ) (p : CurrentRow) → slice_get rows k ≡ Some p → k < length r.attrs
      within k p at = omega (arith, slice_get_within rows k p at, last.per_attr)

-- ---- the rows of entities

rows_append : (relations : List Relation) (rels : List RelId) (c : Rankings) (rows more : List CurrentRow)
    (needs further : List Need)
    → AreOfRows relations rels c rows needs → AreOfRows relations rels c more further
    → AreOfRows relations rels c (rows ++ more) (needs ++ further)
rows_append relations rels c rows more needs further front behind = record {
  as_many = omega (arith, length-append rows more, length-append needs further, front.as_many, behind.as_many);
  last = All-append (IsLastIn relations rels c) rows more front.last behind.last;
  each = pairs_append (λ (p : CurrentRow) (need : Need). IsOfRow relations p need.claim) rows more needs further
      front.as_many front.each behind.each;
}

-- the rows of one entity more
pub rows_more : (relations : List Relation) (rels : List RelId) (c : Rankings) (items : List Current)
    (item : Current) (rows more : List CurrentRow)
    → AreOfRows relations rels c rows (item_needs 0 items)
    → ((n : ℕ) → AreOfRows relations rels c more (value_needs n item.rel item.ent 0 item.values))
    → AreOfRows relations rels c (rows ++ more) (item_needs 0 (items ++ item ∷ []))
rows_more relations rels c items item rows more front behind =
    let needs = pushed_needs 0 items item in
    subst (AreOfRows relations rels c (rows ++ more)) (sym needs.1)
    (rows_append relations rels c rows more (item_needs 0 items)
    (value_needs needs.0 item.rel item.ent 0 item.values) front (behind needs.0))
