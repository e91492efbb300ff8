-- What is read for a claim.
use Rattle.std.proofs.Common.{◌≡◌, ◌∙◌, ◌<◌, ℕ, List, Some, length, map, slice_get, sym, ap, ap₂, arith}
use Rattle.std.proofs.lemmas.List.{length-map}
use Rattle.std.proofs.lemmas.Option.{same_Some}
use Rattle.currency_base.specs.Values.{kind_of}
use Rattle.currency_base.specs.declared.row.Row.{Row}
use Rattle.currency_base.specs.declared.value.Value.{Value}
use Rattle.denial_rules.specs.Instances.{value_in}
use Rattle.match_premises.specs.declared.premise.Premise.{Premise}
use Rattle.spec_model.specs.Completion.{Rankings}
use Rattle.spec_model.specs.Current.{current_value}
use Rattle.spec_model.specs.Facts.{AreRelations, IsRelation, kinds_of}
use Rattle.spec_model.specs.declared.relation.Relation.{Relation}
use Rattle.posed_facts.specs.Facts.{IsPlaced, IsCurrent}
use Rattle.posed_facts.specs.Questions.{attrs_in, claim_attrs, claim_name, claim_row, claim_value, name_in, row_in}
use Rattle.posed_facts.proofs.Lists.{item_at, item_has, mapped}

-- the relation, the row, its entity's name and its value that a claim speaks of
pub record IsRead (relations : List Relation) (p : Premise) : Type 0 where
  pub relation : Relation
  pub is_relation : slice_get relations p.rel.0 ≡ Some relation
  pub fits : IsRelation relation
  pub below : p.attr.0 < length relation.attrs
  pub row : Row
  pub is_row : slice_get relation.rows p.row.0 ≡ Some row
  pub name : List ℕ
  pub is_name : slice_get relation.entities row.entity.0 ≡ Some name
  pub value : Value
  pub is_value : slice_get row.values p.attr.0 ≡ Some value
  pub kind : slice_get (kinds_of relation) p.attr.0 ≡ Some (kind_of value)
  pub reads_row : claim_row relations p ≡ Some row
  pub reads_name : claim_name relations p ≡ Some name
  pub reads_attrs : claim_attrs relations p ≡ length relation.attrs
  pub reads_value : claim_value relations p ≡ Some value

-- the row is read
read_row : (relations : List Relation) (p : Premise) → (placed : IsPlaced relations p)
    → claim_row relations p ≡ Some placed.row
read_row relations p placed = ap (λ o. row_in o p) placed.is_relation ∙ placed.is_row

-- a claim's row has the kinds of the attributes
row_kinds : (relations : List Relation) → AreRelations relations → (p : Premise) → (placed : IsPlaced relations p)
    → map kind_of placed.row.values ≡ kinds_of placed.relation
row_kinds relations are p placed =
    let fits = item_has IsRelation relations are.each p.rel.0 placed.relation placed.is_relation in
    item_has (λ (w : Row). map kind_of w.values ≡ kinds_of placed.relation) placed.relation.rows fits.values p.row.0 placed.row
    placed.is_row

-- a claim's row has a value of its attribute
pub valued : (relations : List Relation) → AreRelations relations → (p : Premise) → (placed : IsPlaced relations p)
    → p.attr.0 < length placed.row.values
valued relations are p placed =
    omega (
      arith,
      placed.attr,
      length-map placed.row.values kind_of,
      ap (λ l. length l) (row_kinds relations are p placed),
      length-map placed.relation.attrs (λ a. a.kind),
    )

-- all is read of a claim that can be made
pub is_read : (relations : List Relation) → AreRelations relations → (p : Premise) → IsPlaced relations p → IsRead relations p
is_read relations are p placed =
    let r = placed.relation in
    let row = placed.row in
    let fits = item_has IsRelation relations are.each p.rel.0 r placed.is_relation in
    let name = item_at r.entities row.entity.0
    (item_has (λ (w : Row). w.entity.0 < length r.entities) r.rows fits.entities p.row.0 row placed.is_row) in
    let value = item_at row.values p.attr.0 (valued relations are p placed) in
    let read = read_row relations p placed in
    record {
      relation = r;
      is_relation = placed.is_relation;
      fits = fits;
      below = placed.attr;
      row = row;
      is_row = placed.is_row;
      name = name.0;
      is_name = name.1;
      value = value.0;
      is_value = value.1;
      kind = ap (λ l. slice_get l p.attr.0) (sym (row_kinds relations are p placed))
          ∙ mapped kind_of row.values p.attr.0 value.0 value.1;
      reads_row = read;
      reads_name = ap₂ (λ o w. name_in o w) placed.is_relation read ∙ name.1;
      reads_attrs = ap attrs_in placed.is_relation;
      reads_value = ap (λ o. value_in o p.attr.0) read ∙ value.1;
    }

-- the row that is read has a value of the attribute
pub has_value : (relations : List Relation) → AreRelations relations → (p : Premise) → IsPlaced relations p → (row : Row)
    → claim_row relations p ≡ Some row → p.attr.0 < length row.values
has_value relations are p placed row is =
    let same : placed.row ≡ row = same_Some placed.row row (sym (read_row relations p placed) ∙ is) in
    rw (← same) (valued relations are p placed)

-- ---- what is claimed holds where the value that is read is the current one

-- the current value of the claim's entity
abbrev pub current_of : (relations : List Relation) (p : Premise) → IsRead relations p → Rankings → Value → Type 0
current_of relations p read c x = current_value c p.rel.0 read.relation.rows p.attr.0 read.row.entity.0 ≡ Some x

-- from the claim to the current value
pub claim_current : (relations : List Relation) (p : Premise) → (read : IsRead relations p) → (c : Rankings)
    → IsCurrent relations p c → current_of relations p read c read.value
claim_current relations p read c own =
    let same : own.relation ≡ read.relation =
    same_Some own.relation read.relation (sym own.is_relation ∙ read.is_relation) in
    let row : own.row ≡ read.row =
    same_Some own.row read.row (sym own.is_row ∙ ap (λ (r : Relation). slice_get r.rows p.row.0) same ∙ read.is_row) in
    ap₂ (λ (r : Relation) (w : Row). current_value c p.rel.0 r.rows p.attr.0 w.entity.0) (sym same) (sym row)
    ∙ own.current
    ∙ sym own.is_value
    ∙ ap (λ (w : Row). slice_get w.values p.attr.0) row
    ∙ read.is_value

-- and back
pub current_claim : (relations : List Relation) (p : Premise) → (read : IsRead relations p) → (c : Rankings)
    → current_of relations p read c read.value → IsCurrent relations p c
current_claim relations p read c current =
    record {
      relation = read.relation;
      is_relation = read.is_relation;
      row = read.row;
      is_row = read.is_row;
      value = read.value;
      is_value = read.is_value;
      current = current;
    }
