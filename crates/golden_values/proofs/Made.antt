-- The fact for a field is made from the row that stands last.
use Rattle.std.proofs.Common.{◌≡◌, ◌∙◌, ◌<◌, ℕ, zero, suc, List, [], ◌∷◌, Some, length, map, slice_get, refl, sym, ap, arith}
use Rattle.std.proofs.lemmas.List.{length-map}
use Rattle.std.proofs.lemmas.Option.{none-some, same_Some}
use Rattle.currency_base.specs.Values.{kind_of}
use Rattle.currency_base.specs.declared.ids.RowId.{RowId}
use Rattle.currency_base.specs.declared.row.Row.{Row}
use Rattle.currency_base.specs.declared.value.Value.{Value}
use Rattle.current_tuples.specs.Places.{IsPlaceOf}
use Rattle.denial_rules.specs.Instances.{field_value, value_in}
use Rattle.match_premises.specs.declared.premise.Premise.{Premise}
use Rattle.posed_facts.specs.declared.fact.Fact.TheVariants as fact
use Rattle.spec_model.specs.Completion.{Rankings, ranking_of}
use Rattle.spec_model.specs.Current.{last_row}
use Rattle.spec_model.specs.Facts.{AreRelations, IsRelation, kinds_of}
use Rattle.spec_model.specs.Pairs.{entity_of}
use Rattle.spec_model.specs.declared.relation.Relation.{Relation}
use Rattle.golden_values.specs.Steps.{IsClaimAt}
use Rattle.golden_values.proofs.Lists.{item_at, item_has}

-- a row that stands for an entity is there
pub row_of : (rows : List Row) (at ent : ℕ) → entity_of rows at ≡ Some ent
    → (w : Row) × (slice_get rows at ≡ Some w) × (w.entity.0 ≡ ent)
row_of [] at ent is = absurd (none-some ent is)
row_of (w ∷ rows) zero ent is = (w, refl, same_Some w.entity.0 ent is)
row_of (w ∷ rows) (suc at) ent is = row_of rows at ent is

-- a row of a relation has a value of each attribute
value_of : (r : Relation) → IsRelation r → (row : RowId) (ent attr : ℕ) → entity_of r.rows row.0 ≡ Some ent
    → attr < length r.attrs → (value : Value) × (field_value r.rows (Some row) attr ≡ Some value)
value_of r facts row ent attr is below =
    let w = row_of r.rows row.0 ent is in
    let kinds : map kind_of w.0.values ≡ kinds_of r =
    item_has (λ (u : Row). map kind_of u.values ≡ kinds_of r) r.rows facts.values row.0 w.0 w.1 in
    let many : length w.0.values ≡ length r.attrs =
    sym (length-map w.0.values kind_of) ∙ ap length kinds ∙ length-map r.attrs (λ a. a.kind) in
    let value = item_at w.0.values attr (omega (arith, many, below)) in
    (value.0, ap (λ o. value_in o attr) w.1 ∙ value.1)

-- the claim with that row says that the value which the completion has there is the current one
pub claim_made : (relations : List Relation) → AreRelations relations → (c : Rankings) (claim : Premise) (ent : ℕ)
    → IsPlaceOf relations claim.rel.0 claim.attr.0 ent
    → last_row (ranking_of c claim.rel.0 claim.attr.0 ent) ≡ Some claim.row
    → ((r : Relation) → slice_get relations claim.rel.0 ≡ Some r → entity_of r.rows claim.row.0 ≡ Some ent)
    → (r : Relation) → slice_get relations claim.rel.0 ≡ Some r
    → IsClaimAt claim.rel.0 r c ent claim.attr.0 (fact.Current claim)
claim_made relations are c claim ent place last of r at =
    let facts = item_has IsRelation relations are.each claim.rel.0 r at in
    let same : place.relation ≡ r = same_Some place.relation r (sym place.is_relation ∙ at) in
    let below : claim.attr.0 < length r.attrs = rw (← same) place.attr_within in
    let value = value_of r facts claim.row ent claim.attr.0 (of r at) below in
    record {
      claim = claim;
      is_claim = refl;
      of_relation = refl;
      of_attr = refl;
      of_entity = of r at;
      value = value.0;
      of_value = value.1;
      current = ap (λ o. field_value r.rows o claim.attr.0) last ∙ value.1;
    }
