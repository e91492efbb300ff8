-- One place of an atom: where its term asks for a value, the judge has the claim of a row with the entity's current
-- value, and the maker says the same of it.
use Rattle.std.proofs.Common.{◌≡◌, ◌∙◌, ◌<◌, true, List, Option, Some, None, option_map, length, slice_get, refl, sym, ap, subst}
use Rattle.std.proofs.lemmas.Option.{same_Some, none-some}
use Rattle.currency_base.specs.declared.ids.AttrId.{AttrId}
use Rattle.currency_base.specs.declared.ids.EntId.{EntId}
use Rattle.currency_base.specs.declared.ids.RelId.{RelId}
use Rattle.currency_base.specs.declared.ids.RowId.{RowId}
use Rattle.currency_base.specs.declared.value.Value.{Value}
use Rattle.current_tuples.specs.Places.{IsPlaceOf}
use Rattle.current_tuples.proofs.Readable.{last_of_entity, row_within}
use Rattle.denial_rules.specs.Instances.{field_value}
use Rattle.entity_rows.specs.Members.{members}
use Rattle.entity_rows.proofs.Membership.{entity_member, member_of_entity}
use Rattle.match_premises.specs.Premises.{claim_of, has_value}
use Rattle.match_premises.specs.declared.premise.Premise.{Premise}
use Rattle.partial_orders.specs.Pairs.{entity_of}
use Rattle.spec_model.specs.Completion.{IsCompletion, Rankings, ranking_of}
use Rattle.spec_model.specs.Current.{current_value, last_row}
use Rattle.spec_model.specs.Facts.{AreRelations, IsRelation}
use Rattle.spec_model.specs.declared.relation.Relation.{Relation}
use Rattle.log_axioms.specs.Axioms as judged
use Rattle.axiom_agreement.proofs.Agreeing.{Agrees}
use Rattle.axiom_agreement.proofs.Sayings.{last_agrees}
use Rattle.order_literals.proofs.Items.{in_at, place_of}
use Rattle.order_clauses.proofs.Reading.{all_at}
use Rattle.order_literals.specs.Said.{Said, not_last}
use Rattle.order_literals.specs.Truth.{IsCurrent}
use Rattle.value_names.proofs.NameFacts.{have_one_alike, named, same_name}
use Rattle.value_names.specs.Names.{are_alike, name_of}
use Rattle.match_clauses.specs.Claimed.{not_current}
use Rattle.match_clauses.proofs.Sources.{said_of_row}
use Rattle.match_clauses.proofs.Values.{IsFound, equal_passes, found_one, passed_equal}

-- what is said denies a value that is current
pub record IsDenied (relations : List Relation) (c : Rankings) (said : Said) : Type 0 where
  pub rel : RelId
  pub attr : AttrId
  pub row : RowId
  pub is : said ≡ not_last rel attr row
  pub is_current : IsCurrent relations c rel.0 attr.0 row

-- the row that stands last has the current value
record IsLastRow (c : Rankings) (rel : RelId) (r : Relation) (attr : AttrId) (ent : EntId) (x : Value) : Type 0 where
  row : RowId
  is_last : last_row (ranking_of c rel.0 attr.0 ent.0) ≡ Some row
  has : field_value r.rows (Some row) attr.0 ≡ Some x

last_has : (c : Rankings) (rel : RelId) (r : Relation) (attr : AttrId) (ent : EntId) (x : Value)
    → current_value c rel.0 r.rows attr.0 ent.0 ≡ Some x → IsLastRow c rel r attr ent x
last_has c rel r attr ent x now = go (last_row (ranking_of c rel.0 attr.0 ent.0)) refl now
  where
    go : (o : Option RowId) → last_row (ranking_of c rel.0 attr.0 ent.0) ≡ o → field_value r.rows o attr.0 ≡ Some x
        → IsLastRow c rel r attr ent x
    go None is e = absurd (none-some x e)
    go (Some row) is e = record { row = row; is_last = is; has = e }

-- ---- a place

-- the judge's claim of a value, and the maker's
pub record IsClaimed (relations : List Relation) (c : Rankings) (rel : RelId) (r : Relation) (attr : AttrId)
    (ent : EntId) (x : Value) : Type 0 where
  pub row : RowId
  pub is_claim : claim_of rel r.rows (members r.rows ent.0) attr (Some x) ≡ Some
      (Some record { rel = rel; attr = attr; row = row })
  pub agrees : Agrees relations (not_current relations c rel attr ent) (judged.not_last rel attr row)
  pub denied : IsDenied relations c (not_current relations c rel attr ent)

pub claimed : (relations : List Relation) (c : Rankings) → AreRelations relations → IsCompletion relations c →
    (rel : RelId) (r : Relation)
    → slice_get relations rel.0 ≡ Some r → (attr : AttrId) (ent : EntId) → attr.0 < length r.attrs
    → ent.0 < length r.entities → (x : Value)
    → current_value c rel.0 r.rows attr.0 ent.0 ≡ Some x → IsClaimed relations c rel r attr ent x
claimed relations c are completion rel r at attr ent attr_in ent_in x now = record {
  row = other;
  is_claim = ap (option_map (λ (row : RowId). let p : Premise = record { rel = rel; attr = attr; row = row } in Some
      p)) found.is_found;
  agrees = subst (λ (said : Said). Agrees relations said (judged.not_last rel attr other))
      (ap (not_last rel attr) one_name ∙ is_said)
      (last_agrees relations rel attr other true r
      (record { is_relation = at; facts = facts; attr_in = attr_in; row_in = row_within r.rows other.0 ent.0 other_of }));
  denied = record { rel = rel; attr = attr; row = name_of r.rows attr.0 row; is = sym is_said; is_current = current };
}
  where
    facts : IsRelation r
    facts = all_at IsRelation relations rel.0 r are.each at

    last : IsLastRow c rel r attr ent x
    last = last_has c rel r attr ent x now

    row : RowId
    row = last.row

    place : IsPlaceOf relations rel.0 attr.0 ent.0
    place = record { relation = r; is_relation = at; attr_within = attr_in; ent_within = ent_in }

    row_of : entity_of r.rows row.0 ≡ Some ent.0
    row_of = last_of_entity relations c rel.0 attr.0 ent.0 completion place row last.is_last r at

    found : IsFound (has_value r.rows attr x) (members r.rows ent.0)
    found =
        let there = entity_member r.rows ent.0 row row_of in
        found_one (has_value r.rows attr x) (members r.rows ent.0) row (in_at (members r.rows ent.0) there.0 row there.1)
        (equal_passes (field_value r.rows (Some row) attr.0) x last.has)

    other : RowId
    other = found.found

    other_of : entity_of r.rows other.0 ≡ Some ent.0
    other_of =
        let there = place_of (members r.rows ent.0) other found.is_in in
        member_of_entity r.rows ent.0 there.0 other there.1

    other_has : field_value r.rows (Some other) attr.0 ≡ Some x
    other_has = passed_equal (field_value r.rows (Some other) attr.0) x found.passes

    alike : are_alike r.rows attr.0 other row ≡ true
    alike =
        have_one_alike r.rows attr.0 other row
        (record { ent = ent.0; entity = other_of; other_entity = row_of; value = x; here = other_has; there = last.has })

    one_name : name_of r.rows attr.0 other ≡ name_of r.rows attr.0 row
    one_name = same_name r attr.0 facts attr_in other row (row_within r.rows other.0 ent.0 other_of) alike

    is_said : not_last rel attr (name_of r.rows attr.0 row) ≡ not_current relations c rel attr ent
    is_said = said_of_row relations c rel attr ent r row at last.is_last

    current : IsCurrent relations c rel.0 attr.0 (name_of r.rows attr.0 row)
    current =
        let h = (named r attr.0 facts attr_in row (row_within r.rows row.0 ent.0 row_of)).have_one in
        let same_ent : h.ent ≡ ent.0 = same_Some h.ent ent.0 (sym h.entity ∙ row_of) in
        let same_value : h.value ≡ x = same_Some h.value x (sym h.here ∙ last.has) in
        record {
          relation = r;
          is_relation = at;
          ent = ent.0;
          of_entity = h.other_entity ∙ ap Some same_ent;
          value = x;
          of_row = h.there ∙ ap Some same_value;
          current = now;
        }

-- the claim of a term that asks for a value
pub place_is : (rel : RelId) (r : Relation) (ent : EntId) (values : List Value) (attr : AttrId) (o : Option Value)
    (x : Value) → o ≡ Some x
    → claim_of rel r.rows (members r.rows ent.0) attr o ≡ claim_of rel r.rows (members r.rows ent.0) attr (Some x)
place_is rel r ent values attr o x e = ap (claim_of rel r.rows (members r.rows ent.0) attr) e
