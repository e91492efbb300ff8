-- The axioms of a relation whose current values are wanted.
use Rattle.std.proofs.Common.{◌≡◌, ◌∙◌, ◌&&◌, ◌<◌, ℕ, true, false, cond, List, [], ◌∷◌, Option, Some, None, length, map, slice_get, refl, sym, subst}
use Rattle.std.proofs.lemmas.Bool.{and_from, and_parts}
use Rattle.std.proofs.lemmas.Option.{none-some}
use Rattle.currency_base.specs.declared.ids.AttrId.{AttrId}
use Rattle.currency_base.specs.declared.ids.RelId.{RelId}
use Rattle.currency_base.specs.declared.ids.RowId.{RowId}
use Rattle.partial_orders.specs.Pairs.{entity_of}
use Rattle.spec_model.specs.Facts.{IsRelation, AreRelations}
use Rattle.spec_model.specs.Spec.{Spec}
use Rattle.spec_model.specs.declared.relation.Relation.{Relation}
use Rattle.refutation_log.specs.declared.step.Label.TheVariants as label
use Rattle.log_axioms.specs.Axioms as judged
use Rattle.log_axioms.specs.Axioms.{is_attr, same_entity, top_clause, last_clause, value_clause}
use Rattle.log_axioms.specs.declared.signed.Signed.{Signed}
use Rattle.order_literals.specs.Axioms.{others, alike, IsAxiom}
use Rattle.order_literals.specs.Said.{Said, not_before, top, not_top, last, not_last}
use Rattle.value_names.specs.Names.{name_of}
use Rattle.order_clauses.proofs.GivenPairs.{entity_there}
use Rattle.order_clauses.proofs.Members.{row_within}
use Rattle.order_clauses.proofs.Reading.{all_at}
use Rattle.axiom_agreement.proofs.Agreeing.{AllAgree, all_agree_map}
use Rattle.axiom_agreement.proofs.Sayings.{IsRowIn, IsJudged, HasAxiom, judged_of, order_agrees, top_agrees, last_agrees}
use Rattle.axiom_agreement.proofs.Tests.{attr_passes, passed_attr, entity_passes, passed_entity, others_are, alike_are, given_if, then_given, in_relation_at, in_relation_is}

-- ---- a row stands last, or another does not stand before it

top_signed : RelId → AttrId → RowId → Relation → ℕ → List Signed
top_signed rel attr row r ent = judged.top rel attr row ∷ map (λ other. judged.not_before rel attr other row)
    (judged.others r.rows ent row)

top_at : (rel : RelId) (attr : AttrId) (row : RowId) (r : Relation) (ent : ℕ) → entity_of r.rows row.0 ≡ Some ent
    → top_clause rel attr row r ≡ cond (is_attr r attr) (Some (top_signed rel attr row r ent)) None
unfolding top_signed
top_at rel attr row r ent of = rw of refl

pub top_made : (s : Spec) (rel : RelId) (attr : AttrId) (row : RowId) (clause : List Said)
    → IsAxiom s (label.Top rel attr row) clause
    → IsJudged s (label.Top rel attr row) clause
unfolding top_signed
top_made s rel attr row clause x =
    let r = x.0 in
    let ent = x.2.1 in
    let of = x.2.2 in
    let others_said : List RowId → List Said = λ rows. map (λ other. not_before rel attr other row) rows in
    let agree : AllAgree s.relations (others_said (others r.rows ent row))
    (map (λ other. judged.not_before rel attr other row) (judged.others r.rows ent row)) =
    subst (λ rows. AllAgree s.relations (others_said rows) (map (λ other. judged.not_before rel attr other row)
    (judged.others r.rows ent row))) (others_are r.rows ent row)
    (all_agree_map s.relations (λ other. not_before rel attr other row) (λ other. judged.not_before rel attr other row)
    (λ other. order_agrees s.relations rel attr other row true) (judged.others r.rows ent row)) in
    let made : IsJudged s (label.Top rel attr row) (top rel attr row ∷ others_said (others r.rows ent row)) = record {
      signed = top_signed rel attr row r ent;
      is = in_relation_at s.relations rel r (top_clause rel attr row) x.1
          ∙ top_at rel attr row r ent of ∙ then_given (is_attr r attr) (Some (top_signed rel attr row r ent))
          (attr_passes r attr x.2.0);
      agree = (top_agrees s.relations rel attr row false, agree);
    } in
    subst (IsJudged s (label.Top rel attr row)) (sym x.2.3) made

pub top_has : (s : Spec) (rel : RelId) (attr : AttrId) (row : RowId) (clause : List Signed) → judged_of s
    (label.Top rel attr row) ≡ Some clause
    → HasAxiom s (label.Top rel attr row)
top_has s rel attr row clause e =
    let found = in_relation_is s.relations rel (top_clause rel attr row) clause e in
    by found.0 found.1 found.2 (entity_of found.0.rows row.0) refl
  where
    by : (r : Relation) → slice_get s.relations rel.0 ≡ Some r → top_clause rel attr row r ≡ Some clause →
        (o : Option ℕ) → entity_of r.rows row.0 ≡ o
        → HasAxiom s (label.Top rel attr row)
    by r at e None of =
        let none : cond (is_attr r attr) None None ≡ Some clause = rw of at e in
        absurd (none-some clause (given_if (is_attr r attr) None clause none).1)
    by r at e (Some ent) of =
        let parts = given_if (is_attr r attr) (Some (top_signed rel attr row r ent)) clause
        (sym (top_at rel attr row r ent of) ∙ e) in (
          top rel attr row ∷ map (λ other. not_before rel attr other row) (others r.rows ent row),
          (r, at, (passed_attr r attr parts.0, ent, of, refl)),
        )

-- ---- a row's value is current where the row stands last

pub row_in : (relations : List Relation) (rel : RelId) (attr : AttrId) (row : RowId) (r : Relation)
    → AreRelations relations → slice_get relations rel.0 ≡ Some r
    → attr.0 < length r.attrs → row.0 < length r.rows → IsRowIn relations rel attr row r
row_in relations rel attr row r are at inside within =
    record { is_relation = at; facts = all_at IsRelation relations rel.0 r are.each at; attr_in = inside; row_in = within }

pub last_made : (s : Spec) (rel : RelId) (attr : AttrId) (row : RowId) (clause : List Said)
    → AreRelations s.relations → IsAxiom s (label.Last rel attr row) clause
    → IsJudged s (label.Last rel attr row) clause
last_made s rel attr row clause are x =
    let r = x.0 in
    let here : List Signed = judged.not_top rel attr row ∷ judged.last rel attr row ∷ [] in
    let its = entity_there r.rows row.0 x.2.1 in
    let is_in = row_in s.relations rel attr row r are x.1 x.2.0 x.2.1 in
    let made : IsJudged s (label.Last rel attr row) (not_top rel attr row ∷ last rel attr (name_of r.rows attr.0 row)
    ∷ []) = record {
      signed = here;
      is = in_relation_at s.relations rel r (last_clause rel attr row) x.1
          ∙ then_given (is_attr r attr && same_entity r.rows row row) (Some here)
          (and_from (is_attr r attr) (same_entity r.rows row row) (attr_passes r attr x.2.0)
          (entity_passes r.rows row row its.0 its.1 its.1));
      agree = (top_agrees s.relations rel attr row true, (last_agrees s.relations rel attr row false r is_in, tt));
    } in
    subst (IsJudged s (label.Last rel attr row)) (sym x.2.2) made

pub last_has : (s : Spec) (rel : RelId) (attr : AttrId) (row : RowId) (clause : List Signed) → judged_of s
    (label.Last rel attr row) ≡ Some clause
    → HasAxiom s (label.Last rel attr row)
last_has s rel attr row clause e =
    let found = in_relation_is s.relations rel (last_clause rel attr row) clause e in
    let r = found.0 in
    let here : List Signed = judged.not_top rel attr row ∷ judged.last rel attr row ∷ [] in
    let parts = given_if (is_attr r attr && same_entity r.rows row row) (Some here) clause found.2 in
    let both = and_parts (is_attr r attr) (same_entity r.rows row row) parts.0 in
    let its = passed_entity r.rows row row both.1 in (
      not_top rel attr row ∷ last rel attr (name_of r.rows attr.0 row) ∷ [],
      (r, found.1, (passed_attr r attr both.0, row_within r.rows row.0 its.0 its.1, refl)),
    )

-- ---- a value that is current is of a row that stands last

value_signed : RelId → AttrId → RowId → Relation → ℕ → List Signed
value_signed rel attr row r ent = judged.not_last rel attr row ∷ map (judged.top rel attr) (judged.alike r.rows attr.0 ent row)

value_at : (rel : RelId) (attr : AttrId) (row : RowId) (r : Relation) (ent : ℕ) → entity_of r.rows row.0 ≡ Some ent
    → value_clause rel attr row r ≡ cond (is_attr r attr) (Some (value_signed rel attr row r ent)) None
unfolding value_signed
value_at rel attr row r ent of = rw of refl

pub value_made : (s : Spec) (rel : RelId) (attr : AttrId) (row : RowId) (clause : List Said)
    → AreRelations s.relations → IsAxiom s (label.Value rel attr row) clause
    → IsJudged s (label.Value rel attr row) clause
unfolding value_signed
value_made s rel attr row clause are x =
    let r = x.0 in
    let ent = x.2.1 in
    let of = x.2.2 in
    let is_in = row_in s.relations rel attr row r are x.1 x.2.0 (row_within r.rows row.0 ent of) in
    let agree : AllAgree s.relations (map (top rel attr) (alike r.rows attr.0 ent row))
    (map (judged.top rel attr) (judged.alike r.rows attr.0 ent row)) =
    subst (λ rows. AllAgree s.relations (map (top rel attr) rows)
    (map (judged.top rel attr) (judged.alike r.rows attr.0 ent row))) (alike_are r.rows attr.0 ent row of)
    (all_agree_map s.relations (top rel attr) (judged.top rel attr)
    (λ other. top_agrees s.relations rel attr other false) (judged.alike r.rows attr.0 ent row)) in
    let made : IsJudged s (label.Value rel attr row) (not_last rel attr (name_of r.rows attr.0 row)
    ∷ map (top rel attr) (alike r.rows attr.0 ent row)) = record {
      signed = value_signed rel attr row r ent;
      is = in_relation_at s.relations rel r (value_clause rel attr row) x.1
          ∙ value_at rel attr row r ent of ∙ then_given (is_attr r attr) (Some (value_signed rel attr row r ent))
          (attr_passes r attr x.2.0);
      agree = (last_agrees s.relations rel attr row true r is_in, agree);
    } in
    subst (IsJudged s (label.Value rel attr row)) (sym x.2.3) made

pub value_has : (s : Spec) (rel : RelId) (attr : AttrId) (row : RowId) (clause : List Signed) → judged_of s
    (label.Value rel attr row) ≡ Some clause
    → HasAxiom s (label.Value rel attr row)
value_has s rel attr row clause e =
    let found = in_relation_is s.relations rel (value_clause rel attr row) clause e in
    by found.0 found.1 found.2 (entity_of found.0.rows row.0) refl
  where
    by : (r : Relation) → slice_get s.relations rel.0 ≡ Some r → value_clause rel attr row r ≡ Some clause →
        (o : Option ℕ) → entity_of r.rows row.0 ≡ o
        → HasAxiom s (label.Value rel attr row)
    by r at e None of =
        let none : cond (is_attr r attr) None None ≡ Some clause = rw of at e in
        absurd (none-some clause (given_if (is_attr r attr) None clause none).1)
    by r at e (Some ent) of =
        let parts = given_if (is_attr r attr) (Some (value_signed rel attr row r ent)) clause
        (sym (value_at rel attr row r ent of) ∙ e) in (
          not_last rel attr (name_of r.rows attr.0 row) ∷ map (top rel attr) (alike r.rows attr.0 ent row),
          (r, at, (passed_attr r attr parts.0, ent, of, refl)),
        )
