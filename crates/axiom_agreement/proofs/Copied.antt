-- The axioms of copy functions.
use Rattle.std.proofs.Common.{◌≡◌, ◌∙◌, ◌&&◌, true, false, cond, ℕ, List, [], ◌∷◌, Option, Some, None, slice_get, refl, sym, ap, subst}
use Rattle.std.proofs.lemmas.Bool.{and_from, and_parts}
use Rattle.std.proofs.lemmas.Option.{none-some}
use Rattle.currency_base.specs.declared.ids.CopyId.{CopyId}
use Rattle.currency_base.specs.declared.ids.RowId.{RowId}
use Rattle.copy_functions.specs.Copies.{CopyFunction, source_at}
use Rattle.copy_functions.specs.declared.place.Place.{Place}
use Rattle.spec_model.specs.Spec.{Spec}
use Rattle.spec_model.specs.declared.relation.Relation.{Relation}
use Rattle.refutation_log.specs.declared.step.Label.TheVariants as label
use Rattle.log_axioms.specs.Axioms as judged
use Rattle.log_axioms.specs.Axioms.{are_two, place_clause, copy_clause, in_relation, of_copy}
use Rattle.log_axioms.specs.declared.signed.Signed.{Signed}
use Rattle.order_literals.specs.Axioms.{IsCopyAxiom, IsAxiom}
use Rattle.order_literals.specs.Said.{Said, before, not_before}
use Rattle.axiom_agreement.proofs.Sayings.{IsJudged, HasAxiom, judged_of, order_agrees}
use Rattle.axiom_agreement.proofs.Tests.{two_pass, passed_two, given_if, then_given, in_relation_at, in_relation_is}

pub copy_made : (s : Spec) (k : CopyId) (place : ℕ) (first second : RowId) (clause : List Said)
    → IsAxiom s (label.Copy k place first second) clause
    → IsJudged s (label.Copy k place first second) clause
copy_made s k place first second clause x =
    let copy = x.0 in
    let y = x.2 in
    let at_source : Relation → Option (List Signed) = λ target. in_relation s.relations copy.source
    (copy_clause copy place first second target) in
    let here : List Signed =
    judged.not_before copy.source y.at.source y.first_source y.second_source ∷ judged.before copy.target y.at.target
    first second ∷ [] in
    let two_and_two = are_two y.target.rows first second && are_two y.source.rows y.first_source y.second_source in
    let passes =
    and_from (are_two y.target.rows first second) (are_two y.source.rows y.first_source y.second_source)
    (two_pass y.target.rows first second y.targets) (two_pass y.source.rows y.first_source y.second_source y.sources) in
    let rows : copy_clause copy place first second y.target y.source ≡ Some here =
    rw (y.first_from, y.second_from)
    (then_given two_and_two (place_clause copy first second y.first_source y.second_source (slice_get copy.places place)) passes
    ∙ ap (place_clause copy first second y.first_source y.second_source) y.is_place) in
    let made : IsJudged s (label.Copy k place first second) (not_before copy.source y.at.source y.first_source
    y.second_source ∷ before copy.target y.at.target first second ∷ []) = record {
      signed = here;
      is = ap (of_copy s place first second) x.1 ∙ in_relation_at s.relations copy.target y.target at_source y.is_target
          ∙ in_relation_at s.relations copy.source y.source (copy_clause copy place first second y.target) y.is_source ∙ rows;
      agree = (
        order_agrees s.relations copy.source y.at.source y.first_source y.second_source true,
        (order_agrees s.relations copy.target y.at.target first second false, tt),
      );
    } in
    subst (IsJudged s (label.Copy k place first second)) (sym y.clause_is) made

-- what a clause of a copy function tells of its rows
record IsCopyClause (copy : CopyFunction) (place : ℕ) (first second : RowId) (target source : Relation) : Type 0 where
  at : Place
  is_place : slice_get copy.places place ≡ Some at
  first_source : RowId
  second_source : RowId
  first_from : source_at copy first ≡ Some first_source
  second_from : source_at copy second ≡ Some second_source
  targets : are_two target.rows first second ≡ true
  sources : are_two source.rows first_source second_source ≡ true

place_is : (copy : CopyFunction) (first second s w : RowId) (o : Option Place) (clause : List Signed)
    → place_clause copy first second s w o ≡ Some clause → (at : Place) × (o ≡ Some at)
place_is copy first second s w None clause e = absurd (none-some clause e)
place_is copy first second s w (Some at) clause e = (at, refl)

copy_parts : (copy : CopyFunction) (place : ℕ) (first second : RowId) (target source : Relation) (clause : List Signed)
    → copy_clause copy place first second target source ≡ Some clause → IsCopyClause copy place first second target source
copy_parts copy place first second target source clause e = by (source_at copy first) (source_at copy second) refl refl e
  where
    by : (o p : Option RowId) → source_at copy first ≡ o → source_at copy second ≡ p → copy_clause copy place first
        second target source ≡ Some clause
        → IsCopyClause copy place first second target source
    by None p of_first of_second e = let none : None ≡ Some clause = rw of_first at e in absurd (none-some clause none)
    by (Some s) None of_first of_second e = let none : None ≡ Some clause = rw (of_first, of_second) at e in absurd
        (none-some clause none)
    by (Some s) (Some w) of_first of_second e =
        let two_and_two = are_two target.rows first second && are_two source.rows s w in
        let here : cond two_and_two (place_clause copy first second s w (slice_get copy.places place)) None ≡ Some
        clause = rw (of_first, of_second) at e in
        let parts = given_if two_and_two (place_clause copy first second s w (slice_get copy.places place)) clause here in
        let both = and_parts (are_two target.rows first second) (are_two source.rows s w) parts.0 in
        let its = place_is copy first second s w (slice_get copy.places place) clause parts.1 in
        record {
          at = its.0;
          is_place = its.1;
          first_source = s;
          second_source = w;
          first_from = of_first;
          second_from = of_second;
          targets = both.0;
          sources = both.1;
        }

pub copy_has : (s : Spec) (k : CopyId) (place : ℕ) (first second : RowId) (clause : List Signed) → judged_of s
    (label.Copy k place first second) ≡ Some clause
    → HasAxiom s (label.Copy k place first second)
copy_has s k place first second clause e = by (slice_get s.copies k.0) refl e
  where
    by : (o : Option CopyFunction) → slice_get s.copies k.0 ≡ o → of_copy s place first second o ≡ Some clause
        → HasAxiom s (label.Copy k place first second)
    by None at e = absurd (none-some clause e)
    by (Some copy) at e =
        let target = in_relation_is s.relations copy.target (λ t. in_relation s.relations copy.source
        (copy_clause copy place first second t)) clause e in
        let source = in_relation_is s.relations copy.source (copy_clause copy place first second target.0) clause target.2 in
        let is = copy_parts copy place first second target.0 source.0 clause source.2 in
        let said : List Said = not_before copy.source is.at.source is.first_source is.second_source
        ∷ before copy.target is.at.target first second ∷ [] in
        let made : IsCopyAxiom s copy place first second said = record {
          target = target.0;
          source = source.0;
          is_target = target.1;
          is_source = source.1;
          at = is.at;
          is_place = is.is_place;
          first_source = is.first_source;
          second_source = is.second_source;
          first_from = is.first_from;
          second_from = is.second_from;
          targets = passed_two target.0.rows first second is.targets;
          sources = passed_two source.0.rows is.first_source is.second_source is.sources;
          clause_is = refl;
        } in
        (said, (copy, at, made))
