-- The axioms of rules.
use Rattle.std.proofs.Common.{◌≡◌, ◌∙◌, ◌==◌, ◌&&◌, true, false, List, ◌++◌, Option, Some, None, length, map, slice_get, refl, sym, ap, subst}
use Rattle.std.proofs.lemmas.Bool.{and_from, and_parts, eqb-true, eq-eqb}
use Rattle.std.proofs.lemmas.Option.{none-some}
use Rattle.currency_base.specs.declared.ids.RelId.{RelId}
use Rattle.currency_base.specs.declared.ids.RowId.{RowId}
use Rattle.currency_base.specs.declared.ids.RuleId.{RuleId}
use Rattle.currency_base.specs.declared.pair.Pair.{Pair}
use Rattle.denial_rules.specs.Instances.{instance_of}
use Rattle.denial_rules.specs.declared.instance.RuleInstance.{RuleInstance}
use Rattle.denial_rules.specs.declared.rule.Rule.{Rule}
use Rattle.spec_model.specs.Facts.{AreRules, IsRuleOf}
use Rattle.spec_model.specs.Spec.{Spec}
use Rattle.spec_model.specs.declared.relation.Relation.{Relation}
use Rattle.refutation_log.specs.declared.step.Label.TheVariants as label
use Rattle.log_axioms.specs.Axioms as judged
use Rattle.log_axioms.specs.Axioms.{of_one_entity, concluded_clause, rule_clause, of_rule}
use Rattle.log_axioms.specs.declared.signed.Signed.{Signed}
use Rattle.order_literals.specs.Axioms.{conclusion_clause, instance_clause, IsAxiom}
use Rattle.order_literals.specs.Said.{Said, not_before}
use Rattle.order_clauses.proofs.Reading.{all_at}
use Rattle.axiom_agreement.proofs.Agreeing.{AllAgree, all_agree_map, all_agree_both}
use Rattle.axiom_agreement.proofs.Sayings.{IsJudged, HasAxiom, judged_of, order_agrees}
use Rattle.axiom_agreement.proofs.Tests.{choice_passes, passed_choice, given_if, then_given, in_relation_at, in_relation_is}

-- ---- the clause of an instance

-- what the judge has of the pairs of rows that are its premises
abbrev denied : RelId → List Pair → List Signed
denied rel pairs = map (λ p. judged.not_before rel p.attr p.earlier p.later) pairs

conclusions_agree : (relations : List Relation) (rel : RelId) (o : Option Pair) → AllAgree relations
    (conclusion_clause rel o) (concluded_clause rel o)
conclusions_agree relations rel None = tt
conclusions_agree relations rel (Some p) = (order_agrees relations rel p.attr p.earlier p.later false, tt)

instances_agree : (relations : List Relation) (rel : RelId) (i : RuleInstance)
    → AllAgree relations (instance_clause rel i) (denied rel i.premises ++ concluded_clause rel i.conclusion)
instances_agree relations rel i =
    let said : Pair → Said = λ p. not_before rel p.attr p.earlier p.later in
    all_agree_both relations (map said i.premises) (conclusion_clause rel i.conclusion) (denied rel i.premises)
    (concluded_clause rel i.conclusion)
    (all_agree_map relations said (λ p. judged.not_before rel p.attr p.earlier p.later)
    (λ p. order_agrees relations rel p.attr p.earlier p.later true) i.premises)
    (conclusions_agree relations rel i.conclusion)

instance_is : (rel : RelId) (o : Option RuleInstance) (clause : List Signed) → judged.instance_clause rel o ≡ Some
    clause → (i : RuleInstance) × (o ≡ Some i)
instance_is rel None clause e = absurd (none-some clause e)
instance_is rel (Some i) clause e = (i, refl)

-- ---- the clause of a label

pub rule_made : (s : Spec) (k : RuleId) (rows : List RowId) (clause : List Said) → AreRules s.relations s.rules
    → IsAxiom s (label.Rule k rows) clause
    → IsJudged s (label.Rule k rows) clause
rule_made s k rows clause are x =
    let rule = x.0 in
    let r = x.2.0 in
    let choice = x.2.2.0 in
    let i = x.2.2.1 in
    let some = (all_at (IsRuleOf s.relations) s.rules k.0 rule are.each x.1).fits.some_var in
    let here : List Signed = denied rule.relation i.premises ++ concluded_clause rule.relation i.conclusion in
    let fits =
    and_from (length rows == rule.vars) (of_one_entity r.rows rows) (eq-eqb (length rows) rule.vars choice.one_each)
    (choice_passes r.rows rule.vars rows choice some) in
    let made : IsJudged s (label.Rule k rows) (instance_clause rule.relation i) = record {
      signed = here;
      is = ap (of_rule s rows) x.1 ∙ in_relation_at s.relations rule.relation r (rule_clause rule rows) x.2.1
          ∙ then_given ((length rows == rule.vars) && of_one_entity r.rows rows)
          (judged.instance_clause rule.relation (instance_of rule r.rows rows)) fits
          ∙ ap (judged.instance_clause rule.relation) x.2.2.2;
      agree = instances_agree s.relations rule.relation i;
    } in
    subst (IsJudged s (label.Rule k rows)) (sym x.2.2.3) made

pub rule_has : (s : Spec) (k : RuleId) (rows : List RowId) (clause : List Signed) → judged_of s (label.Rule k rows) ≡
    Some clause → HasAxiom s (label.Rule k rows)
rule_has s k rows clause e = by (slice_get s.rules k.0) refl e
  where
    by : (o : Option Rule) → slice_get s.rules k.0 ≡ o → of_rule s rows o ≡ Some clause → HasAxiom s (label.Rule k rows)
    by None at e = absurd (none-some clause e)
    by (Some rule) at e =
        let found = in_relation_is s.relations rule.relation (rule_clause rule rows) clause e in
        let r = found.0 in
        let parts =
        given_if ((length rows == rule.vars) && of_one_entity r.rows rows)
        (judged.instance_clause rule.relation (instance_of rule r.rows rows)) clause found.2 in
        let both = and_parts (length rows == rule.vars) (of_one_entity r.rows rows) parts.0 in
        let choice = passed_choice r.rows rule.vars rows (eqb-true (length rows) rule.vars both.0) both.1 in
        let i = instance_is rule.relation (instance_of rule r.rows rows) clause parts.1 in
        (instance_clause rule.relation i.0, (rule, at, (r, found.1, (choice, i.0, i.1, refl))))
