-- A rule, its relation and what is kept for that, as they are read.
use Rattle.std.proofs.Common.{◌≡◌, ◌<◌, ◌∙◌, ℕ, List, [], Some, length, get_or, slice_get, slice_index_or, refl, sym, subst}
use Rattle.std.proofs.lemmas.List.{get_or_read}
use Rattle.std.proofs.lemmas.Option.{same_Some, slice_get_within, slice_get_read}
use Rattle.denial_rules.specs.Rules.{IsRuleOn}
use Rattle.denial_rules.specs.declared.rule.Rule.{Rule}
use Rattle.spec_model.specs.Facts.{IsRelation, AreRelations, IsRuleOf, AreRules, kinds_of}
use Rattle.spec_model.specs.declared.relation.Relation.{Relation}
use Rattle.completion_check.proofs.Kept.{all_at}

-- a rule at a number and the relation that it is on
pub record IsOfRule (relations : List Relation) (rules : List Rule) (n : ℕ) (rule : Rule) (r : Relation) : Type 0 where
  pub is_rule : slice_get rules n ≡ Some rule
  pub is_relation : slice_get relations rule.relation.0 ≡ Some r
  pub within : rule.relation.0 < length relations
  pub is : IsRelation r
  pub fits : IsRuleOn (kinds_of r) rule

-- the number of the relation of a rule that is read is that of a relation
pub rule_within : (relations : List Relation) (rules : List Rule) (n : ℕ) (rule : Rule) → AreRules relations rules
    → n < length rules
    → rule ≡ get_or rules n rule → rule.relation.0 < length relations
rule_within relations rules n rule are below read =
    let at = slice_get_read rules (length rules) n rule refl below read in
    let of : IsRuleOf relations rule = all_at (IsRuleOf relations) rules n rule are.each at in
    slice_get_within relations rule.relation.0 of.relation of.is_relation

-- what is read at the rule's number, and at that of its relation
pub rule_read : (relations : List Relation) (rules : List Rule) (n : ℕ) (rule : Rule) (r : Relation) → AreRelations relations
    → AreRules relations rules → n < length rules → rule ≡ get_or rules n rule → r ≡ get_or relations rule.relation.0 r
    → IsOfRule relations rules n rule r
rule_read relations rules n rule r are are_rules below read_rule read_relation =
    let at_rule = slice_get_read rules (length rules) n rule refl below read_rule in
    let of : IsRuleOf relations rule = all_at (IsRuleOf relations) rules n rule are_rules.each at_rule in
    let within = slice_get_within relations rule.relation.0 of.relation of.is_relation in
    let at_relation = slice_get_read relations (length relations) rule.relation.0 r refl within read_relation in
    let same = same_Some of.relation r (sym of.is_relation ∙ at_relation) in
    record {
      is_rule = at_rule;
      is_relation = at_relation;
      within = within;
      is = all_at IsRelation relations rule.relation.0 r are.each at_relation;
      fits = subst (λ (q : Relation). IsRuleOn (kinds_of q) rule) same of.fits;
    }

-- the list that is read at a number of which there are as many lists as relations
pub kept_read : {A B : Type 0} (relations : List A) (lists : List (List B)) (n : ℕ) (own : List B)
    → length lists ≡ length relations
    → n < length relations → own ≡ get_or lists n own → own ≡ slice_index_or lists n []
kept_read relations lists n own count within read = get_or_read lists n own (subst (λ (m : ℕ). n < m) (sym count) within) read []
