-- The first rules of a specification, and one more.
use Rattle.std.proofs.Common.{◌≡◌, ◌+◌, ◌≤◌, ◌∙◌, ℕ, List, [], ◌∷◌, ◌++◌, Some, length, map, take, slice_get, sym, ap, subst, arith}
use Rattle.std.proofs.lemmas.Grind.{common_steps}
use Rattle.currency_base.specs.Lists.{OnlyOnce}
use Rattle.denial_rules.specs.declared.rule.Rule.{Rule}
use Rattle.spec_model.specs.Facts.{IsRuleOf, AreRules}
use Rattle.spec_model.specs.Spec.{Spec}
use Rattle.spec_model.specs.declared.relation.Relation.{Relation}
use Rattle.spec_parts.proofs.Pairing.{item_has, each_has, get_take, take_next, unmapped, mapped}

length_front : {A : Type 0} (k : ℕ) (xs : List A) → length (take k xs) ≤ length xs
length_front k xs = grind (arith, common_steps)

first_rules : (relations : List Relation) (rules : List Rule) (k : ℕ) → AreRules relations rules → AreRules relations
    (take k rules)
first_rules relations rules k are = record {
  few = omega (arith, length_front k rules, are.few);
  each = each_has (IsRuleOf relations) (take k rules)
      (λ i x at. item_has (IsRuleOf relations) rules are.each i x (get_take k rules i x at).1);
  names = once;
}
  where
    once : OnlyOnce (map (λ (x : Rule). x.name) (take k rules))
    once i j x at_i at_j =
        let a = unmapped (λ (y : Rule). y.name) (take k rules) i x at_i in
        let b = unmapped (λ (y : Rule). y.name) (take k rules) j x at_j in
        are.names i j x (mapped (λ (y : Rule). y.name) rules i a.0 (get_take k rules i a.0 a.1).1 ∙ ap Some a.2)
        (mapped (λ (y : Rule). y.name) rules j b.0 (get_take k rules j b.0 b.1).1 ∙ ap Some b.2)

pub rule_fits : (start now : Spec) (rules : List Rule) (k : ℕ) (rule copy : Rule) → AreRules start.relations rules
    → slice_get rules k ≡ Some rule
    → copy ≡ rule → now ≡ record start { rules = take k rules } → AreRules now.relations (now.rules ++ copy ∷ [])
rule_fits start now rules k rule copy are at same is =
    let one : AreRules start.relations (take k rules ++ rule ∷ []) = subst (AreRules start.relations) (take_next rules k rule at)
    (first_rules start.relations rules (k + 1) are) in
    subst (λ (s : Spec). AreRules s.relations (s.rules ++ copy ∷ [])) (sym is)
    (subst (λ c. AreRules start.relations (take k rules ++ c ∷ [])) (sym same) one)

pub rule_more : (start now new : Spec) (rules : List Rule) (k : ℕ) (rule copy : Rule) → slice_get rules k ≡ Some rule
    → copy ≡ rule → now ≡ record start { rules = take k rules } → new ≡ record now { rules = now.rules ++ copy ∷ [] }
    → new ≡ record start { rules = take (k + 1) rules }
rule_more start now new rules k rule copy at same is put =
    put ∙ ap (λ (s : Spec). let t : Spec = record s { rules = s.rules ++ copy ∷ [] } in t) is
    ∙ ap (λ rs. let t : Spec = record start { rules = rs } in t) (ap (λ c. take k rules ++ c ∷ []) same
    ∙ sym (take_next rules k rule at))
