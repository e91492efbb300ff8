use Rattle.std.proofs.Common.{◌+◌, length, refl, arith}
use Rattle.currency_base.specs.declared.ids.RuleId.{RuleId}
use Rattle.forced_closure.specs.Clauses.{OfRule, OfRules}
use Rattle.forced_closure.proofs.Adding.{adds_none, adds_then, adds_as, rules_cases}
use Rattle.forced_closure.proofs.ruled.add_rules.Goals as goal

pub loop-rule-init : goal.loop-rule-init
loop-rule-init c = adds_none c.args.subject.now c.args.gathered.now (OfRules c.args.subject.now 0)
    (λ o is. absurd (omega (arith, is.below)))

pub loop-rule-preserved : goal.loop-rule-preserved
loop-rule-preserved c =
    let k : RuleId = record { 0 = c.loop-rule.rule } in
    adds_then c.args.subject.now c.args.gathered.now c.loop-rule.gathered c.add_rule.new.gathered
    (OfRules c.args.subject.now c.loop-rule.rule) (OfRule c.args.subject.now k)
    (OfRules c.args.subject.now (c.loop-rule.rule + 1)) c.loop-rule.invariant c.in_ok-add_rule.ensures
    (λ o is. rules_cases c.args.subject.now c.loop-rule.rule k o refl is)

pub returns : goal.returns
returns c =
    adds_as c.args.subject.now c.args.gathered.now c.loop-rule.gathered (OfRules c.args.subject.now c.loop-rule.rule)
    (OfRules c.args.subject.now (length c.args.subject.now.spec.rules)) c.loop-rule.invariant
    (λ o is. record { k = is.k; below = omega (arith, is.below); of = is.of })
