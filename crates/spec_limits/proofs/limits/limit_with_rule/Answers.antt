use Rattle.std.proofs.Common.{◌∙◌, length, sym, ap, arith}
use Rattle.denial_rules.specs.declared.rule.Rule.{Rule}
use Rattle.spec_limits.proofs.Chain.{too_many_rules, too_long_rule, rule_within}
use Rattle.spec_limits.proofs.limits.limit_with_rule.Goals as goal

pub returns-then-rules-ge-MOST_RULES : goal.returns-then-rules-ge-MOST_RULES
returns-then-rules-ge-MOST_RULES c =
    sym (too_many_rules c.args.spec.now c.args.rule.now c.requires
    (omega (arith, c.if-rules-ge-MOST_RULES.true, ap (length {A = Rule}) c.rules.ensures.value)))

pub returns-then-is_long : goal.returns-then-is_long
returns-then-is_long c =
    sym (too_long_rule c.args.spec.now c.args.rule.now c.requires
    (omega (arith, c.if-rules-ge-MOST_RULES.false, ap (length {A = Rule}) c.rules.ensures.value))
    (sym c.is_long.ensures ∙ c.if-is_long.true))

pub returns : goal.returns
returns c =
    sym (rule_within c.args.spec.now c.args.rule.now c.requires
    (omega (arith, c.if-rules-ge-MOST_RULES.false, ap (length {A = Rule}) c.rules.ensures.value))
    (sym c.is_long.ensures ∙ c.if-is_long.false))
