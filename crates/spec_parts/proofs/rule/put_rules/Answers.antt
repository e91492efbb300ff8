use Rattle.spec_parts.proofs.Pairing.{read_item}
use Rattle.spec_parts.proofs.PartRules.{rule_fits, rule_more}
use Rattle.spec_parts.proofs.rule.put_rules.Goals as goal

pub add_rule-requires : goal.add_rule-requires
add_rule-requires c =
    let rules = c.args.whole.now.rules in
    let items = c.rules-rule-items in
    let at = read_item rules items.result.now c.loop-rule.rule-index c.rule-item.result items.ensures.value c.loop-rule-test.true
    c.rule-item.is in
    rule_fits c.args.part.now c.loop-rule.part rules c.loop-rule.rule-index c.rule-item.result
    c.in_ok-copied_rule.field-0 c.requires.rules
    at
    c.in_ok-copied_rule.ensures c.loop-rule.invariant

pub loop-rule-preserved : goal.loop-rule-preserved
loop-rule-preserved c =
    let rules = c.args.whole.now.rules in
    let items = c.rules-rule-items in
    let at = read_item rules items.result.now c.loop-rule.rule-index c.rule-item.result items.ensures.value c.loop-rule-test.true
    c.rule-item.is in
    rule_more c.args.part.now c.loop-rule.part c.add_rule.new.self rules c.loop-rule.rule-index c.rule-item.result
    c.in_ok-copied_rule.field-0 at
    c.in_ok-copied_rule.ensures c.loop-rule.invariant c.in_ok-add_rule.ensures.ok
