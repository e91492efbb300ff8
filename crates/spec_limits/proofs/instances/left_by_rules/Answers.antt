use Rattle.std.proofs.Common.{◌≡◌, ◌<◌, ◌∙◌, length, get_or, sym, ap}
use Rattle.spec_limits.specs.Instances.{rule_instances}
use Rattle.spec_limits.specs.Left.{left_of}
use Rattle.spec_limits.proofs.Leaving.{goes_on, stops, ends}
use Rattle.spec_limits.proofs.OfSpec.{rule_at, rule_sum}
use Rattle.spec_limits.proofs.instances.left_by_rules.Goals as goal

pub returns-in_default : goal.returns-in_default
returns-in_default c =
    let s = c.args.spec.now in
    let rule = c.rule-item.result in
    let within : c.loop-rule.rule-index < length s.rules = rw c.rules-rule-items.ensures.value at c.loop-rule-test.true in
    let read : rule ≡ get_or s.rules c.loop-rule.rule-index rule = rw c.rules-rule-items.ensures.value at c.rule-item.is in
    let of = rule_at s.relations s.rules c.loop-rule.rule-index rule c.rules-rule-items.ensures.facts within read in
    let here = rule_sum s.relations c.args.lists.now rule c.get-entities.result.now c.requires of c.get-entities.ensures in
    let left = c.left_by_rule.ensures ∙ ap (left_of c.loop-rule.left) (rw (← c.as_slice.ensures) at here) in
    sym (stops (rule_instances s.relations) s.rules c.loop-rule.rule-index rule c.args.left c.loop-rule.left within
    read c.loop-rule.invariant
    (sym left ∙ c.in_default.is))

pub loop-rule-preserved : goal.loop-rule-preserved
loop-rule-preserved c =
    let s = c.args.spec.now in
    let rule = c.rule-item.result in
    let within : c.loop-rule.rule-index < length s.rules = rw c.rules-rule-items.ensures.value at c.loop-rule-test.true in
    let read : rule ≡ get_or s.rules c.loop-rule.rule-index rule = rw c.rules-rule-items.ensures.value at c.rule-item.is in
    let of = rule_at s.relations s.rules c.loop-rule.rule-index rule c.rules-rule-items.ensures.facts within read in
    let here = rule_sum s.relations c.args.lists.now rule c.get-entities.result.now c.requires of c.get-entities.ensures in
    let left = c.left_by_rule.ensures ∙ ap (left_of c.loop-rule.left) (rw (← c.as_slice.ensures) at here) in
    goes_on (rule_instances s.relations) s.rules c.loop-rule.rule-index rule c.args.left c.loop-rule.left
    c.in-Some.rest within read c.loop-rule.invariant
    (sym left ∙ c.in-Some.is)

pub returns : goal.returns
returns c =
    sym (ends (rule_instances c.args.spec.now.relations) c.args.spec.now.rules c.loop-rule.rule-index c.args.left c.loop-rule.left
    (rw c.rules-rule-items.ensures.value at c.loop-rule-test.false) c.loop-rule.invariant)
