use Rattle.spec_edits.proofs.RuleEdits.{rule_edit}
use Rattle.spec_edits.proofs.rules.add_rule.Goals as goal

pub returns-clause-ok : goal.returns-clause-ok
returns-clause-ok c =
    rule_edit c.args.spec.now c.add_rule.new.self c.args.rule c.args.lists.now c.in_ok-rest.rest c.in_ok-rest.ensures.counted
    c.in_ok-add_rule.ensures.ok
