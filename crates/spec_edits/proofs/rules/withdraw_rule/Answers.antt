use Rattle.spec_edits.proofs.RuleEdits.{withdrawn_edit}
use Rattle.spec_edits.proofs.rules.withdraw_rule.Goals as goal

pub returns-clause-ok : goal.returns-clause-ok
returns-clause-ok c =
    withdrawn_edit c.args.spec.now c.withdraw_rule.new.self c.args.rule c.withdraw_rule.ensures.value
